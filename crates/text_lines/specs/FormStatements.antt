-- What forms of lines promise of the first fault.
use Rattle.std.specs.Prelude.{◌≡◌, ◌≢◌, ◌⊎◌, ℕ, List, [], ◌∷◌, ◌++◌, Err}
use Rattle.text_lines.specs.Faults.{FaultAt}
use Rattle.text_lines.specs.Forms.{Seen, Kinds, Form, IsDocument, reading}

-- some document begins with these lines
pub record BeginsDocument {L K A : Type 0} (f : Form L K A) (rows : List (Seen L)) : Type 0 where
  pub more : List (Seen L)
  pub said : A
  pub is : IsDocument f (rows ++ more) said

-- The lines before this one begin some document, and together with it they begin none.
pub record IsWhereNoneGoesOn {L K A : Type 0} (f : Form L K A) (rows : List (Seen L)) (number : ℕ) : Type 0 where
  pub before : List (Seen L)
  pub row : Seen L
  pub after : List (Seen L)
  pub rows_are : rows ≡ before ++ row ∷ after
  pub number_is : number ≡ row.number
  pub begins : BeginsDocument f before
  pub refused : ¬ BeginsDocument f (before ++ row ∷ [])

-- The lines begin some document, and are not one.
pub record IsUnfinished {L K A : Type 0} (f : Form L K A) (rows : List (Seen L)) : Type 0 where
  pub begins : BeginsDocument f rows
  pub refused : (said : A) → ¬ IsDocument f rows said

-- The first fault is in the first line with which no document continues. Or the lines begin a document without being one, and the fault is that they end.
abbrev pub FaultsAreWhereNoneGoesOn : {L K A : Type 0} → Kinds K → Form L K A → List (Seen L) → ℕ → Type 0
FaultsAreWhereNoneGoesOn {L} {K} U f rows end = (fault : FaultAt K) → reading U f rows end ≡ Err fault
    → IsWhereNoneGoesOn f rows fault.line ⊎ ((fault ≡ record { line = end; kind = U.ended }) × IsUnfinished f rows)

-- If the lines before a line begin some document, and together with it they begin none, the first fault is in this line.
abbrev pub NoneGoesOnIsFault : {L K A : Type 0} → Kinds K → Form L K A → List (Seen L) → ℕ → Type 0
NoneGoesOnIsFault {L} {K} U f rows end = (number : ℕ) → IsWhereNoneGoesOn f rows number
    → (kind : K) × (reading U f rows end ≡ Err (record { line = number; kind = kind }))

-- The first fault is in the first line with which no document continues, and is not that the text ended. Or the lines begin a document without being
-- one, and the fault is that they end.
abbrev pub IsFirstWrong : {L K A : Type 0} → Kinds K → Form L K A → List (Seen L) → ℕ → Type 0
IsFirstWrong {L} {K} U f rows end = (fault : FaultAt K) → reading U f rows end ≡ Err fault
    → ((fault.kind ≢ U.ended) × IsWhereNoneGoesOn f rows fault.line) ⊎ ((fault ≡ record { line = end; kind = U.ended }) × IsUnfinished f rows)
