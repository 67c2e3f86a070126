-- The first fault is where no document continues.
use Rattle.std.proofs.Common.{◌≡◌, ◌⊎◌, inl, inr, ℕ, List, [], ◌∷◌, ◌++◌, Result, Ok, Err, refl, sym, ap, subst, ◌∙◌}
use Rattle.field_core.specs.Answers.{and_then, mapped}
use Rattle.field_core.proofs.Results.{same_value, same_fault}
use Rattle.text_lines.specs.Forms.{Seen}
use Rattle.text_lines.specs.Faults.{FaultAt, on_line}
use Rattle.text_lines.specs.Forms.{Form, Say, Line, Then, May, Many, Kinds, Took, Takes, Passes, Wrong, next, ended, took_on, leaving, read, all_read, reading}
use Rattle.text_lines.specs.Forms.{Is, IsDocument}
use Rattle.text_lines.specs.FormStatements.{BeginsDocument, IsWhereNoneGoesOn, IsUnfinished, FaultsAreWhereNoneGoesOn, NoneGoesOnIsFault}
use Rattle.text_lines.proofs.FormReads.{is_read, read_is}
use Rattle.text_lines.proofs.FormEnds.{can_on, Whole, CanAfter, Can}

module _ {L K : Type 0} (U : Kinds K) where
  whole_read : {A : Type 0} (f : Form L K A) (rows : List (Seen L)) (a : A) (end : ℕ) → IsDocument f rows a → reading U f rows end ≡ Ok a
  whole_read f rows a end h = let e = is_read U f rows a [] end h in rw e refl

  -- ---- one line

  -- a document continues after a line that is taken
  took_past : {A : Type 0} (f g : Form L K A) (row : Seen L) (rows : List (Seen L)) (a : A) → next U f row.line ≡ Takes g
      → IsDocument f (row ∷ rows) a → IsDocument g rows a
  took_past f g row rows a e h =
      let k : read U f (row ∷ rows) 0 ≡ Ok (a, []) = is_read U f (row ∷ rows) a [] 0 h in
      read_is U g rows 0 a [] (ap (λ t. took_on t row rows (λ x. read U x rows 0)) (sym e) ∙ k)

  took_before : {A : Type 0} (f g : Form L K A) (row : Seen L) (rows : List (Seen L)) (a : A) → next U f row.line ≡ Takes g
      → IsDocument g rows a → IsDocument f (row ∷ rows) a
  took_before f g row rows a e h =
      let k : read U g rows 0 ≡ Ok (a, []) = is_read U g rows a [] 0 h in
      read_is U f (row ∷ rows) 0 a [] (ap (λ t. took_on t row rows (λ x. read U x rows 0)) e ∙ k)

  passed : {A : Type 0} (f : Form L K A) (row : Seen L) (rows : List (Seen L)) (a b : A) → next U f row.line ≡ Passes b → ¬ IsDocument f (row ∷ rows) a
  passed {A} f row rows a b e h =
      let k : read U f (row ∷ rows) 0 ≡ Ok (a, []) = is_read U f (row ∷ rows) a [] 0 h in
      let p : ◌≡◌ {A = A × List (Seen L)} (b, row ∷ rows) (a, []) = same_value {A = A × List (Seen L)} _ _ (ap (λ t. took_on t row rows (λ x. read U x rows 0)) (sym e) ∙ k) in
      let q : row ∷ rows ≡ [] = ap (λ r. r.1) p in cc

  wronged : {A : Type 0} (f : Form L K A) (row : Seen L) (rows : List (Seen L)) (a : A) (kind : K) → next U f row.line ≡ Wrong kind → ¬ IsDocument f (row ∷ rows) a
  wronged {A} f row rows a kind e h =
      let k : read U f (row ∷ rows) 0 ≡ Ok (a, []) = is_read U f (row ∷ rows) a [] 0 h in
      let p : ◌≡◌ {A = Result (A × List (Seen L)) (FaultAt K)} (Err (record { line = row.number; kind = kind })) (Ok (a, [])) =
      ap (λ t. took_on t row rows (λ x. read U x rows 0)) (sym e) ∙ k in cc

  -- ---- the lines up to a fault

  begins_by : {A : Type 0} (f : Form L K A) → CanAfter U f Whole [] → BeginsDocument f []
  begins_by {A} f h = record { more = h.0; said = h.1.0; is = subst (λ rs. Is f h.0 h.1.0 rs) h.1.3 h.1.2 }

  -- at a line with which no document continues
  here_none : {A : Type 0} (f : Form L K A) (row : Seen L) (rows : List (Seen L)) → Can U f Whole → ((more : List (Seen L)) (a : A) → ¬ IsDocument f (row ∷ more) a)
      → IsWhereNoneGoesOn f (row ∷ rows) row.number
  here_none f row rows can n = record {
    before = [];
    row = row;
    after = rows;
    rows_are = refl;
    number_is = refl;
    begins = begins_by f (can []);
    refused = λ b. n b.more b.said b.is;
  }

  -- after a line that is taken
  later_none : {A : Type 0} (f g : Form L K A) (row : Seen L) (rows : List (Seen L)) (number : ℕ) → next U f row.line ≡ Takes g → IsWhereNoneGoesOn g rows number
      → IsWhereNoneGoesOn f (row ∷ rows) number
  later_none f g row rows number e w = record {
    before = row ∷ w.before;
    row = w.row;
    after = w.after;
    rows_are = ap (λ rs. row ∷ rs) w.rows_are;
    number_is = w.number_is;
    begins = record { more = w.begins.more; said = w.begins.said; is = took_before f g row (w.before ++ w.begins.more) w.begins.said e w.begins.is };
    refused = λ b. w.refused (record { more = b.more; said = b.said; is = took_past f g row ((w.before ++ w.row ∷ []) ++ b.more) b.said e b.is });
  }

  later_unfinished : {A : Type 0} (f g : Form L K A) (row : Seen L) (rows : List (Seen L)) → next U f row.line ≡ Takes g → IsUnfinished g rows
      → IsUnfinished f (row ∷ rows)
  later_unfinished f g row rows e w = record {
    begins = record { more = w.begins.more; said = w.begins.said; is = took_before f g row (rows ++ w.begins.more) w.begins.said e w.begins.is };
    refused = λ a d. w.refused a (took_past f g row rows a e d);
  }

  -- a form after a line that it takes
  can_behind : {A : Type 0} (f g : Form L K A) (row : Seen L) → next U f row.line ≡ Takes g → Can U f Whole → Can U g Whole
  can_behind f g row e can rows = subst (λ t. can_on t (λ h. CanAfter U h Whole rows)) e (can (row ∷ rows))

  ended_kind : {A : Type 0} (f : Form L K A) (kind : K) → ended U f ≡ Err kind → kind ≡ U.ended
  ended_kind (Say a) kind e = absurd (cc e)
  ended_kind (Line l) kind e = sym (same_fault U.ended kind e)
  ended_kind (Then {A} {B} f g) kind e = by (ended U f) refl e (ended_kind f kind) (λ a. ended_kind (g a) kind)
    where
      by : (r : Result A K) → ended U f ≡ r → and_then r (λ a. ended U (g a)) ≡ Err kind → (ended U f ≡ Err kind → kind ≡ U.ended)
          → ((a : A) → ended U (g a) ≡ Err kind → kind ≡ U.ended) → kind ≡ U.ended
      by (Ok a) h k first more = more a k
      by (Err j) h k first more = let m : j ≡ kind = same_fault j kind k in first (h ∙ ap Err m)
  ended_kind (May l body other) kind e = ended_kind other kind e
  ended_kind (Many l body xs) kind e = absurd (cc e)

  end_fault : {A : Type 0} (f : Form L K A) (end : ℕ) (fault : FaultAt K) (r : Result A K) → ended U f ≡ r
      → and_then {A = A × List (Seen L)} (mapped (leaving []) (on_line end r)) (λ p. all_read U p.0 p.1) ≡ Err fault
      → fault ≡ record { line = end; kind = U.ended }
  end_fault f end fault (Ok a) e h = absurd (cc h)
  end_fault f end fault (Err kind) e h =
      sym (same_fault (record { line = end; kind = kind }) fault h) ∙ ap (λ k. record { line = end; kind = k }) (ended_kind f kind e)

  abbrev Ends : {A : Type 0} → Form L K A → List (Seen L) → ℕ → FaultAt K → Type 0
  Ends f rows end fault = IsWhereNoneGoesOn f rows fault.line ⊎ ((fault ≡ record { line = end; kind = U.ended }) × IsUnfinished f rows)

  pub faults_end : {A : Type 0} (f : Form L K A) (rows : List (Seen L)) (end : ℕ) → Can U f Whole → FaultsAreWhereNoneGoesOn U f rows end
  faults_end f [] end can fault e = inr (
    end_fault f end fault (ended U f) refl e,
    record {
      begins = begins_by f (can []);
      refused = λ a d. let k : reading U f [] end ≡ Ok a = whole_read f [] a end d in cc;
    },
  )
  faults_end {A} f (row ∷ rows) end can fault e = by (next U f row.line) refl e (λ g. faults_end g rows end)
    where
      by : (t : Took L K A) → next U f row.line ≡ t
          → and_then {A = A × List (Seen L)} (took_on t row rows (λ g. read U g rows end)) (λ p. all_read U p.0 p.1) ≡ Err fault
          → ((g : Form L K A) → Can U g Whole → FaultsAreWhereNoneGoesOn U g rows end) → Ends f (row ∷ rows) end fault
      by (Takes g) h k later = elim (later g (can_behind f g row h can) fault k) [
        | inl w ↦ inl (later_none f g row rows fault.line h w)
        | inr w ↦ inr (w.0, later_unfinished f g row rows h w.1)
      ]
      by (Passes a) h k later =
          let s : record { line = row.number; kind = U.unexpected } ≡ fault = same_fault (record { line = row.number; kind = U.unexpected }) fault k in
          inl (subst (λ x. IsWhereNoneGoesOn f (row ∷ rows) x.line) s (here_none f row rows can (λ more b. passed f row more b a h)))
      by (Wrong kind) h k later =
          let s : record { line = row.number; kind = kind } ≡ fault = same_fault (record { line = row.number; kind = kind }) fault k in
          inl (subst (λ x. IsWhereNoneGoesOn f (row ∷ rows) x.line) s (here_none f row rows can (λ more b. wronged f row more b kind h)))

  none_at : {A : Type 0} (f : Form L K A) (before after : List (Seen L)) (row : Seen L) (end : ℕ) → Can U f Whole → BeginsDocument f before
      → ¬ BeginsDocument f (before ++ row ∷ [])
      → (kind : K) × (reading U f (before ++ row ∷ after) end ≡ Err (record { line = row.number; kind = kind }))
  none_at {A} f [] after row end can b n = by (next U f row.line) refl
    where
      by : (t : Took L K A) → next U f row.line ≡ t
          → (kind : K) × (and_then {A = A × List (Seen L)} (took_on t row after (λ g. read U g after end)) (λ p. all_read U p.0 p.1) ≡ Err (record { line = row.number; kind = kind }))
      by (Takes g) h =
          let w = begins_by g (can_behind f g row h can []) in
          absurd (n (record { more = w.more; said = w.said; is = took_before f g row w.more w.said h w.is }))
      by (Passes a) h = (U.unexpected, refl)
      by (Wrong kind) h = (kind, refl)
  none_at {A} f (first ∷ before) after row end can b n = by (next U f first.line) refl (λ g. none_at g before after row end)
    where
      by : (t : Took L K A) → next U f first.line ≡ t
          → ((g : Form L K A) → Can U g Whole → BeginsDocument g before → ¬ BeginsDocument g (before ++ row ∷ [])
          → (kind : K) × (reading U g (before ++ row ∷ after) end ≡ Err (record { line = row.number; kind = kind })))
          → (kind : K) × (and_then {A = A × List (Seen L)} (took_on t first (before ++ row ∷ after) (λ g. read U g (before ++ row ∷ after) end)) (λ p. all_read U p.0 p.1)
          ≡ Err (record { line = row.number; kind = kind }))
      by (Takes g) h later = later g (can_behind f g first h can)
          (record { more = b.more; said = b.said; is = took_past f g first (before ++ b.more) b.said h b.is })
          (λ c. n (record { more = c.more; said = c.said; is = took_before f g first ((before ++ row ∷ []) ++ c.more) c.said h c.is }))
      by (Passes a) h later = absurd (passed f first (before ++ b.more) b.said a h b.is)
      by (Wrong kind) h later = absurd (wronged f first (before ++ b.more) b.said kind h b.is)

  pub none_is_fault : {A : Type 0} (f : Form L K A) (rows : List (Seen L)) (end : ℕ) → Can U f Whole → NoneGoesOnIsFault U f rows end
  none_is_fault f rows end can number w =
      let found = none_at f w.before w.after w.row end can w.begins w.refused in
      (found.0, ap (λ rs. reading U f rs end) w.rows_are ∙ found.1 ∙ ap (λ n. Err (record { line = n; kind = found.0 })) (sym w.number_is))
