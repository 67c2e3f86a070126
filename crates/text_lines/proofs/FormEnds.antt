-- From each place in its lines a form can end.
use Rattle.std.proofs.Common.{◌≡◌, List, [], ◌∷◌, ◌++◌, Option, Some, None, Result, Ok, Err, refl, sym}
use Rattle.std.proofs.lemmas.List.{append-nil}
use Rattle.text_lines.specs.Forms.{Seen}
use Rattle.text_lines.specs.Forms.{Leaf, Form, Say, Line, Then, May, Many, Kinds, Took, Takes, Passes, Wrong, one_taken, then_taken, may_take, next, Lacks, Is}
use Rattle.text_lines.proofs.FormReads.{IsTook, took_is}

-- these lines say something, and what is left may follow
abbrev pub Leads : {L K A : Type 0} → Form L K A → (A → List (Seen L) → Type 0) → List (Seen L) → Type 0
Leads {L} {K} {A} f C rows = (a : A) × (rest : List (Seen L)) × Is f rows a rest × C a rest

-- nothing may follow
abbrev pub Whole : {L A : Type 0} → A → List (Seen L) → Type 0
Whole a rest = rest ≡ []

-- no property
abbrev Any : {A : Type 0} → A → Type 0
Any a = Unit {0}

abbrev pub can_on : {L K A : Type 0} → Took L K A → (Form L K A → Type 0) → Type 0
can_on (Takes g) more = more g
can_on (Passes a) more = Unit {0}
can_on (Wrong k) more = Unit {0}

module _ {L K : Type 0} (U : Kinds K) where
  -- after these lines, if a form takes them, it can end before lines that may follow what it says
  abbrev pub CanAfter : {A : Type 0} → Form L K A → (A → List (Seen L) → Type 0) → List (Seen L) → Type 0
  CanAfter f C [] = (rows : List (Seen L)) × Leads f C rows
  CanAfter f C (row ∷ rows) = can_on (next U f row.line) (λ g. CanAfter g C rows)

  -- after any lines
  abbrev pub Can : {A : Type 0} → Form L K A → (A → List (Seen L) → Type 0) → Type 0
  Can f C = (rows : List (Seen L)) → CanAfter f C rows

  -- after each part of these lines
  abbrev Suffixes : (List (Seen L) → Type 0) → List (Seen L) → Type 0
  Suffixes P [] = P []
  Suffixes P (row ∷ rows) = P (row ∷ rows) × Suffixes P rows

  suffixes : (P : List (Seen L) → Type 0) → ((rows : List (Seen L)) → P rows) → (rows : List (Seen L)) → Suffixes P rows
  suffixes P h [] = h []
  suffixes P h (row ∷ rows) = (h (row ∷ rows), suffixes P h rows)

  -- ---- a form for each way to put forms together

  pub can_say : {A : Type 0} (a : A) (C : A → List (Seen L) → Type 0) → (rest : List (Seen L)) × C a rest → Can (Say a) C
  can_say a C h [] = (h.0, (a, h.0, (refl, refl), h.1))
  can_say a C h (row ∷ rows) = tt

  pub can_line : {A : Type 0} (l : Leaf L K A) (C : A → List (Seen L) → Type 0)
      → (row : Seen L) × (a : A) × (rest : List (Seen L)) × (l row.line ≡ Some (Ok a)) × C a rest
      → ((row : Seen L) (a : A) → l row.line ≡ Some (Ok a) → (rest : List (Seen L)) × C a rest) → Can (Line l) C
  can_line l C h more [] = (h.0 ∷ h.2, (h.1, h.2, record { row = h.0; rows_are = refl; says = h.3 }, h.4))
  can_line {A} l C h more (row ∷ rows) = by (l row.line) refl
    where
      by : (o : Option (Result A K)) → l row.line ≡ o → can_on (one_taken U o) (λ g. CanAfter g C rows)
      by (Some (Ok a)) e = can_say a C (more row a e) rows
      by (Some (Err k)) e = tt
      by None e = tt

  -- what a form says has a property
  abbrev pub SaysOnly : {A : Type 0} → Form L K A → (A → Type 0) → Type 0
  SaysOnly {A} f P = (rows : List (Seen L)) (a : A) (rest : List (Seen L)) → Is f rows a rest → P a

  then_at : {A B : Type 0} (f : Form L K A) (g : A → Form L K B) (P : A → Type 0) (C : B → List (Seen L) → Type 0) (rows : List (Seen L)) → SaysOnly f P
      → CanAfter f (λ a. Leads (g a) C) rows → ((a : A) → P a → Suffixes (CanAfter (g a) C) rows) → CanAfter (Then f g) C rows
  then_at f g P C [] only h more = let b = h.1.3 in (h.0, (b.0, b.1, (h.1.0, h.1.1, h.1.2, b.2), b.3))
  then_at {A} {B} f g P C (row ∷ rows) only h more = by (next U f row.line) (took_is U f row) h (λ f. then_at f g P C rows)
    where
      by : (t : Took L K A) → IsTook U f row t → can_on t (λ f. CanAfter f (λ a. Leads (g a) C) rows)
          → ((f : Form L K A) → SaysOnly f P → CanAfter f (λ a. Leads (g a) C) rows → ((a : A) → P a → Suffixes (CanAfter (g a) C) rows) → CanAfter (Then f g) C rows)
          → can_on (then_taken t g (λ a. next U (g a) row.line)) (λ f. CanAfter f C rows)
      by (Takes h) is k later = later h (λ rs a rest i. only (row ∷ rs) a rest (is rs a rest i)) k (λ a p. (more a p).1)
      by (Passes a) is k later = (more a (only (row ∷ []) a (row ∷ []) (is []))).0
      by (Wrong kind) is k later = tt

  -- with a property of all that the first form says
  pub can_then_said : {A B : Type 0} (f : Form L K A) (g : A → Form L K B) (P : A → Type 0) (C : B → List (Seen L) → Type 0) → SaysOnly f P
      → Can f (λ a. Leads (g a) C) → ((a : A) → P a → Can (g a) C) → Can (Then f g) C
  can_then_said f g P C only h more rows = then_at f g P C rows only (h rows) (λ a p. suffixes (CanAfter (g a) C) (more a p) rows)

  pub can_then : {A B : Type 0} (f : Form L K A) (g : A → Form L K B) (C : B → List (Seen L) → Type 0)
      → Can f (λ a. Leads (g a) C) → ((a : A) → Can (g a) C) → Can (Then f g) C
  can_then f g C h more = can_then_said f g Any C (λ rows a rest i. tt) h (λ a p. more a)

  pub can_may : {A B : Type 0} (l : Leaf L K A) (body : A → Form L K B) (other : Form L K B) (C : B → List (Seen L) → Type 0)
      → (rows : List (Seen L)) × Leads (May l body other) C rows → ((a : A) → Can (body a) C) → Can other C → Can (May l body other) C
  can_may l body other C h some none [] = h
  can_may {A} l body other C h some none (row ∷ rows) = by (l row.line)
    where
      by : (o : Option (Result A K)) → can_on (may_take o body (next U other row.line)) (λ g. CanAfter g C rows)
      by (Some (Ok a)) = some a rows
      by (Some (Err k)) = tt
      by None = none (row ∷ rows)

  more_at : {A : Type 0} (f : Form L K A) (C D : A → List (Seen L) → Type 0) (rows : List (Seen L)) → ((a : A) (rest : List (Seen L)) → C a rest → D a rest)
      → CanAfter f C rows → CanAfter f D rows
  more_at f C D [] more h = (h.0, (h.1.0, h.1.1, h.1.2, more h.1.0 h.1.1 h.1.3))
  more_at {A} f C D (row ∷ rows) more h = by (next U f row.line) h (λ g. more_at g C D rows more)
    where
      by : (t : Took L K A) → can_on t (λ g. CanAfter g C rows) → ((g : Form L K A) → CanAfter g C rows → CanAfter g D rows)
          → can_on t (λ g. CanAfter g D rows)
      by (Takes g) k later = later g k
      by (Passes a) k later = tt
      by (Wrong kind) k later = tt

  -- lines that may follow items, and with which no other item begins
  abbrev pub Stop : {A B : Type 0} → Leaf L K A → (List B → List (Seen L) → Type 0) → List B → List (Seen L) → Type 0
  Stop l C ys rest = C ys rest × Lacks l rest

  stopped : {A B : Type 0} (l : Leaf L K A) (body : List B → A → Form L K B) (C : List B → List (Seen L) → Type 0) (ys : List B) (rest : List (Seen L))
      → Stop l C ys rest → Leads (Many l body ys) C rest
  stopped l body C ys rest h = (ys, rest, ([], sym (append-nil ys), (refl, h.1)), h.0)

  many_at : {A B : Type 0} (l : Leaf L K A) (body : List B → A → Form L K B) (C : List B → List (Seen L) → Type 0)
      → ((ys : List B) → (rest : List (Seen L)) × Stop l C ys rest)
      → ((ys : List B) (a : A) → Can (body ys a) (λ y. Stop l C (ys ++ y ∷ [])))
      → (rows : List (Seen L)) (ys : List B) → Suffixes (CanAfter (Many l body ys) C) rows
  many_at l body C stop item [] ys = ((stop ys).0, stopped l body C ys (stop ys).0 (stop ys).1)
  many_at {A} {B} l body C stop item (row ∷ rows) ys = (by (l row.line) (many_at l body C stop item rows), many_at l body C stop item rows ys)
    where
      by : (o : Option (Result A K)) → ((zs : List B) → Suffixes (CanAfter (Many l body zs) C) rows)
          → can_on (may_take o (λ a. Then (body ys a) (λ y. Many l body (ys ++ y ∷ []))) (Passes ys)) (λ g. CanAfter g C rows)
      by (Some (Ok a)) later = then_at (body ys a) (λ y. Many l body (ys ++ y ∷ [])) Any C rows (λ rs y rest i. tt)
          (more_at (body ys a) (λ y. Stop l C (ys ++ y ∷ [])) (λ y. Leads (Many l body (ys ++ y ∷ [])) C) rows
          (λ y rest h. stopped l body C (ys ++ y ∷ []) rest h) (item ys a rows))
          (λ y p. later (ys ++ y ∷ []))
      by (Some (Err k)) later = tt
      by None later = tt

  first_suffix : (P : List (Seen L) → Type 0) (rows : List (Seen L)) → Suffixes P rows → P rows
  first_suffix P [] h = h
  first_suffix P (row ∷ rows) h = h.0

  pub can_many : {A B : Type 0} (l : Leaf L K A) (body : List B → A → Form L K B) (C : List B → List (Seen L) → Type 0)
      → ((ys : List B) → (rest : List (Seen L)) × Stop l C ys rest)
      → ((ys : List B) (a : A) → Can (body ys a) (λ y. Stop l C (ys ++ y ∷ []))) → (ys : List B) → Can (Many l body ys) C
  can_many l body C stop item ys rows = first_suffix (CanAfter (Many l body ys) C) rows (many_at l body C stop item rows ys)
