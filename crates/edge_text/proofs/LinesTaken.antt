-- Lines by their first word, both ways.
use Rattle.std.proofs.Common.{◌≡◌, ℕ, Bool, true, false, List, [], ◌∷◌, ◌++◌, length, suc, zero, Option, Some, None, Ok, Err, refl, ap, ◌∙◌, if◌then◌else◌, slice_get}
use Rattle.std.specs.Str.{bytes_eq}
use Rattle.case_model.specs.declared.spend_step.SpendStep.{SpendStep}
use Rattle.edge_text.specs.declared.fault.LineKind.TheVariants.{Unexpected, WordCount}
use Rattle.edge_text.specs.Document.{if_named}
use Rattle.edge_text.specs.Grammar.{Words}
use Rattle.edge_text.specs.WordReading.{found_or, step_words, step_of, first_step}

-- the words of a step of this name
pub record StepSaid (name : List ℕ) (words : Words) (t : SpendStep) : Type 0 where
  pub parts : List ℕ × List ℕ × Words
  pub found : step_words words ≡ Some parts
  pub named : bytes_eq parts.0 name ≡ true
  pub says : step_of parts.1 parts.2 ≡ Ok t

pub step_said : (name : List ℕ) (words : Words) (t : SpendStep) → first_step name words ≡ Ok t → StepSaid name words t
step_said name words t e = by (step_words words) refl e
  where
    named : (w : List ℕ × List ℕ × Words) (b : Bool) → step_words words ≡ Some w → bytes_eq w.0 name ≡ b
        → (if b then step_of w.1 w.2 else Err Unexpected) ≡ Ok t → StepSaid name words t
    named w true f n k = record { parts = w; found = f; named = n; says = k }
    named w false f n k = absurd (let m : Err Unexpected ≡ Ok t = k in cc)

    by : (o : Option (List ℕ × List ℕ × Words)) → step_words words ≡ o
        → found_or o WordCount (λ w. if bytes_eq w.0 name then step_of w.1 w.2 else Err Unexpected) ≡ Ok t → StepSaid name words t
    by (Some w) f k = named w (bytes_eq w.0 name) f refl k
    by None f k = absurd (let m : Err WordCount ≡ Ok t = k in cc)

pub step_says : (name : List ℕ) (words : Words) (t : SpendStep) → StepSaid name words t → first_step name words ≡ Ok t
step_says name words t h = let f = h.found in let n = h.named in rw (f, n) h.says

-- a further step of the table of this name
pub further_words : (name : List ℕ) (words : Words) (t : SpendStep) → first_step name words ≡ Ok t → if_named name (step_words words) ≡ Some (Ok t)
further_words name words t e =
    let s = step_said name words t e in
    let f = s.found in
    let n = s.named in
    rw (f, n) (ap Some s.says)

-- ---- what is left of names

-- the items from the n-th on
abbrev pub left_of : {A : Type 0} → List A → ℕ → List A
left_of [] n = []
left_of (x ∷ xs) zero = x ∷ xs
left_of (x ∷ xs) (suc n) = left_of xs n

pub all_left : {A : Type 0} (xs : List A) → left_of xs 0 ≡ xs
all_left [] = refl
all_left (x ∷ xs) = refl

pub first_left : {A : Type 0} (xs : List A) (n : ℕ) (x : A) (left : List A) → left_of xs n ≡ x ∷ left → slice_get xs n ≡ Some x
first_left [] n x left e = absurd (cc)
first_left (y ∷ ys) zero x left e = cc
first_left (y ∷ ys) (suc n) x left e = first_left ys n x left e

pub none_left : {A : Type 0} (xs : List A) (n : ℕ) → left_of xs n ≡ [] → slice_get xs n ≡ None
none_left [] n e = refl
none_left (y ∷ ys) zero e = absurd (cc)
none_left (y ∷ ys) (suc n) e = none_left ys n e

next_left : {A : Type 0} (xs : List A) (n : ℕ) (x : A) (left : List A) → left_of xs n ≡ x ∷ left → left_of xs (suc n) ≡ left
next_left [] n x left e = absurd (cc)
next_left (y ∷ ys) zero x left e = let h : y ∷ ys ≡ x ∷ left = e in all_left ys ∙ (cc)
next_left (y ∷ ys) (suc n) x left e = next_left ys n x left e

length_push : {B : Type 0} (bs : List B) (b : B) → length (bs ++ b ∷ []) ≡ suc (length bs)
length_push [] b = refl
length_push (c ∷ bs) b = ap suc (length_push bs b)

pub push_left : {A B : Type 0} (xs : List A) (bs : List B) (b : B) (x : A) (left : List A) → left_of xs (length bs) ≡ x ∷ left
    → left_of xs (length (bs ++ b ∷ [])) ≡ left
push_left xs bs b x left e = ap (left_of xs) (length_push bs b) ∙ next_left xs (length bs) x left e
