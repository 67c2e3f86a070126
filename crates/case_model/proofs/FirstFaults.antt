-- The first fault that a test finds, as a loop comes to it.
use Rattle.std.proofs.Common.{◌≡◌, refl, sym, ap, ap₂, ◌∙◌, ℕ, zero, suc, ◌+◌, ◌-◌, ◌<◌, List, [], ◌∷◌, length, get_or}
use Rattle.std.proofs.Common.{◌≤◌, slice_get, drop, drop-cons, Option, Some, None, is_some, true, false, arith}
use mathlib.Core.Path.{fun_ext}
use Rattle.std.proofs.lemmas.List.{drop_all}
use Rattle.std.proofs.lemmas.Option.{slice_get_read}
use Rattle.std.specs.Option.{option_and_then}
use Rattle.case_model.specs.declared.fault.CaseFault.{CaseFault}
use Rattle.case_model.specs.CaseFaults.{◌or◌, first_from, first_of, first_below}

or_none : (a : Option CaseFault) → (a or None) ≡ a
or_none None = refl
or_none (Some f) = refl

or_assoc : (a b c : Option CaseFault) → ((a or b) or c) ≡ (a or (b or c))
or_assoc None b c = refl
or_assoc (Some f) b c = refl

pub below_none : (row : ℕ → Option CaseFault) → first_below row 0 ≡ None
unfolding first_below
below_none row = refl

below_more : (row : ℕ → Option CaseFault) (n : ℕ) → first_below row (n + 1) ≡ (first_below row n or row n)
unfolding first_below
below_more row n = let e : n + 1 ≡ suc n = omega arith in ap (first_below row) e

stays : (row : ℕ → Option CaseFault) (n k : ℕ) (fault : CaseFault) → first_below row n ≡ Some fault → first_below row (n + k) ≡ Some fault
stays row n zero fault e = let same : n + zero ≡ n = omega arith in ap (first_below row) same ∙ e
stays row n (suc k) fault e =
    let same : n + suc k ≡ n + k + 1 = omega arith in
    ap (first_below row) same ∙ below_more row (n + k) ∙ ap (λ r. r or row (n + k)) (stays row n k fault e)

below_found : (row : ℕ → Option CaseFault) (i n : ℕ) (fault : CaseFault) → i < n → first_below row i ≡ None → row i ≡ Some fault
    → first_below row n ≡ Some fault
below_found row i n fault h before here =
    let same : n ≡ i + 1 + (n - (i + 1)) = omega arith in
    ap (first_below row) same ∙ stays row (i + 1) (n - (i + 1)) fault (below_more row i ∙ ap₂ ◌or◌ before here)

pub none_is : (r : Option CaseFault) → is_some r ≡ false → r ≡ None
none_is None h = refl
none_is (Some f) h = absurd (cc)

-- what is found first is the answer
pub below_answer : (row : ℕ → Option CaseFault) (i n : ℕ) (r : Option CaseFault) → i < n → first_below row i ≡ None → r ≡ row i
    → is_some r ≡ true → r ≡ first_below row n
below_answer row i n None h before here some = absurd (cc)
below_answer row i n (Some fault) h before here some = sym (below_found row i n fault h before (sym here))

-- nothing is found at one position more
pub below_silence : (row : ℕ → Option CaseFault) (i : ℕ) (r : Option CaseFault) → first_below row i ≡ None → r ≡ row i → is_some r ≡ false
    → first_below row (i + 1) ≡ None
below_silence row i r before here none = below_more row i ∙ ap₂ ◌or◌ before (sym here ∙ none_is r none)

-- ---- lists, by their places

below_head : (row : ℕ → Option CaseFault) (n : ℕ) → first_below row (suc n) ≡ (row 0 or first_below (λ k. row (suc k)) n)
unfolding first_below
below_head row zero = sym (or_none (row 0))
below_head row (suc n) = ap (λ r. r or row (suc n)) (below_head row n) ∙ or_assoc (row 0) (first_below (λ k. row (suc k)) n) (row (suc n))

-- what a test finds at a place of a list
pub found_at : {A : Type 0} → (ℕ → A → Option CaseFault) → List A → ℕ → Option CaseFault
found_at row xs i = option_and_then (row i) (slice_get xs i)

pub found_at-item : {A : Type 0} (row : ℕ → A → Option CaseFault) (xs : List A) (i : ℕ) (x : A) → i < length xs → x ≡ get_or xs i x
    → found_at row xs i ≡ row i x
unfolding found_at
found_at-item row xs i x h e = ap (option_and_then (row i)) (slice_get_read xs (length xs) i x refl h e)

first_from-below : {A : Type 0} (row : ℕ → A → Option CaseFault) (i : ℕ) (xs : List A)
    → first_from row i xs ≡ first_below (λ n. option_and_then (row (i + n)) (slice_get xs n)) (length xs)
unfolding first_from
first_from-below row i [] = sym (below_none (λ n. option_and_then (row (i + n)) (slice_get [] n)))
first_from-below row i (x ∷ xs) =
    let here : i + 0 ≡ i = omega arith in
    let next : (n : ℕ) → i + 1 + n ≡ i + suc n = λ n. omega arith in
    ap (λ r. row i x or r) (first_from-below row (i + 1) xs)
    ∙ ap₂ (λ k f. row k x or first_below f (length xs)) (sym here) (fun_ext (λ n. ap (λ k. option_and_then (row k) (slice_get xs n)) (next n)))
    ∙ sym (below_head (λ n. option_and_then (row (i + n)) (slice_get (x ∷ xs) n)) (length xs))

-- what is found first in a list is what is found first below its length
pub first_of-below : {A : Type 0} (row : ℕ → A → Option CaseFault) (xs : List A) → first_of row xs ≡ first_below (found_at row xs) (length xs)
unfolding found_at
first_of-below row xs =
    let same : (n : ℕ) → 0 + n ≡ n = λ n. omega arith in
    first_from-below row 0 xs ∙ ap (λ f. first_below f (length xs)) (fun_ext (λ n. ap (λ k. option_and_then (row k) (slice_get xs n)) (same n)))

-- ---- lists, from a place on

-- what is found from a place on is what is found there, or else from the next place on
pub walk_more : {A : Type 0} (row : ℕ → A → Option CaseFault) (xs : List A) (i : ℕ) (d : A) → i < length xs
    → first_from row i (drop i xs) ≡ (row i (get_or xs i d) or first_from row (i + 1) (drop (i + 1) xs))
unfolding first_from
walk_more row xs i d h =
    let next : suc i ≡ i + 1 = omega arith in
    ap (first_from row i) (drop-cons xs i d h) ∙ ap (λ n. row i (get_or xs i d) or first_from row (i + 1) (drop n xs)) next

-- past the end nothing is found
pub walk_end : {A : Type 0} (row : ℕ → A → Option CaseFault) (xs : List A) (i : ℕ) → length xs ≤ i → first_from row i (drop i xs) ≡ None
unfolding first_from
walk_end row xs i h = ap (first_from row i) (drop_all i xs h)

-- both
pub ruleset walks = (walk_more, walk_end)
