-- The sets of the first ones on a list, and of one hypothesis, by their numbers.
use Rattle.std.proofs.Common.{◌≡◌, ◌≢◌, refl, sym, ap, ◌∙◌, ℕ, zero, suc, ◌+◌, ◌^◌, ◌<◌, ◌≤◌, ◌==◌, ◌||◌, arith}
use Rattle.std.proofs.Common.{Bool, true, false, List, [], ◌∷◌, length, get_or, take}
use Rattle.std.specs.List.{All, AllPairs}
use Rattle.std.proofs.Math.Pow.{pow_mono}
use Rattle.field_core.specs.Sets.{adding, set_of}
use Rattle.field_core.specs.NumberedSets.{members, set_number}
use Rattle.field_core.proofs.Members.{number_below, number_same, number_adding, number_empty, members_number}
use Rattle.field_core.proofs.Positions.{test_other}
use Rattle.case_model.specs.ClosedTest.{only}

swapped : (a b c : Bool) → (a || (b || c)) ≡ (b || (a || c))
swapped true true c = refl
swapped true false c = refl
swapped false b c = refl

or_false : (a : Bool) → (a || false) ≡ a
or_false true = refl
or_false false = refl

-- ---- one more

none_in : (js : List ℕ) (k : ℕ) → k ≡ 0 → take k js ≡ []
none_in [] zero e = refl
none_in (j ∷ js) zero e = refl
none_in js (suc k) e = absurd (omega (arith, e))

first_more : (js : List ℕ) (k d i : ℕ) → k < length js → set_of (take (suc k) js) i ≡ adding (get_or js k d) (set_of (take k js)) i
unfolding adding
first_more [] k d i h = absurd (omega arith)
first_more (j ∷ js) zero d i h = ap (λ xs. (i == j) || set_of xs i) (none_in js 0 refl)
first_more (j ∷ js) (suc k) d i h = ap (λ b. (i == j) || b) (first_more js k d i (omega (arith, h)))
    ∙ swapped (i == j) (i == get_or js k d) (set_of (take k js) i)

next_apart : (js : List ℕ) (k d : ℕ) → k < length js → AllPairs (λ i j. i ≢ j) js → set_of (take k js) (get_or js k d) ≡ false
next_apart [] k d h a = absurd (omega arith)
next_apart (j ∷ js) zero d h a = refl
next_apart (j ∷ js) (suc k) d h a =
    let apart : get_or js k d ≢ j = λ e. a 0 (suc k) d (omega arith) (omega (arith, h)) (sym e) in
    let rest : AllPairs (λ i j. i ≢ j) js = λ i l e low high. a (suc i) (suc l) e (omega (arith, low)) (omega (arith, high)) in
    ap (λ b. b || set_of (take k js) (get_or js k d)) (test_other (get_or js k d) j apart) ∙ next_apart js k d (omega (arith, h)) rest

module _ (m : ℕ) (js : List ℕ) (below : All (λ j. j < m) js) (apart : AllPairs (λ i j. i ≢ j) js) (k d : ℕ) (within : k < length js) where
  -- the next one isn't among the first
  pub next_outside : members (set_number m (set_of (take k js))) (get_or js k d) ≡ false
  next_outside = members_number m (set_of (take k js)) (get_or js k d) (below k d within) ∙ next_apart js k d within apart

  first_next : set_number m (set_of (take (k + 1) js)) ≡ set_number m (set_of (take k js)) + 2 ^ get_or js k d
  first_next =
      let next : k + 1 ≡ suc k = omega arith in
      ap (λ n. set_number m (set_of (take n js))) next
      ∙ number_same m (set_of (take (suc k) js)) (adding (get_or js k d) (set_of (take k js))) (λ i q. first_more js k d i within)
      ∙ number_adding m (get_or js k d) (set_of (take k js)) (below k d within) (next_apart js k d within apart)

  -- the set with the next one more
  pub added_first : (set more : ℕ) → set ≡ set_number m (set_of (take k js)) → more ≡ set + 2 ^ get_or js k d
      → more ≡ set_number m (set_of (take (k + 1) js))
  added_first set more e f = f ∙ ap (λ n. n + 2 ^ get_or js k d) e ∙ sym first_next

pub first_within : (m : ℕ) (js : List ℕ) (k : ℕ) → m ≤ 16 → set_number m (set_of (take k js)) < 2 ^ 16
first_within m js k few = let p = pow_mono few in let b = number_below m (set_of (take k js)) in omega (arith, p, b)

pub first_none : (m : ℕ) (js : List ℕ) → set_number m (set_of (take 0 js)) ≡ 0
first_none m js = ap (λ xs. set_number m (set_of xs)) (none_in js 0 refl) ∙ number_empty m (set_of []) (λ i q. absurd (cc))

-- ---- one alone

abbrev nothing : ℕ → Bool
nothing i = false

alone_members : (j i : ℕ) → only j i ≡ adding j nothing i
unfolding adding
alone_members j i = sym (or_false (i == j))

pub alone_number : (m j : ℕ) → j < m → set_number m (only j) ≡ 2 ^ j
alone_number m j h =
    let none = number_empty m nothing (λ i q. absurd (cc)) in
    let more = number_adding m j nothing h refl in
    number_same m (only j) (adding j nothing) (λ i q. alone_members j i) ∙ omega (arith, none, more)
