-- Places that are filled one after the other hold what a run of steps gives.
use Rattle.std.proofs.Common.{◌≡◌, refl, sym, ap, ◌∙◌, ℕ, zero, suc, ◌<◌, ◌≤◌, inl, inr, List, [], ◌∷◌, Result, Ok}
use Rattle.std.proofs.Common.{Err, length, get_or, take, map, arith}
use Rattle.std.proofs.lemmas.List.{map-append, map-id, take_all}
use Rattle.std.proofs.Math.Seq.{take-suc}
use Rattle.field_core.specs.Kind.{ok_map}
use Rattle.field_core.specs.Filled.{AreFilledBelow, AreFilled}
use Rattle.field_core.specs.Steps.{each_below}
use Rattle.field_core.specs.Laws.Prefixes.{each_suc}
use Rattle.field_core.proofs.Positions.{at_or_below}

-- A fault ends the run.
pub each_fault : {A E : Type 0} (n l : ℕ) (f : ℕ → Result A E) (xs : List A) (e : E) → l < n → each_below l f ≡ Ok xs → f l ≡ Err e
    → each_below n f ≡ Err e
each_fault zero l f xs e h k g = absurd (omega arith)
each_fault (suc n) l f xs e h k g = elim (at_or_below l n h) [
  | inl p ↦ let k' = rw p at k in let g' = rw p at g in rw (each_suc n f, k', g') refl
  | inr p ↦ rw (each_suc n f, each_fault n l f xs e p k g) refl
]

module _ {A T E : Type 0} (v : T → A) (f : ℕ → Result A E) (step : ℕ → Result T E → Type 0) where
  -- the run up to a place is what stands before it
  run_below : (d : T) (n : ℕ) (xs : List T) → n ≤ length xs → ((k : ℕ) (r : Result T E) → k < n → step k r → ok_map v r ≡ f k)
      → AreFilledBelow step n xs → each_below n f ≡ Ok (map v (take n xs))
  unfolding each_below
  run_below d zero xs h says fills = refl
  run_below d (suc n) xs h says fills =
      rw (
        each_suc n f,
        run_below d n xs (omega arith) (λ k r i. says k r (omega arith)) (λ k e i. fills k e (omega arith)),
        ← says n _ (omega arith) (fills n d (omega arith)),
        take-suc xs n d h,
        map-append v (take n xs) (get_or xs n d ∷ []),
      ) refl

  run_to : (n : ℕ) (xs : List T) → n ≤ length xs → ((k : ℕ) (r : Result T E) → k < n → step k r → ok_map v r ≡ f k)
      → AreFilledBelow step n xs → each_below n f ≡ Ok (map v (take n xs))
  unfolding each_below
  run_to zero xs h says fills = refl
  run_to (suc n) [] h says fills = absurd (omega arith)
  run_to (suc n) (x ∷ xs) h says fills = run_below x (suc n) (x ∷ xs) h says fills

  -- where what a step gives is seen as `f` says, filling the places is the run of `f`
  pub filled_run : {U : Type 0} (n : ℕ) (xs : List T) (r : Result U E) → length xs ≡ n
      → ((k : ℕ) (r : Result T E) → k < n → step k r → ok_map v r ≡ f k) → AreFilled step xs r → ok_map (λ _. map v xs) r ≡ each_below n f
  unfolding AreFilled
  filled_run n xs (Ok u) e says fills = ap (λ ys. Ok (map v ys)) (sym (take_all n xs (omega arith)))
      ∙ sym (run_to n xs (omega arith) says (λ k d i. fills k d (omega arith)))
  filled_run n xs (Err e) size says fills =
      let i : fills.0 < n = omega (arith, fills.1) in
      sym (each_fault n fills.0 f _ e i (run_to fills.0 xs (omega arith) (λ k r h. says k r (omega arith)) fills.2) (sym (says fills.0 (Err e) i fills.3)))

-- where each value is seen as it is
as_it_is : {A E : Type 0} (r : Result A E) → ok_map (λ x. x) r ≡ r
as_it_is (Ok x) = refl
as_it_is (Err e) = refl

pub filled_values : {A E U : Type 0} (f : ℕ → Result A E) (step : ℕ → Result A E → Type 0) (n : ℕ) (xs : List A) (r : Result U E)
    → length xs ≡ n → ((k : ℕ) (r : Result A E) → k < n → step k r → r ≡ f k) → AreFilled step xs r
    → ok_map (λ _. xs) r ≡ each_below n f
filled_values f step n xs r e says fills =
    ap (λ ys. ok_map (λ _. ys) r) (sym (map-id xs)) ∙ filled_run (λ x. x) f step n xs r e (λ k q i h. as_it_is q ∙ says k q i h) fills

-- a loop that writes the values of a run in place, at its end and where it is refused
module _ {A E : Type 0} (f : ℕ → Result A E) where
  pub filled_to : (n l : ℕ) (xs : List A) → AreFilledBelow (λ k r. r ≡ f k) l xs → length xs ≡ n → l ≡ n → Ok xs ≡ each_below n f
  unfolding AreFilled
  filled_to n l xs fills e h = filled_values {U = Unit {0}} f (λ k r. r ≡ f k) n xs (Ok tt) e (λ k r i says. says) (λ k d i. fills k d (omega arith))

  pub filled_until : {U : Type 0} (n l : ℕ) (xs : List A) (r : Result U E) (v : U → List A) (e : E) → r ≡ Err e → l < n → length xs ≡ n
      → AreFilledBelow (λ k r. r ≡ f k) l xs → Err e ≡ f l → ok_map v r ≡ each_below n f
  unfolding AreFilled
  filled_until {U = U} n l xs r v e h i size fills g =
      rw h (filled_values {U = U} f (λ k r. r ≡ f k) n xs (Err e) size (λ k r i says. says) (l, omega arith, fills, g))
