-- Lists of values that may be refused.
use Rattle.std.proofs.Common.{◌≡◌, ℕ, zero, suc, ◌+◌, ◌-◌, ◌<◌, ◌≤◌, List, [], ◌∷◌, ◌++◌, length, refl, sym, ◌∙◌, ap}
use Rattle.std.proofs.Common.{subst, arith, ℤ, pos, inl, inr, Option, Some, None, take}
use Rattle.std.proofs.lemmas.Bool.{cases_lt}
use Rattle.std.proofs.lemmas.List.{take_more, take_all, length_push, get_or_append_left, get_or_push}
use Rattle.field_core.specs.Polynomial.{coefficient}
use Rattle.field_core.specs.Sized.{◌>>=◌}
use Rattle.field_core.specs.Laws.PolynomialLaws.{coefficient-index}
use Rattle.eps_poly.specs.Written.{sized_list}
use Rattle.field_core.proofs.Results.{one_some, bind_some}

-- one more value
list_next : (n : ℕ) (value : ℕ → Option ℤ) (xs : List ℤ) (c : ℤ) → sized_list n value ≡ Some xs → value n ≡ Some c
    → sized_list (suc n) value ≡ Some (xs ++ c ∷ [])
unfolding sized_list
list_next n value xs c e f = rw (e, f) refl

list_stays : (n : ℕ) (value : ℕ → Option ℤ) → sized_list n value ≡ None → sized_list (suc n) value ≡ None
unfolding sized_list
list_stays n value h = rw h refl

list_stops : (n : ℕ) (value : ℕ → Option ℤ) (xs : List ℤ) → sized_list n value ≡ Some xs → value n ≡ None
    → sized_list (suc n) value ≡ None
unfolding sized_list
list_stops n value xs h f = rw (h, f) refl

list_none : (value : ℕ → Option ℤ) → sized_list 0 value ≡ Some []
unfolding sized_list
list_none value = refl

next_front : (n : ℕ) (xs : List ℤ) → take (n + 1) xs ≡ take (suc n) xs
next_front n xs = rw (next n) refl
  where
    next : (n : ℕ) → n + 1 ≡ suc n
    next n = omega arith

-- the values of a list, one after the other
list_front : (n : ℕ) (value : ℕ → Option ℤ) (xs : List ℤ) → n ≤ length xs → ((k : ℕ) → k < n → value k ≡ Some (coefficient xs k))
    → sized_list n value ≡ Some (take n xs)
list_front zero value xs h f = list_none value
list_front (suc n) value xs h f =
    list_next n value (take n xs) (coefficient xs n) (list_front n value xs (omega arith) (λ k l. f k (omega arith))) (f n (omega arith))
    ∙ ap Some (ap (λ c. take n xs ++ c ∷ []) (coefficient-index xs n (pos 0) (omega arith)) ∙ sym (take_more xs n (pos 0) (omega arith))
    ∙ next_front n xs)

list_refused : (m n : ℕ) (value : ℕ → Option ℤ) → sized_list n value ≡ None → sized_list (m + n) value ≡ None
list_refused zero n value h = ap (λ k. sized_list k value) (omega arith) ∙ h
list_refused (suc m) n value h = ap (λ k. sized_list k value) (omega arith) ∙ list_stays (m + n) value (list_refused m n value h)

-- all 33 are there
pub list_from_all : (value : ℕ → Option ℤ) (xs : List ℤ) → length xs ≡ 33 → ((k : ℕ) → value k ≡ Some (coefficient xs k))
    → sized_list 33 value ≡ Some xs
list_from_all value xs count h =
    list_front 33 value xs (omega arith) (λ k l. h k) ∙ ap Some (take_all 33 xs (omega arith))

-- the value that comes next is refused
pub list_from_refused : (value : ℕ → Option ℤ) (xs : List ℤ) (n : ℕ) → n < 33 → length xs ≡ 33
    → ((k : ℕ) → k < n → value k ≡ Some (coefficient xs k)) → value n ≡ None → sized_list 33 value ≡ None
list_from_refused value xs n h count front refused =
    let gap : (33 - suc n) + suc n ≡ 33 = omega arith in
    let stopped = list_stops n value (take n xs) (list_front n value xs (omega arith) front) refused in
    rw gap at (list_refused (33 - suc n) (suc n) value stopped)

-- n values and a list of them
pub record AreValues (n : ℕ) (value : ℕ → Option ℤ) (xs : List ℤ) : Type 0 where
  pub count : length xs ≡ n
  pub each : (k : ℕ) → k < n → value k ≡ Some (coefficient xs k)

values_push : (n : ℕ) (value : ℕ → Option ℤ) (xs : List ℤ) (c : ℤ) → AreValues n value xs → value n ≡ Some c
    → AreValues (suc n) value (xs ++ c ∷ [])
values_push n value xs c v e =
    let all = v.count in
    let long = length_push xs c in
    record {
      count = omega arith;
      each = λ k h. elim (cases_lt k n) [
        | inl l ↦ v.each k l ∙ ap Some
            (coefficient-index xs k (pos 0) (omega arith) ∙ sym (get_or_append_left xs (c ∷ []) (pos 0) k (omega arith))
            ∙ sym (coefficient-index (xs ++ c ∷ []) k (pos 0) (omega arith)))
        | inr l ↦ let same : n ≡ k = omega arith in rw (← same)
            (e ∙ ap Some (sym (coefficient-index (xs ++ c ∷ []) n (pos 0) (omega arith) ∙ get_or_push xs c (pos 0) n all)))
      ];
    }

-- the values of a list that isn't refused
pub list_values : (n : ℕ) (value : ℕ → Option ℤ) (xs : List ℤ) → sized_list n value ≡ Some xs → AreValues n value xs
unfolding sized_list
list_values zero value xs e = let none : [] ≡ xs = cc in subst (AreValues zero value) none (record { count = refl; each = λ k h. absurd (omega arith) })
list_values (suc n) value xs e =
    let front = bind_some (sized_list n value) (λ front. value n >>= (λ last. Some (front ++ last ∷ []))) xs e in
    let last = bind_some (value n) (λ last. Some (front.0 ++ last ∷ [])) xs front.2 in
    let whole : front.0 ++ last.0 ∷ [] ≡ xs = one_some (Some (front.0 ++ last.0 ∷ [])) (front.0 ++ last.0 ∷ []) xs refl last.2 in
    subst (AreValues (suc n) value) whole (values_push n value front.0 last.0 (list_values n value front.0 front.1) last.1)
