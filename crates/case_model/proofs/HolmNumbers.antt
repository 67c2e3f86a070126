-- Holm's rule rejects the number that Holm's number gives.
use Rattle.std.proofs.Common.{◌≡◌, ◌↔◌, inl, inr, sym, ap, ◌∙◌, subst, ℕ, zero, suc, ◌-◌, ◌<◌, ◌≤◌, arith, List, []}
use Rattle.std.proofs.Common.{◌∷◌, length, get_or, take, false}
use Rattle.field_core.specs.Number.{Number}
use Rattle.field_core.specs.Arithmetic.{number_zero, ◌*ε◌}
use Rattle.field_core.specs.Order.{◌≤ε◌, at_most}
use Rattle.field_core.specs.Fractions.{one_over}
use Rattle.field_core.proofs.Live.{true_or_false, true_not_false}
use Rattle.case_model.specs.EntangledGraph.{EntangledGraph, IsValidEntangled}
use Rattle.case_model.specs.ClosedTest.{IsRejected}
use Rattle.case_model.specs.LegalOrder.{IsListed}
use Rattle.case_model.specs.TextbookGraphs.{IsHolmGraph}
use Rattle.case_model.specs.TextbookRules.{by_p_value, IsHolmNumber, IsHolmRejected}
use Rattle.case_model.proofs.ByPValue.{by_p_value_length}
use Rattle.case_model.proofs.HolmOrders.{stepped_down, down_none, down_on, down_stop, stepped_decides}

module _ (p : ℕ → Number) (level : Number) where
  -- the p-value at a place of a list is small
  abbrev Small : List ℕ → ℕ → Type 0
  Small js i = p (get_or js i 0) ≤ε (one_over (length js - i) *ε level)

  further : (j : ℕ) (js : List ℕ) (i : ℕ) → Small (j ∷ js) (suc i) → Small js i
  further j js i h = let e : suc (length js) - suc i ≡ length js - i = omega arith in rw e at h

  back : (j : ℕ) (js : List ℕ) (i : ℕ) → Small js i → Small (j ∷ js) (suc i)
  back j js i h = let e : length js - i ≡ suc (length js) - suc i = omega arith in rw e at h

  as_many : (js : List ℕ) (r : ℕ) → r ≤ length js → ((i : ℕ) → i < r → Small js i) → (r < length js → ¬ Small js r)
      → stepped_down p level js ≡ take r js
  as_many [] zero h each next = down_none p level
  as_many [] (suc r) h each next = absurd (omega arith)
  as_many (j ∷ js) zero h each next = elim (true_or_false (at_most (p j) (one_over (length (j ∷ js)) *ε level))) [
    | inl t ↦ absurd (next (omega arith)
        (let e : suc (length js) ≡ suc (length js) - 0 = omega arith in subst (λ n. p j ≤ε (one_over n *ε level)) e t))
    | inr f ↦ down_stop p level j js f
  ]
  as_many (j ∷ js) (suc r) h each next =
      let first : p j ≤ε (one_over (suc (length js)) *ε level) = let e : suc (length js) - 0 ≡ suc (length js) =
      omega arith in subst (λ n. p j ≤ε (one_over n *ε level)) e (each 0 (omega arith)) in
      down_on p level j js first
      ∙ ap (λ ks. j ∷ ks) (as_many js r (omega arith) (λ i b. further j js i (each (suc i) (omega arith)))
      (λ b s. next (omega arith) (back j js r s)))

  pub first_rejected : (n r : ℕ) → IsHolmNumber p level n r → stepped_down p level (by_p_value p n) ≡ take r (by_p_value p n)
  first_rejected n r H = as_many (by_p_value p n) r (subst (λ k. r ≤ k) (sym count) H.within)
      (λ i b. subst (λ k. p (get_or (by_p_value p n) i 0) ≤ε (one_over (k - i) *ε level)) (sym count) (H.each i b))
      (λ b s. H.next (subst (λ k. r < k) count b) (subst (λ k. p (get_or (by_p_value p n) r 0) ≤ε (one_over (k - r) *ε level)) count s))
    where
      count : length (by_p_value p n) ≡ n
      count = by_p_value_length p n

  -- ---- there is just one Holm number

  -- the first `r` of a list are small, and the next one, if there is one, isn't
  record Counts (js : List ℕ) (r : ℕ) : Type 0 where
    within : r ≤ length js
    each : (i : ℕ) → i < r → Small js i
    next : r < length js → ¬ Small js r

  counts_on : (j : ℕ) (js : List ℕ) (r : ℕ) → p j ≤ε (one_over (suc (length js)) *ε level) → Counts js r → Counts (j ∷ js) (suc r)
  counts_on j js r h C = record { within = omega (arith, C.within); each = small; next = λ b s. C.next (omega arith) (further j js r s) }
    where
      small : (i : ℕ) → i < suc r → Small (j ∷ js) i
      small zero b = let e : suc (length js) ≡ suc (length js) - 0 = omega arith in subst (λ n. p j ≤ε (one_over n *ε level)) e h
      small (suc i) b = back j js i (C.each i (omega arith))

  counts_stop : (j : ℕ) (js : List ℕ) → at_most (p j) (one_over (suc (length js)) *ε level) ≡ false → Counts (j ∷ js) 0
  counts_stop j js f = record {
    within = omega arith;
    each = λ i b. absurd (omega arith);
    next = λ b s. let e : suc (length js) - 0 ≡ suc (length js) = omega arith in
        let t : p j ≤ε (one_over (suc (length js)) *ε level) = subst (λ n. p j ≤ε (one_over n *ε level)) e s in true_not_false (sym t ∙ f);
  }

  counted : (js : List ℕ) → Counts js (length (stepped_down p level js))
  counted [] = subst (λ ks. Counts [] (length ks)) (sym (down_none p level))
      record { within = omega arith; each = λ i b. absurd (omega arith); next = λ b. absurd (omega arith) }
  counted (j ∷ js) = elim (true_or_false (at_most (p j) (one_over (length (j ∷ js)) *ε level))) [
    | inl t ↦ subst (λ ks. Counts (j ∷ js) (length ks)) (sym (down_on p level j js t)) (counts_on j js _ t (counted js))
    | inr f ↦ subst (λ ks. Counts (j ∷ js) (length ks)) (sym (down_stop p level j js f)) (counts_stop j js f)
  ]

  number_of_counts : (n r : ℕ) → Counts (by_p_value p n) r → IsHolmNumber p level n r
  number_of_counts n r C = record {
    within = subst (λ k. r ≤ k) count C.within;
    each = λ i b. subst (λ k. p (get_or (by_p_value p n) i 0) ≤ε (one_over (k - i) *ε level)) count (C.each i b);
    next = λ b s. C.next (subst (λ k. r < k) (sym count) b) (subst (λ k. p (get_or (by_p_value p n) r 0) ≤ε (one_over (k - r) *ε level)) (sym count) s);
  }
    where
      count : length (by_p_value p n) ≡ n
      count = by_p_value_length p n

  not_below : (n r s : ℕ) → IsHolmNumber p level n r → IsHolmNumber p level n s → ¬ (s < r)
  not_below n r s H K b = K.next (let w = H.within in omega (arith, w, b)) (H.each s b)

  pub one_number : (n : ℕ) → (r : ℕ) × IsHolmNumber p level n r × ((s : ℕ) → IsHolmNumber p level n s → s ≡ r)
  one_number n = (r, is, λ s K. let a = not_below n r s is K in let b = not_below n s r K is in omega (arith, a, b))
    where
      r : ℕ
      r = length (stepped_down p level (by_p_value p n))

      is : IsHolmNumber p level n r
      is = number_of_counts n r (counted (by_p_value p n))

  -- ---- Holm's rule rejects what is stepped down to

  pub rejected_stepped : (n j : ℕ) → IsListed (stepped_down p level (by_p_value p n)) j ↔ IsHolmRejected p level n j
  rejected_stepped n j = (
    λ l. let r = one_number n in record { number = r.0; is_number = r.1; among = subst (λ ks. IsListed ks j) (first_rejected n r.0 r.1) l },
    λ h. subst (λ ks. IsListed ks j) (sym (first_rejected n h.number h.is_number)) h.among,
  )

  pub holm_decides : (E : EntangledGraph) → IsValidEntangled E → IsHolmGraph E → number_zero ≤ε level → (j : ℕ) → IsRejected E p level j
      ↔ IsHolmRejected p level E.hypotheses j
  holm_decides E V A n j =
      let S = stepped_decides p level E V A n j in
      let R = rejected_stepped E.hypotheses j in
      (λ h. R.0 (S.0 h), λ h. S.1 (R.1 h))
