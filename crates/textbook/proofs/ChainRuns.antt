-- On a chain of weights with a common denominator no removal is refused.
use Rattle.std.proofs.Common.{◌≡◌, inl, inr, refl, sym, ap, ◌∙◌, subst, ℕ, zero, suc, ◌≤◌, ◌<◌, ◌+◌, ◌*◌, arith, Bool, lit<}
use Rattle.std.proofs.Common.{pos, ◌*ℤ◌, ◌+ℤ◌}
use Rattle.std.proofs.lemmas.Int.{ints}
use Rattle.field_core.specs.Number.{Number}
use Rattle.field_core.specs.Arithmetic.{◌+ε◌}
use Rattle.field_core.specs.Fractions.{fraction}
use Rattle.field_core.specs.NumberField.{number_field}
use Rattle.field_core.specs.Sums.{unit}
use Rattle.field_core.specs.Sets.{IsIn, whole}
use Rattle.field_core.specs.Laws.FractionLaws.{fraction-add, fraction-equal}
use Rattle.field_core.specs.Laws.NumberFieldLaws.{field_zero, field_one, field_sum}
use Rattle.field_core.proofs.Live.{true_or_false}
use Rattle.field_core.proofs.RemovalLaws.{same_or_not}
use Rattle.field_core.proofs.SumLaws.{unit_same, unit_other}
use Rattle.field_core.proofs.UnitLimits.{zero_is, one_is, suc_not_zero}
use Rattle.case_model.specs.TextbookGraphs.{chain_graph}
use Rattle.field_core.proofs.Positions.{at_or_below}
use Rattle.field_core.proofs.Chains.{chain_weight, chain_edge, chain_left, chain_closed, weight_first, weight_kept, weight_passed, edge_first, edge_kept}
use Rattle.field_core.proofs.Chains.{edge_passed}
use Rattle.case_model.proofs.FallbackOrders.{chain_start}
use Rattle.removal.specs.StoredGraph.{StoredGraph, size}
use Rattle.textbook.specs.TextbookRuns.{Stores, IsNeverRefused, IsNeverRefusedAlone, total, FallbackRemovalsAreDefined}
use Rattle.fraction.proofs.ShortNumbers.{IsNumberWithin}
use Rattle.textbook.proofs.ShortRemovals.{Fit}
use Rattle.textbook.proofs.ShortRuns.{never_refused}
use Rattle.textbook.proofs.BundleRuns.{bundle_never_refused}
use Rattle.field_core.specs.Runs.{IsOrder}

chain_fit : Fit 100000000 1
chain_fit = record {
  product = lit< tt;
  weight = lit< tt;
  loss = lit< tt;
  divisor = lit< tt;
  edge = lit< tt;
  quotient = lit< tt;
  share = lit< tt;
  level = lit< tt;
}

-- ---- edges are 0 or 1

zero_short : IsNumberWithin 1 number_field.𝟘
zero_short = record { over = 0; under = 0; is = field_zero ∙ zero_is; over_within = omega arith; under_within = omega arith }

one_short : IsNumberWithin 1 number_field.𝟙
one_short = record { over = 1; under = 0; is = field_one ∙ one_is; over_within = omega arith; under_within = omega arith }

unit_short : (l k : ℕ) → IsNumberWithin 1 (unit number_field l k)
unit_short l k = elim (same_or_not l k) [
  | inl e ↦ subst (IsNumberWithin 1) (sym (ap (unit number_field l) (sym e) ∙ unit_same number_field l)) one_short
  | inr n ↦ subst (IsNumberWithin 1) (sym (unit_other number_field l k n)) zero_short
]

edge_short : (I : ℕ → Bool) (l k : ℕ) → IsNumberWithin 1 (chain_edge number_field I l k)
edge_short I l zero = subst (IsNumberWithin 1) (sym (edge_first number_field I l)) zero_short
edge_short I l (suc k) = elim (true_or_false (I k)) [
  | inl t ↦ subst (IsNumberWithin 1) (sym (edge_kept number_field I l k t)) (unit_short l k)
  | inr f ↦ subst (IsNumberWithin 1) (sym (edge_passed number_field I l k f)) (edge_short I l k)
]

-- ---- weights are whole multiples of 1/D

total_next : (a : ℕ → ℕ) (n : ℕ) → total a (suc n) ≡ total a n + a n
unfolding total
total_next a n = refl

total_grows : (a : ℕ → ℕ) (k m : ℕ) → k < m → total a (suc k) ≤ total a m
total_grows a k zero h = absurd (omega (arith, h))
total_grows a k (suc m) h = elim (at_or_below k m h) [
  | inl e ↦ let q : total a (suc k) ≡ total a (suc m) = ap (λ i. total a (suc i)) e in omega (arith, q)
  | inr b ↦ let q = total_grows a k m b in let n = total_next a m in omega (arith, q, n)
]

module _ (a : ℕ → ℕ) (d : ℕ) where
  common : ℕ → Number
  common i = fraction (pos (a i)) (pos (suc d))

  natural : (x y n : ℕ) → (x * n + y * n) * n ≡ (x + y) * (n * n)
  natural x y n = omega arith

  pub sum_common : (x y : ℕ) → fraction (pos x) (pos (suc d)) +ε fraction (pos y) (pos (suc d)) ≡ fraction (pos (x + y)) (pos (suc d))
  sum_common x y =
      fraction-add (pos x) (pos (suc d)) (pos y) (pos (suc d)) (suc_not_zero d) (suc_not_zero d)
      ∙ fraction-equal (pos x *ℤ pos (suc d) +ℤ pos y *ℤ pos (suc d)) (pos (suc d) *ℤ pos (suc d)) (pos (x + y)) (pos (suc d))
      (λ e. absurd (omega (arith, ints, e))) (suc_not_zero d) (ap pos (natural x y (suc d)))

  -- a numerator over the common denominator
  record IsMultiple (bound : ℕ) (x : Number) : Type 0 where
    over : ℕ
    is : x ≡ fraction (pos over) (pos (suc d))
    most : over ≤ bound

  multiple : (I : ℕ → Bool) (k : ℕ) → IsMultiple (total a (suc k)) (chain_weight number_field (λ i. fraction (pos (a i)) (pos (suc d))) I k)
  multiple I zero = record { over = a 0; is = weight_first number_field _ I; most = let n = total_next a 0 in omega (arith, n) }
  multiple I (suc k) =
      let w : ℕ → Number = λ i. fraction (pos (a i)) (pos (suc d)) in
      let next = total_next a (suc k) in
      elim (true_or_false (I k)) [
        | inl t ↦ record { over = a (suc k); is = weight_kept number_field (λ i. fraction (pos (a i)) (pos (suc d))) I k t; most = omega (arith, next) }
        | inr f ↦
            let M = multiple I k in
            record {
              over = a (suc k) + M.over;
              is = weight_passed number_field (λ i. fraction (pos (a i)) (pos (suc d))) I k f ∙ field_sum _ _
                  ∙ ap (λ z. fraction (pos (a (suc k))) (pos (suc d)) +ε z) M.is ∙ sum_common (a (suc k)) M.over;
              most = let b = M.most in omega (arith, next, b);
            }
      ]

  module _ (m : ℕ) (small : d < 100000000) (whole_sum : total a m ≤ suc d) where
    pub weight_short : (I : ℕ → Bool) (l : ℕ) → IsIn m I l
        → IsNumberWithin 100000000 (chain_weight number_field (λ i. fraction (pos (a i)) (pos (suc d))) I l)
    weight_short I l p =
        let M = multiple I l in
        let b = M.most in
        let g = total_grows a l m p.below in
        record { over = M.over; under = d; is = M.is; over_within = omega (arith, b, g, whole_sum, small); under_within = omega (arith, small) }

    pub chain_never_refused : (S : StoredGraph) → size S ≡ m → Stores (chain_graph (λ i. fraction (pos (a i)) (pos (suc d)))) S → IsNeverRefused S
    chain_never_refused S e St =
        never_refused m (chain_left number_field (λ i. fraction (pos (a i)) (pos (suc d))))
        (chain_closed number_field m (λ i. fraction (pos (a i)) (pos (suc d)))) 100000000 1 chain_fit
        weight_short (λ I l h _ _ _. edge_short I l h) (chain_graph (λ i. fraction (pos (a i)) (pos (suc d)))) S e St
        (chain_start m (λ i. fraction (pos (a i)) (pos (suc d))))

    pub chain_never_refused_alone : (S : StoredGraph) → size S ≡ m → Stores (chain_graph (λ i. fraction (pos (a i)) (pos (suc d)))) S
        → IsNeverRefusedAlone S
    chain_never_refused_alone S e St js o =
        bundle_never_refused m (chain_left number_field (λ i. fraction (pos (a i)) (pos (suc d))))
        (chain_closed number_field m (λ i. fraction (pos (a i)) (pos (suc d)))) 100000000 1 chain_fit
        weight_short (λ I l h _ _ _. edge_short I l h) (chain_graph (λ i. fraction (pos (a i)) (pos (suc d)))) S e St
        (chain_start m (λ i. fraction (pos (a i)) (pos (suc d)))) js (subst (λ n. IsOrder n whole js) e o)

pub fallback_removals : FallbackRemovalsAreDefined
fallback_removals S a d small sum St = (chain_never_refused a d (size S) small sum S refl St, chain_never_refused_alone a d (size S) small sum S refl St)
