-- On the graph of parallel gatekeeping no removal is refused.
use Rattle.std.proofs.Common.{◌≡◌, ◌≢◌, sym, ap, ap₂, ◌∙◌, inl, inr, refl, subst, ℕ, zero, suc, ◌+◌, ◌-◌, ◌*◌, ◌<◌, ◌≤◌, arith, Bool, lit<, pos}
use Rattle.std.proofs.lemmas.Int.{ints}
use Rattle.std.proofs.Math.Nat.{mul-le-mul}
use Rattle.field_core.specs.Fractions.{fraction, one_over}
use Rattle.field_core.specs.Arithmetic.{number_zero, ◌*ε◌}
use Rattle.field_core.specs.Laws.FractionLaws.{fraction-multiply}
use Rattle.field_core.specs.Runs.{IsOrder}
use Rattle.field_core.specs.Sets.{IsIn, dropping, size_of, whole}
use Rattle.field_core.proofs.Live.{dropping_other}
use Rattle.field_core.proofs.Positions.{below_or_above}
use Rattle.field_core.proofs.Sizes.{size_within}
use Rattle.field_core.proofs.UnitLimits.{suc_not_zero, zero_is}
use Rattle.fraction.proofs.ShortNumbers.{IsNumberWithin}
use Rattle.removal.specs.StoredGraph.{StoredGraph, size}
use Rattle.textbook.specs.Gatekeeping.{gatekeeping_graph}
use Rattle.textbook.specs.TextbookRuns.{Stores, IsNeverRefused, IsNeverRefusedAlone, GatekeepingRemovalsAreDefined}
use Rattle.textbook.proofs.GateShares.{seconds, seconds_less}
use Rattle.textbook.proofs.GateLeft.{parts, parts_none, nothing_of, left, left_closed, left_first, left_second, edge_first, edge_second, gate_start}
use Rattle.textbook.proofs.ShortRemovals.{Fit}
use Rattle.textbook.proofs.ShortRuns.{never_refused}
use Rattle.textbook.proofs.BundleRuns.{bundle_never_refused}

pub gate_fit : Fit 4096 64
gate_fit = record {
  product = lit< tt;
  weight = lit< tt;
  loss = lit< tt;
  divisor = lit< tt;
  edge = lit< tt;
  quotient = lit< tt;
  share = lit< tt;
  level = lit< tt;
}

zero_short : (n : ℕ) → IsNumberWithin (suc n) number_zero
zero_short n = record { over = 0; under = 0; is = zero_is; over_within = omega arith; under_within = omega arith }

part_short : (n k d : ℕ) → k ≡ suc d → k ≤ n → IsNumberWithin n (one_over k)
part_short n k d e h =
    record { over = 1; under = d; is = ap one_over e; over_within = omega (arith, e, h); under_within = omega (arith, e, h) }

-- r/a * 1/s, with `a` and `s` above 0
share_short : (r d n : ℕ) → r ≤ 64 → suc d ≤ 64 → suc n ≤ 64 → IsNumberWithin 4096 (parts (suc d) r *ε one_over (suc n))
share_short r d n h g k = record {
  over = r;
  under = suc d * suc n - 1;
  is = fraction-multiply (pos r) (pos (suc d)) (pos 1) (pos (suc n)) (suc_not_zero d) (suc_not_zero n)
      ∙ ap₂ (λ x y. fraction x y) (omega (arith, ints)) (ap pos (counted (suc d) (suc n) (omega arith) (omega arith)));
  over_within = omega (arith, h);
  under_within = subst (λ x. x ≤ 4096) (counted (suc d) (suc n) (omega arith) (omega arith)) (mul-le-mul g k);
}
  where
    counted : (x y : ℕ) → 0 < x → 0 < y → x * y ≡ suc (x * y - 1)
    counted x y p q = grind arith

module _ (a m : ℕ) (within : a ≤ m) (few : m ≤ 64) where
  seconds_few : (I : ℕ → Bool) → seconds a m within I ≤ 64
  seconds_few I = let e = size_within m I in omega (arith, e, few)

  share_within : (a r s n : ℕ) → r ≤ a → a ≤ 64 → s ≡ suc n → s ≤ 64 → IsNumberWithin 4096 (parts a r *ε one_over s)
  share_within zero r s n h g e k =
      let none : r ≡ 0 = omega (arith, h) in
      subst (IsNumberWithin 4096) (sym (ap (λ z. z *ε one_over s) (ap (parts 0) none ∙ parts_none 0) ∙ nothing_of (one_over s))) (zero_short 4095)
  share_within (suc d) r s n h g e k =
      subst (λ x. IsNumberWithin 4096 (parts (suc d) r *ε one_over x)) (sym e)
      (share_short r d n (omega (arith, h, g)) g (omega (arith, e, k)))

  pub weight_short : (I : ℕ → Bool) (l : ℕ) → IsIn m I l → IsNumberWithin 4096 ((left a m within I).weight l)
  weight_short I l p = elim (below_or_above l a) [
    | inl h ↦ subst (IsNumberWithin 4096) (sym (left_first a m within I l h)) (part_short 4096 a (a - 1) (omega (arith, h)) (omega (arith, within, few)))
    | inr h ↦
        let e = seconds_less a m within I l p h in
        subst (IsNumberWithin 4096) (sym (left_second a m within I l h))
        (share_within a (a - size_of a I) (seconds a m within I) (seconds a m within (dropping l I)) (omega arith) (omega (arith, within, few)) (sym e)
        (seconds_few I))
  ]

  pub edge_short : (I : ℕ → Bool) (l k : ℕ) → IsIn m I l → IsIn m I k → l ≢ k → IsNumberWithin 64 ((left a m within I).edge l k)
  edge_short I l k p q n = elim (below_or_above k a) [
    | inl h ↦ subst (IsNumberWithin 64) (sym (edge_first a m within I l k h)) (zero_short 63)
    | inr h ↦
        let still : IsIn m (dropping l I) k = record { below = q.below; member = dropping_other l I k (λ x. n (sym x)) ∙ q.member } in
        subst (IsNumberWithin 64) (sym (edge_second a m within I l k h))
        (part_short 64 (seconds a m within (dropping l I)) (seconds a m within (dropping k (dropping l I)))
        (sym (seconds_less a m within (dropping l I) k still h)) (seconds_few (dropping l I)))
  ]

module _ (a b m : ℕ) (families : m ≡ a + b) (within : a ≤ m) (few : m ≤ 64) where
  gate_never_refused : (S : StoredGraph) → size S ≡ m → Stores (gatekeeping_graph a b) S → IsNeverRefused S
  gate_never_refused S e St =
      never_refused m (left a m within) (left_closed a m within) 4096 64 gate_fit (weight_short a m within few) (edge_short a m within few)
      (gatekeeping_graph a b) S e St (gate_start a b m families within)

  gate_never_refused_alone : (S : StoredGraph) → size S ≡ m → Stores (gatekeeping_graph a b) S → IsNeverRefusedAlone S
  gate_never_refused_alone S e St js o =
      bundle_never_refused m (left a m within) (left_closed a m within) 4096 64 gate_fit (weight_short a m within few) (edge_short a m within few)
      (gatekeeping_graph a b) S e St (gate_start a b m families within) js (subst (λ n. IsOrder n whole js) e o)

pub gatekeeping_removals : GatekeepingRemovalsAreDefined
gatekeeping_removals S a b e St =
    let few : size S ≤ 64 = St.stored.square.few in
    let within : a ≤ size S = omega (arith, e) in (
      gate_never_refused a b (size S) e within few S refl St,
      gate_never_refused_alone a b (size S) e within few S refl St,
    )
