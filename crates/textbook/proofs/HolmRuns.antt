-- On Holm's graph no removal is refused.
use Rattle.std.proofs.Common.{◌≡◌, ◌≢◌, refl, sym, ap, ◌∙◌, subst, ℕ, suc, ◌≤◌, arith, Bool, lit<}
use Rattle.field_core.specs.NumberField.{number_field}
use Rattle.field_core.specs.Sets.{IsIn, dropping, whole}
use Rattle.field_core.proofs.Live.{dropping_other}
use Rattle.field_core.specs.Fractions.{one_over}
use Rattle.case_model.specs.TextbookGraphs.{equal_graph}
use Rattle.field_core.specs.Sets.{size_of}
use Rattle.field_core.proofs.Sizes.{size_within, size_dropped}
use Rattle.field_core.proofs.EqualShares.{equal_left, equal_closed}
use Rattle.field_core.proofs.UnitFractions.{one_over_parts}
use Rattle.case_model.proofs.HolmOrders.{equal_start}
use Rattle.removal.specs.StoredGraph.{StoredGraph, size}
use Rattle.textbook.specs.TextbookRuns.{Stores, IsNeverRefused, IsNeverRefusedAlone, HolmRemovalsAreDefined}
use Rattle.fraction.proofs.ShortNumbers.{IsNumberWithin}
use Rattle.textbook.proofs.ShortRemovals.{Fit}
use Rattle.textbook.proofs.ShortRuns.{never_refused}
use Rattle.textbook.proofs.BundleRuns.{bundle_never_refused}
use Rattle.field_core.specs.Runs.{IsOrder}

holm_fit : Fit 64 64
holm_fit = record {
  product = lit< tt;
  weight = lit< tt;
  loss = lit< tt;
  divisor = lit< tt;
  edge = lit< tt;
  quotient = lit< tt;
  share = lit< tt;
  level = lit< tt;
}

module _ (m : ℕ) (few : m ≤ 64) where
  part_short : (n r : ℕ) → suc r ≡ n → n ≤ m → IsNumberWithin 64 (one_over n)
  part_short n r e h = record { over = 1; under = r; is = ap one_over (sym e); over_within = omega arith; under_within = omega (arith, e, h, few) }

  pub weight_short : (I : ℕ → Bool) (l : ℕ) → IsIn m I l → IsNumberWithin 64 (one_over (size_of m I))
  weight_short I l p = part_short (size_of m I) (size_of m (dropping l I)) (size_dropped m l I p) (size_within m I)

  edge_short : (I : ℕ → Bool) (l h : ℕ) → IsIn m I l → IsIn m I h → l ≢ h → IsNumberWithin 64 (one_over (size_of m (dropping l I)))
  edge_short I l h p q n =
      let still : IsIn m (dropping l I) h = record { below = q.below; member = dropping_other l I h (λ x. n (sym x)) ∙ q.member } in
      part_short (size_of m (dropping l I)) (size_of m (dropping h (dropping l I))) (size_dropped m h (dropping l I) still) (size_within m (dropping l I))

  pub holm_never_refused : (S : StoredGraph) → size S ≡ m → Stores (equal_graph m) S → IsNeverRefused S
  holm_never_refused S e St =
      never_refused m (equal_left number_field one_over one_over_parts m) (equal_closed number_field one_over one_over_parts m) 64 64 holm_fit
      weight_short edge_short (equal_graph m) S e St (equal_start m)

  pub holm_never_refused_alone : (S : StoredGraph) → size S ≡ m → Stores (equal_graph m) S → IsNeverRefusedAlone S
  holm_never_refused_alone S e St js o =
      bundle_never_refused m (equal_left number_field one_over one_over_parts m) (equal_closed number_field one_over one_over_parts m) 64 64 holm_fit
      weight_short edge_short (equal_graph m) S e St (equal_start m) js (subst (λ n. IsOrder n whole js) e o)

pub holm_removals : HolmRemovalsAreDefined
holm_removals S St = (holm_never_refused (size S) St.stored.square.few S refl St, holm_never_refused_alone (size S) St.stored.square.few S refl St)
