-- The fixed sequence is a chain of the weights 1, 0 and so on.
use Rattle.std.proofs.Common.{◌≡◌, refl, ◌∙◌, ℕ, zero, suc, ◌≤◌, arith, pos}
use Rattle.field_core.specs.Fractions.{fraction}
use Rattle.field_core.proofs.UnitLimits.{zero_is, one_is}
use Rattle.case_model.specs.TextbookGraphs.{first_alone}
use Rattle.removal.specs.StoredGraph.{size}
use Rattle.textbook.specs.TextbookRuns.{total, SequenceRemovalsAreDefined}
use Rattle.textbook.proofs.ChainRuns.{fallback_removals}

pub first_part : ℕ → ℕ
first_part zero = 1
first_part (suc i) = 0

pub first_weight : (i : ℕ) → first_alone i ≡ fraction (pos (first_part i)) (pos 1)
unfolding first_part
first_weight zero = one_is
first_weight (suc i) = zero_is

all_one : (n : ℕ) → total first_part (suc n) ≡ 1
unfolding total first_part
all_one zero = refl
all_one (suc n) = let e = all_one n in omega (arith, e)

at_most_one : (n : ℕ) → total first_part n ≤ 1
unfolding total
at_most_one zero = omega arith
at_most_one (suc n) = let e = all_one n in omega (arith, e)

pub sequence_removals : SequenceRemovalsAreDefined
sequence_removals S St =
    fallback_removals S first_part 0 (omega arith) (at_most_one (size S))
    (record { stored = St.stored; live = St.live; weight_is = λ l b. St.weight_is l b ∙ first_weight l; edge_is = St.edge_is })
