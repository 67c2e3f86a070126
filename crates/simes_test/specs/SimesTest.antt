-- Simes' test of an intersection (Simes 1986) with the weights of its members, and its closed test (Hommel 1988 for equal weights). Nothing is
-- claimed of when it is valid. That a sum of 0 rejects nothing is this project's own.
use Rattle.std.specs.Prelude.{◌≡◌, ℕ, Bool, ◌&&◌, if◌then◌else◌}
use Rattle.field_core.specs.Number.{Number}
use Rattle.field_core.specs.Arithmetic.{number_zero}
use Rattle.field_core.specs.Order.{at_most}
use Rattle.field_core.specs.NumberField.{number_field}
use Rattle.field_core.specs.Sums.{sum_below}
use Rattle.field_core.specs.Sets.{IsIn}
use Rattle.case_model.specs.EntangledGraph.{EntangledGraph}
use Rattle.case_model.specs.IntersectionWeight.{IsIntersectionWeight}
use Rattle.case_model.specs.ClosedTest.{Passes, IsClosedRejectedBy, IsRejectedBy}

-- whether `i` is a member of `I` whose p-value is at most that of `j`
unfoldable pub is_up_to : (ℕ → Number) → (ℕ → Bool) → ℕ → ℕ → Bool
is_up_to p I j i = I i && at_most (p i) (p j)

module _ (E : EntangledGraph) (p : ℕ → Number) where
  -- `s` is the sum of the weights in `I` of its members whose p-value is at most that of `j`
  pub record IsSumUpTo (I : ℕ → Bool) (j : ℕ) (s : Number) : Type 0 where
    pub weight : ℕ → Number
    pub is_weight : (i : ℕ) → IsIn E.hypotheses I i → IsIntersectionWeight E I i (weight i)
    pub sum : s ≡ sum_below number_field E.hypotheses (λ i. if is_up_to p I j i then weight i else number_zero)

  module _ (level : Number) where
    -- Simes' test rejects the intersection of `I`: the p-value of some member passes at the sum of the weights up to it
    pub record IsSimesRejected (I : ℕ → Bool) : Type 0 where
      pub hypothesis : ℕ
      pub member : IsIn E.hypotheses I hypothesis
      pub sum : Number
      pub is_sum : IsSumUpTo I hypothesis sum
      pub passes : Passes (p hypothesis) sum level

    -- the closed test of Simes' test rejects the intersection of `S`, which isn't empty: Simes' test rejects each set that contains `S`
    abbrev pub IsSimesClosed : (ℕ → Bool) → Type 0
    IsSimesClosed = IsClosedRejectedBy E.hypotheses IsSimesRejected

    -- the closed test of Simes' test rejects a hypothesis: it rejects the set whose only member is the hypothesis
    abbrev pub IsSimesClosedAlone : ℕ → Type 0
    IsSimesClosedAlone = IsRejectedBy E.hypotheses IsSimesRejected
