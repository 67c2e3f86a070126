-- Members of sets whose p-values pass. (No public contract cites this.)
use Rattle.std.specs.Prelude.{ℕ, List}
use Rattle.field_core.specs.declared.ratio.Ratio.{Ratio}
use Rattle.field_core.specs.Sets.{IsIn}
use Rattle.field_core.specs.NumberedSets.{members}
use Rattle.fraction.specs.View.{number_of}
use Rattle.case_model.specs.Sums.{number_at}
use Rattle.case_model.specs.ClosedTest.{Passes}

-- of `m` hypotheses, some member of the set of `n` has a p-value that passes at its weight in the set
pub record HasPassing (m : ℕ) (ps : List Ratio) (weight : ℕ → ℕ → Ratio) (alpha : Ratio) (n : ℕ) : Type 0 where
  pub hypothesis : ℕ
  pub member : IsIn m (members n) hypothesis
  pub passes : Passes (number_at ps hypothesis) (number_of (weight n hypothesis)) (number_of alpha)
