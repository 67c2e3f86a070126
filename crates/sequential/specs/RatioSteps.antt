-- Rejections by the least ratio, with their ratios.
use Rattle.std.specs.Prelude.{length, Option, Some, None}
use Rattle.field_core.specs.View.{terms}
use Rattle.sequential.specs.Trials.{TrialContent}
use Rattle.sequential.specs.Choices.{HasLeastRatioBelow}
use Rattle.sequential.specs.DecisionRuns.{IsStepOf, IsEndOf}
use Rattle.sequential.specs.declared.decision.RatioStep.{RatioStep}
use Rattle.sequential.specs.declared.priority.Priority.TheVariants.{Ratio}

-- one more step of the run by ratios, with its ratio
pub record IsStepByRatio (old new : TrialContent) (x : RatioStep) : Type 0 where
  pub step : IsStepOf Ratio old new x.line
  pub least : HasLeastRatioBelow (length old.p_values) old.p_values old.state x.line.hypothesis (terms x.ratio)

-- one more step of the run by ratios, or its end
abbrev pub IsRatioStep : TrialContent → TrialContent → Option RatioStep → Type 0
IsRatioStep old new None = IsEndOf Ratio old new
IsRatioStep old new (Some x) = IsStepByRatio old new x
