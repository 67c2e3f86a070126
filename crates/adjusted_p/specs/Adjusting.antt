-- The run of adjusted values: its steps so far. (No public contract cites this.)
use Rattle.std.specs.Prelude.{◌≡◌, List, [], ◌∷◌, length}
use Rattle.field_core.specs.Number.{Number}
use Rattle.field_core.specs.Arithmetic.{number_zero}
use Rattle.field_core.specs.Sets.{whole}
use Rattle.field_core.specs.declared.ratio.Ratio.{Ratio}
use Rattle.fraction.specs.View.{number_of}
use Rattle.case_model.specs.Sums.{number_at}
use Rattle.case_model.specs.Content.{Content, entangled}
use Rattle.sequential.specs.Trials.{TrialContent}
use Rattle.sequential.specs.DecisionRuns.{IsRunSoFar, IsRun}
use Rattle.sequential.specs.declared.decision.StepLine.{StepLine}
use Rattle.sequential.specs.declared.priority.Priority.TheVariants.{Ratio as ByRatio}
use Rattle.adjusted_p.specs.declared.adjusted.Adjusted.{Adjusted}
use Rattle.adjusted_p.specs.AdjustedLists.{adjusted_at}
use Rattle.adjusted_p.specs.RatioRuns.{ValueStep, removed_ones, AreValueSteps, IsTableOf}

-- the value of the last step, and `before` if there is none
abbrev pub last_value : Number → List ValueStep → Number
last_value before [] = before
last_value before (x ∷ xs) = last_value (number_of x.value) xs

-- steps with their values, and the table of the values
pub record AreSteps (c : Content) (t : TrialContent) (steps : List ValueStep) (table : List Adjusted) : Type 0 where
  pub removed : removed_ones steps ≡ t.rejected
  pub values : AreValueSteps (entangled c) (number_at t.p_values) whole number_zero steps
  pub is_table : IsTableOf (adjusted_at table) steps
  pub count : length table ≡ length t.p_values

-- the run so far, and the last value
pub record IsAdjustingSoFar (c : Content) (t : TrialContent) (before : Ratio) (table : List Adjusted) : Type 0 where
  pub lines : List StepLine
  pub run : IsRunSoFar c ByRatio lines t
  pub steps : List ValueStep
  pub are_steps : AreSteps c t steps table
  pub last : last_value number_zero steps ≡ number_of before

-- a run that is done
pub record IsAdjustingRun (c : Content) (t : TrialContent) (table : List Adjusted) : Type 0 where
  pub lines : List StepLine
  pub run : IsRun c ByRatio lines t
  pub steps : List ValueStep
  pub are_steps : AreSteps c t steps table
