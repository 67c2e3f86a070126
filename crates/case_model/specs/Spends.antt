-- The level of a stage at a weight, by what a hypothesis spends at the stages (this project's own).
use Rattle.std.specs.Prelude.{◌≡◌, ◌++◌, ℕ, zero, suc, List, [], ◌∷◌, Option, None}
use Rattle.std.specs.Bool.{then_some}
use Rattle.std.specs.List.{Contains}
use Rattle.std.specs.Option.{option_or, option_map_or}
use Rattle.field_core.specs.Number.{Number}
use Rattle.field_core.specs.Arithmetic.{number_zero, ◌*ε◌}
use Rattle.field_core.specs.Order.{◌≤ε◌, at_most}
use Rattle.field_core.specs.declared.ratio.Ratio.{Ratio}
use Rattle.fraction.specs.View.{number_of}
use Rattle.case_model.specs.Sums.{number_at}
use Rattle.case_model.specs.declared.spend.Spend.{Spend}
use Rattle.case_model.specs.declared.spend.Spend.TheVariants.{Shares, Table}
use Rattle.case_model.specs.declared.spend_step.SpendStep.{SpendStep}

-- the fraction of a stage, counted from 1, as a number; it is 0 past the last stage, and for the stage 0, which is none
abbrev pub stage_number : List Ratio → ℕ → Number
stage_number xs zero = number_zero
stage_number xs (suc t) = number_at xs t

-- the last step whose `from` is at most a weight, if there is one
unfoldable pub last_step : List SpendStep → Number → Option SpendStep
last_step [] u = None
last_step (s ∷ ss) u = option_or (last_step ss u) (then_some (at_most (number_of s.from) u) s)

-- the level of a stage in a table at a weight: that of the last step whose `from` is at most the weight, and 0 if there is none
abbrev pub table_level : List SpendStep → ℕ → Number → Number
table_level ss t u = option_map_or (λ s. stage_number s.levels t) (last_step ss u) number_zero

-- The level of a stage at a weight `u`, by a spend. By a list it is the fraction of the stage times `u * alpha`, by a table that of the table.
unfoldable pub spend_level : Spend → Number → ℕ → Number → Number
spend_level (Shares fs) alpha t u = (stage_number fs t *ε u) *ε alpha
spend_level (Table ss) alpha t u = table_level ss t u

-- from the level `low` on, the level of a stage doesn't fall from step to step
abbrev pub IsRising : ℕ → Number → List SpendStep → Type 0
IsRising t low [] = Unit {0}
IsRising t low (s ∷ ss) = (low ≤ε stage_number s.levels t) × IsRising t (stage_number s.levels t) ss

-- at a stage, a spend isn't below 0, and doesn't fall from step to step
abbrev pub IsRisingSpend : Spend → ℕ → Type 0
IsRisingSpend (Shares fs) t = number_zero ≤ε stage_number fs t
IsRisingSpend (Table ss) t = IsRising t number_zero ss

-- `s` is the last step whose `from` is at most a weight: each one after it begins above the weight
pub record IsLastStep (ss : List SpendStep) (u : Number) (s : SpendStep) : Type 0 where
  pub before : List SpendStep
  pub behind : List SpendStep
  pub steps : ss ≡ before ++ s ∷ behind
  pub reached : number_of s.from ≤ε u
  pub above : (x : SpendStep) → Contains behind x → ¬ (number_of x.from ≤ε u)
