use Rattle.case_model.proofs.SpendLevels.{spend_level_up, last_reached, at_second, at_first, below_both}
use Rattle.case_model.proofs.laws.staged.spend_levels_are_nondecreasing.Goals as goal

pub returns-clause-levels : goal.returns-clause-levels
returns-clause-levels c = spend_level_up

pub returns-clause-steps : goal.returns-clause-steps
returns-clause-steps c = last_reached

pub returns-clause-two : goal.returns-clause-two
returns-clause-two c = λ a b t u. (at_second a b t u, at_first a b t u, below_both a b t u)
