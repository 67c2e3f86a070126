use Rattle.std.proofs.Common.{sym, ap, ◌∙◌}
use Rattle.entangled.specs.CaseRun.{case_numbers, case_shares}
use Rattle.entangled.proofs.CaseSteps.{numbers_stay, case_shares_stay}
use Rattle.tests_decisions.proofs.graphs.case_nets.remove_and_put_back.Goals as goal

pub set_to-requires-clause-numbers : goal.set_to-requires-clause-numbers
set_to-requires-clause-numbers g c = numbers_stay _ _ _ (sym c.in_ok-remove.ensures.value) ∙ ap case_numbers c.requires

pub set_to-requires-clause-shares : goal.set_to-requires-clause-shares
set_to-requires-clause-shares g c = case_shares_stay _ _ _ (sym c.in_ok-remove.ensures.value) ∙ ap case_shares c.requires
