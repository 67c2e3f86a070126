use Rattle.std.proofs.Common.{◌≡◌, Ok}
use Rattle.case_model.specs.CaseView.{content}
use Rattle.evidence_check.specs.CheckSteps.{all_below}
use Rattle.evidence_check.specs.CaseCheck.{component_load}
use Rattle.evidence_check.proofs.loading.load.Given as goal

abbrev pub invariant-loop-c : goal.invariant-loop-c
invariant-loop-c g l = all_below l.c (component_load g.F.CaseNumber.numbers (content l.case)) ≡ Ok tt
