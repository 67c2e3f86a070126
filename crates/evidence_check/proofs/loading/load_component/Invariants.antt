use Rattle.std.proofs.Common.{◌≡◌, Ok}
use Rattle.case_model.specs.CaseView.{content}
use Rattle.evidence_check.specs.CheckSteps.{all_below}
use Rattle.evidence_check.specs.CaseCheck.{row_load}
use Rattle.evidence_check.proofs.loading.load_component.Given as goal

abbrev pub invariant-loop-l : goal.invariant-loop-l
invariant-loop-l g l = all_below l.l (row_load g.F.CaseNumber.numbers (content l.case) l.c) ≡ Ok tt
