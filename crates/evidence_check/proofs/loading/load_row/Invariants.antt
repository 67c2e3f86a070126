use Rattle.std.proofs.Common.{◌≡◌, Ok}
use Rattle.case_model.specs.CaseView.{content}
use Rattle.evidence_check.specs.CheckSteps.{all_below}
use Rattle.evidence_check.specs.CaseCheck.{edge_load}
use Rattle.evidence_check.proofs.loading.load_row.Given as goal

abbrev pub invariant-loop-k : goal.invariant-loop-k
invariant-loop-k g l = all_below l.k (edge_load g.F.CaseNumber.numbers (content l.case) l.c l.l) ≡ Ok tt
