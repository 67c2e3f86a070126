use Rattle.std.proofs.Common.{length}
use Rattle.case_model.specs.CaseView.{content}
use Rattle.evidence_check.specs.CaseCheck.{loaded_case}
use Rattle.evidence_check.proofs.StepsAnswers.{Checked}
use Rattle.evidence_check.proofs.checker.steps.Given as goal

abbrev pub invariant-loop-s : goal.invariant-loop-s
invariant-loop-s g l = Checked g.F.Number.parts g.F.Number.kind (loaded_case g.F.Number.kind g.F.CaseNumber.numbers (content l.case))
    (length (content l.case).names) l.steps l.s
