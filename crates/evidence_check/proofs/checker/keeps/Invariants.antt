use Rattle.std.proofs.Common.{length}
use Rattle.case_model.specs.CaseView.{content}
use Rattle.evidence_check.specs.EvidenceView.{hypotheses_of}
use Rattle.evidence_check.specs.CaseCheck.{loaded_case}
use Rattle.evidence_check.proofs.StepsAnswers.{Kept}
use Rattle.evidence_check.proofs.checker.keeps.Given as goal

abbrev pub invariant-loop-x : goal.invariant-loop-x
invariant-loop-x g l =
    Kept g.F.Number.parts g.F.Number.kind (loaded_case g.F.Number.kind g.F.CaseNumber.numbers (content l.case)) (hypotheses_of l.steps)
    (length (content l.case).names) (length l.steps) l.keeps l.x
