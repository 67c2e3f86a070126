use Rattle.std.proofs.Common.{◌≡◌, ◌++◌, [], drop, take, map}
use Rattle.case_model.specs.CaseView.{content}
use Rattle.evidence_check.specs.EvidenceView.{hypotheses_of, step_parts}
use Rattle.evidence_check.specs.EvidenceLines.{step_lines}
use Rattle.text_lines.specs.Spelling.{text_of}
use Rattle.evidence_check.specs.NumberReading.{case_frame}
use Rattle.evidence.proofs.writer.put_steps.Given as goal

-- what is put, with the steps that are left, is all
abbrev pub invariant-loop-s : goal.invariant-loop-s
invariant-loop-s g l =
    let steps = map (step_parts g.F.Number.parts) l.steps in
    let T = case_frame g.F.CaseNumber.numbers (content l.case) in
    l.text ++ text_of (step_lines T (take l.s (hypotheses_of l.steps)) (drop l.s steps)) ≡ l.fn.text ++ text_of (step_lines T [] steps)
