use Rattle.std.proofs.Common.{◌≡◌, ◌++◌, drop, map}
use Rattle.case_model.specs.CaseView.{content}
use Rattle.evidence_check.specs.EvidenceView.{hypotheses_of, keep_parts}
use Rattle.evidence_check.specs.EvidenceLines.{keep_lines}
use Rattle.text_lines.specs.Spelling.{text_of}
use Rattle.evidence_check.specs.NumberReading.{case_frame}
use Rattle.evidence.proofs.writer.put_keeps.Given as goal

-- what is put, with the keeps that are left, is all
abbrev pub invariant-loop-keep : goal.invariant-loop-keep
invariant-loop-keep g l =
    let js = hypotheses_of l.steps in
    let keeps = map (keep_parts g.F.Number.parts) l.keeps in
    let T = case_frame g.F.CaseNumber.numbers (content l.case) in
    l.text ++ text_of (keep_lines T js (drop l.keep-index keeps)) ≡ l.fn.text ++ text_of (keep_lines T js keeps)
