use Rattle.std.proofs.Common.{◌≡◌, ◌++◌, drop, map}
use Rattle.case_model.specs.CaseView.{content}
use Rattle.evidence_check.specs.EvidenceView.{hypotheses_of}
use Rattle.evidence_check.specs.EvidenceLines.{number_lines}
use Rattle.text_lines.specs.Spelling.{text_of}
use Rattle.evidence_check.specs.NumberReading.{case_frame}
use Rattle.evidence.proofs.writer.put_numbers.Given as goal

-- what is put, with the numbers that are left, is all
abbrev pub invariant-loop-e : goal.invariant-loop-e
invariant-loop-e g l =
    let js = hypotheses_of l.steps in
    let xs = map g.F.Number.parts l.numbers in
    let T = case_frame g.F.CaseNumber.numbers (content l.case) in
    l.text ++ text_of (number_lines T l.quantity l.c (drop l.e js) (drop l.e xs)) ≡ l.fn.text ++ text_of (number_lines T l.quantity l.c js xs)
