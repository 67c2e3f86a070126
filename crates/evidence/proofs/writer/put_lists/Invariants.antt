use Rattle.std.proofs.Common.{◌≡◌, ◌++◌, drop, map}
use Rattle.case_model.specs.CaseView.{content}
use Rattle.evidence_check.specs.EvidenceView.{hypotheses_of}
use Rattle.evidence_check.specs.EvidenceLines.{list_lines}
use Rattle.text_lines.specs.Spelling.{text_of}
use Rattle.evidence_check.specs.NumberReading.{case_frame}
use Rattle.evidence.proofs.writer.put_lists.Given as goal

-- what is put, with the components that are left, is all
abbrev pub invariant-loop-c : goal.invariant-loop-c
invariant-loop-c g l =
    let js = hypotheses_of l.steps in
    let lists = map (map g.F.Number.parts) l.lists in
    let T = case_frame g.F.CaseNumber.numbers (content l.case) in
    l.text ++ text_of (list_lines T l.quantity l.c js (drop l.c lists)) ≡ l.fn.text ++ text_of (list_lines T l.quantity 0 js lists)
