use Rattle.std.proofs.Common.{◌<◌, ◌≤◌, ◌∙◌, ◌++◌, ap, map, length, arith}
use Rattle.std.proofs.lemmas.List.{length-map}
use Rattle.case_model.specs.CaseView.{content}
use Rattle.evidence_check.specs.EvidenceView.{hypotheses_of}
use Rattle.evidence_check.specs.EvidenceLines.{number_lines}
use Rattle.text_lines.specs.Spelling.{text_of}
use Rattle.evidence_check.specs.NumberReading.{case_frame}
use Rattle.evidence.proofs.WriterAnswers.{mapped_item, mapped_within, count_at, lists_next, lists_end}
use Rattle.evidence.proofs.writer.put_lists.Goals as goal

pub put_numbers-requires-clause-count : goal.put_numbers-requires-clause-count
put_numbers-requires-clause-count g c =
    let within : c.loop-c.c < length c.args.lists.now =
    omega (arith, c.loop-c-test.true, c.components-c-end.ensures.count, c.requires.full.lists, length-map c.args.lists.now (map g.F.Number.parts)) in
    ap length c.as_slice.ensures ∙ count_at g.F.Number.parts _ (length c.args.steps.now) c.args.lists.now c.loop-c.c c.index-lists-c.result c.requires.full
    within c.index-lists-c.is

pub loop-c-preserved : goal.loop-c-preserved
loop-c-preserved g c =
    let parts = g.F.Number.parts in
    let n = g.F.CaseNumber.numbers in
    let k = content c.args.case.now in
    let js = hypotheses_of c.args.steps.now in
    let lists = c.args.lists.now in
    let within : c.loop-c.c < length lists =
    omega (arith, c.loop-c-test.true, c.components-c-end.ensures.count, c.requires.full.lists, length-map lists (map parts)) in
    lists_next (case_frame n k) c.args.quantity js (map (map parts) lists) c.loop-c.c (map parts c.index-lists-c.result) _ c.loop-c.text c.put_numbers.new.text
    (mapped_within (map parts) lists c.loop-c.c within)
    (mapped_item (map parts) lists c.loop-c.c c.index-lists-c.result within c.index-lists-c.is) c.loop-c.invariant
    (c.in_ok-put_numbers.ensures ∙ ap (λ xs. c.loop-c.text ++ text_of (number_lines (case_frame n k) c.args.quantity c.loop-c.c js (map parts xs))) c.as_slice.ensures)

pub returns : goal.returns
returns g c =
    let lists = map (map g.F.Number.parts) c.args.lists.now in
    let end : length lists ≤ c.loop-c.c = omega (arith, c.loop-c-test.false, c.components-c-end.ensures.count, c.requires.full.lists) in
    lists_end (case_frame g.F.CaseNumber.numbers (content c.args.case.now)) c.args.quantity
    (hypotheses_of c.args.steps.now) lists c.loop-c.c _ c.loop-c.text end c.loop-c.invariant
