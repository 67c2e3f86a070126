use Rattle.std.proofs.Common.{◌<◌, ◌≤◌, ◌∙◌, ◌++◌, sym, ap, map, length, arith}
use Rattle.case_model.specs.CaseView.{content}
use Rattle.evidence_check.specs.EvidenceView.{hypotheses_of}
use Rattle.evidence_check.specs.DocumentLines.{number_words}
use Rattle.evidence_check.proofs.Hypotheses.{as_many}
use Rattle.evidence.specs.EvidenceText.{line_text}
use Rattle.evidence_check.specs.NumberReading.{case_frame}
use Rattle.evidence.proofs.WriterAnswers.{mapped_item, mapped_within, numbers_next, numbers_end}
use Rattle.evidence.proofs.writer.put_numbers.Goals as goal

pub loop-e-preserved : goal.loop-e-preserved
loop-e-preserved g c =
    let steps = c.args.steps.now in
    let numbers = c.args.numbers.now in
    let within : c.loop-e.e < length numbers = omega arith in
    numbers_next (case_frame g.F.CaseNumber.numbers (content c.args.case.now)) c.args.quantity c.args.c (hypotheses_of steps)
    (map g.F.Number.parts numbers) c.loop-e.e c.index-steps-e.result.hypothesis
    (g.F.Number.parts c.index-numbers-e.result) _ c.loop-e.text c.put_number.new.text
    (mapped_within (λ s. s.hypothesis) steps c.loop-e.e c.loop-e-test.true) (mapped_within g.F.Number.parts numbers c.loop-e.e within)
    (mapped_item (λ s. s.hypothesis) steps c.loop-e.e c.index-steps-e.result c.loop-e-test.true c.index-steps-e.is)
    (mapped_item g.F.Number.parts numbers c.loop-e.e c.index-numbers-e.result within c.index-numbers-e.is)
    c.loop-e.invariant (c.in_ok-put_number.ensures ∙ ap
    (λ s. c.loop-e.text ++ line_text
    (number_words (case_frame g.F.CaseNumber.numbers (content c.args.case.now)) c.args.quantity c.args.c s.hypothesis (g.F.Number.parts c.index-numbers-e.result))) (sym c.index-steps-e.is))

pub returns : goal.returns
returns g c =
    let js = hypotheses_of c.args.steps.now in
    let end : length js ≤ c.loop-e.e = omega (arith, c.loop-e-test.false, as_many c.args.steps.now) in
    numbers_end (case_frame g.F.CaseNumber.numbers (content c.args.case.now)) c.args.quantity c.args.c js
    (map g.F.Number.parts c.args.numbers.now) c.loop-e.e _ c.loop-e.text end c.loop-e.invariant
