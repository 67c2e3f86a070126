use Rattle.std.proofs.Common.{◌∙◌, ◌+◌, sym, ap, [], ◌∷◌, drop, map, length, get_or, arith}
use Rattle.std.proofs.lemmas.List.{map-append, drop_all}
use Rattle.text_lines.specs.Forms.{Line}
use Rattle.text_lines.specs.Kinds.{each_after}
use Rattle.case_model.specs.CaseView.{content}
use Rattle.evidence_check.specs.DocumentLines.{number_line}
use Rattle.evidence_check.specs.Document.{numbers}
use Rattle.evidence_check.specs.EvidenceView.{hypotheses_of}
use Rattle.evidence_check.specs.NumberReading.{case_frame}
use Rattle.evidence_check.proofs.Hypotheses.{as_many}
use Rattle.evidence_check.proofs.ReadAnswers.{handed, reads, next_fails, next_reads, none_left}
use Rattle.evidence_check.proofs.ReadAnswers.{known_at}
use Rattle.evidence_check.proofs.ReadAnswers.{here}
use Rattle.evidence_check.proofs.document.numbers.Goals as goal

pub number-requires-clause-known : goal.number-requires-clause-known
number-requires-clause-known g c = known_at (length (content c.args.case.now).names) c.args.steps.now c.loop-e.e c.index-steps-e.result c.loop-e-test.true c.requires.known

pub returns-in_err-number-clause-said : goal.returns-in_err-number-clause-said
returns-in_err-number-clause-said g c =
    let T = (case_frame g.F.CaseNumber.numbers (content c.args.case.now)) in
    let js = hypotheses_of c.args.steps.now in
    handed _ c.from_residual.result c.in_err-number.field-0.0 _ c.from_residual.ensures.1
    (next_fails (λ j. Line (number_line T c.args.quantity c.args.c j)) (map g.F.Number.parts c.loop-e.numbers) (get_or c.args.steps.now c.loop-e.e c.index-steps-e.result).hypothesis (drop (c.loop-e.e + 1) js)
    c.loop-e.lines _ (c.loop-e.invariant.so_far ∙ ap (λ hs. reads (each_after (λ j. Line (number_line T c.args.quantity c.args.c j)) (map g.F.Number.parts c.loop-e.numbers) hs) c.loop-e.lines)
    (here c.args.steps.now c.loop-e.e c.index-steps-e.result c.loop-e-test.true)) c.in_err-number.field-0.0 c.in_err-number.ensures.said)

pub loop-e-preserved : goal.loop-e-preserved
loop-e-preserved g c =
    let T = (case_frame g.F.CaseNumber.numbers (content c.args.case.now)) in
    let js = hypotheses_of c.args.steps.now in
    record {
      end = c.number.ensures.end ∙ c.loop-e.invariant.end;
      so_far = next_reads (λ j. Line (number_line T c.args.quantity c.args.c j)) (map g.F.Number.parts c.loop-e.numbers) (get_or c.args.steps.now c.loop-e.e c.index-steps-e.result).hypothesis (drop (c.loop-e.e + 1) js)
          c.loop-e.lines _ (c.loop-e.invariant.so_far ∙ ap (λ hs. reads (each_after (λ j. Line (number_line T c.args.quantity c.args.c j)) (map g.F.Number.parts c.loop-e.numbers) hs) c.loop-e.lines)
          (here c.args.steps.now c.loop-e.e c.index-steps-e.result c.loop-e-test.true)) (g.F.Number.parts c.in_ok-number.field-0) c.number.new.lines
          c.in_ok-number.ensures.said c.number.ensures.end
          ∙ ap (λ xs. reads (each_after (λ j. Line (number_line T c.args.quantity c.args.c j)) xs (drop (c.loop-e.e + 1) js)) c.number.new.lines)
          (sym (ap (map g.F.Number.parts) c.in_ok-push.ensures.pushed ∙ map-append g.F.Number.parts c.loop-e.numbers (c.in_ok-number.field-0 ∷ [])));
    }

pub returns-clause-said : goal.returns-clause-said
returns-clause-said g c =
    let T = (case_frame g.F.CaseNumber.numbers (content c.args.case.now)) in
    none_left (λ j. Line (number_line T c.args.quantity c.args.c j)) (map g.F.Number.parts c.loop-e.numbers) (drop c.loop-e.e (hypotheses_of c.args.steps.now)) c.loop-e.lines _
    c.loop-e.invariant.so_far (drop_all c.loop-e.e (hypotheses_of c.args.steps.now) (omega (arith, c.loop-e-test.false, as_many c.args.steps.now)))
