use Rattle.std.proofs.Common.{◌∙◌, ◌+◌, ◌<◌, sym, ap, subst, [], ◌∷◌, drop, map, length, arith}
use Rattle.std.specs.List.{range_with_len}
use Rattle.std.proofs.lemmas.List.{map-append, drop_all}
use Rattle.std.proofs.lemmas.List.FromFn.{length-range_with_len}
use Rattle.text_lines.specs.Kinds.{each_after}
use Rattle.case_model.specs.CaseView.{content}
use Rattle.evidence_check.specs.Document.{component_numbers, numbers}
use Rattle.evidence_check.specs.EvidenceView.{hypotheses_of}
use Rattle.evidence_check.specs.NumberReading.{case_frame}
use Rattle.evidence_check.proofs.ReadAnswers.{handed, reads, next_fails, next_reads, none_left}
use Rattle.evidence_check.proofs.ReadAnswers.{component_here}
use Rattle.evidence_check.proofs.document.lists.Goals as goal

pub returns-in_err-numbers-clause-said : goal.returns-in_err-numbers-clause-said
returns-in_err-numbers-clause-said g c =
    let T = (case_frame g.F.CaseNumber.numbers (content c.args.case.now)) in
    let js = hypotheses_of c.args.steps.now in
    let m = length (content c.args.case.now).components in
    handed _ c.from_residual.result c.in_err-numbers.field-0.0 _ c.from_residual.ensures.1
    (next_fails (component_numbers T c.args.quantity js) (map (map g.F.Number.parts) c.loop-c.lists) c.loop-c.c (drop (c.loop-c.c + 1) (range_with_len 0 m)) c.loop-c.lines _
    (c.loop-c.invariant.so_far ∙ ap (λ hs. reads (each_after (component_numbers T c.args.quantity js) (map (map g.F.Number.parts) c.loop-c.lists) hs) c.loop-c.lines)
    (component_here m c.loop-c.c (subst (λ n. c.loop-c.c < n) c.components-c-end.ensures.count c.loop-c-test.true))) c.in_err-numbers.field-0.0 c.in_err-numbers.ensures.said)

pub loop-c-preserved : goal.loop-c-preserved
loop-c-preserved g c =
    let T = (case_frame g.F.CaseNumber.numbers (content c.args.case.now)) in
    let js = hypotheses_of c.args.steps.now in
    let m = length (content c.args.case.now).components in
    record {
      end = c.numbers.ensures.end ∙ c.loop-c.invariant.end;
      so_far = next_reads (component_numbers T c.args.quantity js) (map (map g.F.Number.parts) c.loop-c.lists) c.loop-c.c (drop (c.loop-c.c + 1) (range_with_len 0 m)) c.loop-c.lines _
          (c.loop-c.invariant.so_far ∙ ap (λ hs. reads (each_after (component_numbers T c.args.quantity js) (map (map g.F.Number.parts) c.loop-c.lists) hs) c.loop-c.lines)
          (component_here m c.loop-c.c (subst (λ n. c.loop-c.c < n) c.components-c-end.ensures.count c.loop-c-test.true)))
          (map g.F.Number.parts c.in_ok-numbers.field-0) c.numbers.new.lines c.in_ok-numbers.ensures.said c.numbers.ensures.end
          ∙ ap (λ xs. reads (each_after (component_numbers T c.args.quantity js) xs (drop (c.loop-c.c + 1) (range_with_len 0 m))) c.numbers.new.lines)
          (sym (ap (map (map g.F.Number.parts)) c.in_ok-push.ensures.pushed ∙ map-append (map g.F.Number.parts) c.loop-c.lists (c.in_ok-numbers.field-0 ∷ [])));
    }

pub returns-clause-said : goal.returns-clause-said
returns-clause-said g c =
    let T = (case_frame g.F.CaseNumber.numbers (content c.args.case.now)) in
    let m = length (content c.args.case.now).components in
    none_left (component_numbers T c.args.quantity (hypotheses_of c.args.steps.now)) (map (map g.F.Number.parts) c.loop-c.lists) (drop c.loop-c.c (range_with_len 0 m)) c.loop-c.lines _
    c.loop-c.invariant.so_far (drop_all c.loop-c.c (range_with_len 0 m) (omega (arith, c.loop-c-test.false, c.components-c-end.ensures.count, length-range_with_len 0 m)))
