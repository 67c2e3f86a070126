use Rattle.std.proofs.Common.{◌<◌, ◌≤◌, ◌∙◌, ◌++◌, ◌∷◌, sym, ap, subst, map, length, zero-add, arith}
use Rattle.std.proofs.lemmas.List.{length-map}
use Rattle.case_model.specs.CaseView.{content}
use Rattle.evidence_check.specs.declared.quantity.Quantity.TheVariants.{Flow}
use Rattle.evidence_check.specs.EvidenceParts.{AreFull}
use Rattle.evidence_check.specs.EvidenceView.{hypotheses_of, step_parts}
use Rattle.evidence_check.specs.DocumentLines.{step_words}
use Rattle.evidence_check.specs.EvidenceLines.{list_lines}
use Rattle.evidence_check.proofs.ReadAnswers.{known_at}
use Rattle.evidence_check.proofs.StepsAnswers.{take_count}
use Rattle.evidence_check.proofs.Hypotheses.{same_hypotheses}
use Rattle.text_lines.specs.Spelling.{text_of}
use Rattle.evidence_check.specs.NumberReading.{case_frame}
use Rattle.evidence.proofs.WriterAnswers.{mapped_item, mapped_within, hypotheses_before, known_before, flows_at, steps_next, steps_end}
use Rattle.evidence.proofs.writer.put_steps.Goals as goal

pub put_step-requires-clause-known : goal.put_step-requires-clause-known
put_step-requires-clause-known g c = known_before (length (content c.args.case.now).names) c.args.steps.now c.loop-s.s c.requires.known

pub put_step-requires-clause-below : goal.put_step-requires-clause-below
put_step-requires-clause-below g c = subst (λ s. s.hypothesis < length (content c.args.case.now).names) (sym c.index-steps-s.is)
    (known_at (length (content c.args.case.now).names) c.args.steps.now c.loop-s.s c.index-steps-s.result c.loop-s-test.true c.requires.known)

pub put_step-requires-clause-full : goal.put_step-requires-clause-full
put_step-requires-clause-full g c =
    let parts = g.F.Number.parts in
    let steps = c.args.steps.now in
    let s = c.index-steps-s.result in
    subst (λ n. AreFull (length (content c.args.case.now).components) n (map (map parts) s.flows)) (sym (take_count steps c.loop-s.s c.loop-s-test.true))
    (flows_at (length (content c.args.case.now).components) 0 c.loop-s.s (map (step_parts parts) steps) c.loop-s.s (step_parts parts s)
    (zero-add c.loop-s.s) c.requires.fit (mapped_within (step_parts parts) steps c.loop-s.s c.loop-s-test.true)
    (mapped_item (step_parts parts) steps c.loop-s.s s c.loop-s-test.true c.index-steps-s.is))

pub loop-s-preserved : goal.loop-s-preserved
loop-s-preserved g c =
    let parts = g.F.Number.parts in
    let n = g.F.CaseNumber.numbers in
    let k = content c.args.case.now in
    let steps = c.args.steps.now in
    let s = c.index-steps-s.result in
    steps_next (case_frame n k) (map (step_parts parts) steps) (hypotheses_of steps) c.loop-s.s (step_parts parts s) _ c.loop-s.text c.put_step.new.text
    (same_hypotheses parts steps)
    (mapped_within (step_parts parts) steps c.loop-s.s c.loop-s-test.true)
    (mapped_item (step_parts parts) steps c.loop-s.s s c.loop-s-test.true c.index-steps-s.is) c.loop-s.invariant
    (c.in_ok-put_step.ensures ∙ ap (λ js. c.loop-s.text ++ text_of (step_words (case_frame n k) s.hypothesis ∷ list_lines (case_frame n k) Flow 0 js (map (map parts) s.flows)))
    (hypotheses_before steps c.loop-s.s))

pub returns : goal.returns
returns g c =
    let steps = map (step_parts g.F.Number.parts) c.args.steps.now in
    let end : length steps ≤ c.loop-s.s = omega (arith, c.loop-s-test.false, length-map c.args.steps.now (step_parts g.F.Number.parts)) in
    steps_end (case_frame g.F.CaseNumber.numbers (content c.args.case.now)) steps (hypotheses_of c.args.steps.now) c.loop-s.s _ c.loop-s.text end c.loop-s.invariant
