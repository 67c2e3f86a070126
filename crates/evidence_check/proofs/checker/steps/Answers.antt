use Rattle.std.proofs.Common.{rules, ◌≡◌, ◌∙◌, ◌+◌, sym, ap, Err, arith}
use Rattle.field_core.specs.Kind.{ok_map}
use Rattle.evidence_check.specs.EvidenceView.{hypotheses_of}
use Rattle.evidence_check.specs.CheckSteps.{numbered}
use Rattle.evidence_check.proofs.StepsAnswers.{steps_start, step_known, steps_stop, steps_next, steps_end, order_end}
use Rattle.evidence_check.proofs.checker.steps.Goals as goal

pub loop-s-init : goal.loop-s-init
loop-s-init g c = steps_start g.F.Number.parts g.F.Number.kind _ _ c.args.steps.now

pub step-requires-clause-below : goal.step-requires-clause-below
step-requires-clause-below g c = step_known g.F.Number.parts g.F.Number.kind _ _ c.args.steps.now c.loop-s.s _ c.loop-s-test.true c.index-steps-s.is
    c.loop-s.invariant c.requires.below

pub step-requires-clause-order : goal.step-requires-clause-order
step-requires-clause-order g c = c.loop-s.invariant.order

pub returns-in_err-numbered-clause-checked : goal.returns-in_err-numbered-clause-checked
returns-in_err-numbered-clause-checked g c =
    let e : c.from_residual.result ≡ Err c.in_err-numbered.field-0.0 = search rules in
    ap (ok_map (λ u. hypotheses_of c.args.steps.now)) e
    ∙ sym (steps_stop g.F.Number.parts g.F.Number.kind _ _ c.args.steps.now c.loop-s.s _ c.loop-s-test.true c.index-steps-s.is c.loop-s.invariant _
    (ap (numbered (c.loop-s.s + 1)) (sym c.step.ensures) ∙ sym c.numbered.ensures ∙ c.in_err-numbered.was))

pub loop-s-preserved : goal.loop-s-preserved
loop-s-preserved g c =
    let known = step_known g.F.Number.parts g.F.Number.kind _ _ c.args.steps.now c.loop-s.s _ c.loop-s-test.true c.index-steps-s.is c.loop-s.invariant
    c.requires.below in
    steps_next g.F.Number.parts g.F.Number.kind _ _ c.args.steps.now c.loop-s.s _ c.loop-s-test.true c.index-steps-s.is c.loop-s.invariant _ known
    (ap (numbered (c.loop-s.s + 1)) (sym c.step.ensures) ∙ sym c.numbered.ensures ∙ c.in_ok-numbered.was)

pub returns-clause-checked : goal.returns-clause-checked
returns-clause-checked g c =
    sym (steps_end g.F.Number.parts g.F.Number.kind _ _ c.args.steps.now c.loop-s.s
    (omega (arith, c.loop-s.auto.s-end, c.loop-s-test.false)) c.loop-s.invariant)

pub returns-clause-order : goal.returns-clause-order
returns-clause-order g c = order_end g.F.Number.parts g.F.Number.kind _ _ c.args.steps.now c.loop-s.s
    (omega (arith, c.loop-s.auto.s-end, c.loop-s-test.false)) c.loop-s.invariant
