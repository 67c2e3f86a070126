use Rattle.std.proofs.Common.{rules, ◌≡◌, ◌∙◌, ◌+◌, sym, ap, length, Err, arith}
use Rattle.evidence_check.specs.CheckSteps.{numbered}
use Rattle.evidence_check.proofs.StepsAnswers.{keeps_start, keep_known, keeps_stop, keeps_next, keeps_end}
use Rattle.evidence_check.proofs.checker.keeps.Goals as goal

pub loop-x-init : goal.loop-x-init
loop-x-init g c = keeps_start g.F.Number.parts g.F.Number.kind _ _ _ _ c.args.keeps.now

pub keep-requires-clause-below : goal.keep-requires-clause-below
keep-requires-clause-below g c = keep_known g.F.Number.parts g.F.Number.kind _ _ _ _ c.args.keeps.now c.loop-x.x _ c.loop-x-test.true c.index-keeps-x.is
    c.loop-x.invariant c.requires.below

pub returns-in_err-numbered : goal.returns-in_err-numbered
returns-in_err-numbered g c =
    let e : c.from_residual.result ≡ Err c.in_err-numbered.field-0.0 = search rules in
    e ∙ sym (keeps_stop g.F.Number.parts g.F.Number.kind _ _ _ _ c.args.keeps.now c.loop-x.x _ c.loop-x-test.true c.index-keeps-x.is c.loop-x.invariant _
    (ap (numbered (length c.args.steps.now + c.loop-x.x + 1)) (sym c.keep.ensures) ∙ sym c.numbered.ensures ∙ c.in_err-numbered.was))

pub loop-x-preserved : goal.loop-x-preserved
loop-x-preserved g c =
    keeps_next g.F.Number.parts g.F.Number.kind _ _ _ _ c.args.keeps.now c.loop-x.x _ c.loop-x-test.true c.index-keeps-x.is c.loop-x.invariant _
    (ap (numbered (length c.args.steps.now + c.loop-x.x + 1)) (sym c.keep.ensures) ∙ sym c.numbered.ensures ∙ c.in_ok-numbered.was)

pub returns : goal.returns
returns g c = sym (keeps_end g.F.Number.parts g.F.Number.kind _ _ _ _ c.args.keeps.now c.loop-x.x
    (omega (arith, c.loop-x.auto.x-end, c.loop-x-test.false)) c.loop-x.invariant)
