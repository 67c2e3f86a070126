use Rattle.std.proofs.Common.{rules, ◌≡◌, ◌∙◌, sym, ap, Err}
use Rattle.evidence_check.specs.CheckSteps.{require, written_at}
use Rattle.evidence_check.specs.declared.verdict.Reason.TheVariants.{ShortExit}
use Rattle.evidence_check.proofs.ExitAnswers.{exit_negative, leaving_refused, exit_order_refused, exit_done}
use Rattle.evidence_check.proofs.exits.exit.Goals as goal

pub returns-in_err-require : goal.returns-in_err-require
returns-in_err-require g c =
    let e : c.from_residual.result ≡ Err c.in_err-require.field-0.0 = search rules in
    e ∙ sym (exit_negative _ _ _ _ _ _ _ _ _ c.number-exit.ensures c.is_nonnegative.ensures _ (sym c.require.ensures ∙ c.in_err-require.was))

pub returns-in_err-sum : goal.returns-in_err-sum
returns-in_err-sum g c =
    let e : c.from_residual-in_err-sum.result ≡ Err c.in_err-sum.field-0.0 = search rules in
    e ∙ sym (leaving_refused _ _ _ _ _ _ _ _ _ c.number-exit.ensures c.is_nonnegative.ensures _ (sym c.require.ensures ∙ c.in_ok-require.was) _
    (sym c.in_err-sum.ensures))

pub returns-in_err-order : goal.returns-in_err-order
returns-in_err-order g c =
    let e : c.from_residual-in_err-order.result ≡ Err c.in_err-order.field-0.0 = search rules in
    e ∙ sym (exit_order_refused _ _ _ _ _ _ _ _ _ c.number-exit.ensures c.is_nonnegative.ensures _ (sym c.require.ensures ∙ c.in_ok-require.was) _
    (sym c.in_ok-sum.ensures) c.hypothesis.result c.hypothesis.ensures.place _
    (sym (ap (written_at _ _) c.compare.ensures) ∙ sym c.placed.ensures ∙ c.in_err-order.was))

pub returns : goal.returns
returns g c =
    c.require-2.ensures ∙ ap (λ b. require b (ShortExit c.args.c c.args.r)) c.is_le.ensures
    ∙ sym (exit_done _ _ _ _ _ _ _ _ _ c.number-exit.ensures c.is_nonnegative.ensures _ (sym c.require.ensures ∙ c.in_ok-require.was) _
    (sym c.in_ok-sum.ensures) c.hypothesis.result c.hypothesis.ensures.place _
    (sym (ap (written_at _ _) c.compare.ensures) ∙ sym c.placed.ensures ∙ c.in_ok-order.was))
