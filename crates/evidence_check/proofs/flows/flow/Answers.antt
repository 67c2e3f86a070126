use Rattle.std.proofs.Common.{rules, ◌≡◌, ◌∙◌, sym, ap, Err}
use Rattle.evidence_check.specs.CheckSteps.{require, written_at}
use Rattle.evidence_check.specs.declared.verdict.Reason.TheVariants.{Exceeds}
use Rattle.evidence_check.proofs.FlowAnswers.{order_refused, flow_done}
use Rattle.evidence_check.proofs.flows.flow.Goals as goal

pub returns-in_err-order : goal.returns-in_err-order
returns-in_err-order g c =
    let e : c.from_residual-in_err-order.result ≡ Err c.in_err-order.field-0.0 = search rules in
    e ∙ sym (order_refused _ _ _ _ _ _ _ c.hypothesis-at.result _ c.number-flow.ensures c.hypothesis-at.ensures.place c.is_nonnegative.ensures _
    (sym c.require.ensures ∙ c.in_ok-require.was) _ (sym c.in_ok-sum.ensures) _
    (sym (ap (written_at _ _) c.compare.ensures) ∙ sym c.placed.ensures ∙ c.in_err-order.was))

pub returns : goal.returns
returns g c =
    c.require-2.ensures ∙ ap (λ b. require b (Exceeds c.args.c c.args.r)) c.is_le.ensures
    ∙ sym (flow_done _ _ _ _ _ _ _ c.hypothesis-at.result _ c.number-flow.ensures c.hypothesis-at.ensures.place c.is_nonnegative.ensures _
    (sym c.require.ensures ∙ c.in_ok-require.was) _ (sym c.in_ok-sum.ensures) _
    (sym (ap (written_at _ _) c.compare.ensures) ∙ sym c.placed.ensures ∙ c.in_ok-order.was))
