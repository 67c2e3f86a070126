use Rattle.std.proofs.Common.{rules, ◌≡◌, ◌∙◌, sym, ap, Ok, Err}
use Rattle.field_core.specs.Kind.{ok_map}
use Rattle.field_core.specs.declared.place.Place.TheVariants.{Level}
use Rattle.fraction.specs.Plain.{single, fraction_parts}
use Rattle.case_model.specs.CaseView.{content}
use Rattle.evidence_check.specs.CheckSteps.{require}
use Rattle.evidence_check.specs.declared.verdict.Reason.TheVariants.{AboveOne}
use Rattle.evidence_check.proofs.ExitAnswers.{require_met, order_is, allowed_refused, one_refused, above_one, limit_found}
use Rattle.evidence_check.proofs.CaseLimits.{allowed_unit_at}
use Rattle.evidence_check.proofs.exits.limit.Goals as goal

pub returns-in_err-sum : goal.returns-in_err-sum
returns-in_err-sum g c =
    let e : c.from_residual.result ≡ Err c.in_err-sum.field-0.0 = search rules in
    ap (ok_map fraction_parts) e ∙ sym (allowed_refused _ _ _ _ _ c.in_component.ensures _ _ _ (sym c.in_err-sum.ensures))

pub returns-in_err-order : goal.returns-in_err-order
returns-in_err-order g c =
    let e : c.from_residual-in_err-order.result ≡ Err c.in_err-order.field-0.0 = search rules in
    ap (ok_map fraction_parts) e
    ∙ sym (one_refused _ _ _ _ _ c.in_component.ensures _ _ _ (sym c.in_ok-sum.ensures) _
    (order_is g.F.Number.kind (g.F.Number.parts c.in_ok-sum.sum) _ c.args.c
    (Level c.args.k) c.compare.result c.placed.result _ c.compare.ensures c.one.ensures c.placed.ensures c.in_err-order.was))

pub returns-in_err-require : goal.returns-in_err-require
returns-in_err-require g c =
    let e : c.from_residual-in_err-require.result ≡ Err c.in_err-require.field-0.0 = search rules in
    ap (ok_map fraction_parts) e
    ∙ sym (above_one _ _ _ _ _ c.in_component.ensures _ _ _ (sym c.in_ok-sum.ensures) _
    (order_is g.F.Number.kind (g.F.Number.parts c.in_ok-sum.sum) _ c.args.c
    (Level c.args.k) c.compare.result c.placed.result _ c.compare.ensures c.one.ensures c.placed.ensures c.in_ok-order.was)
    _ (sym (ap (λ b. require b (AboveOne c.args.c)) c.is_le.ensures) ∙ sym c.require.ensures ∙ c.in_err-require.was))

pub limit-requires : goal.limit-requires
limit-requires g c =
    allowed_unit_at g.F.Number.kind g.F.Number.IsStored g.met.F.Number.exact g.F.Number.parts g.met.F.Number.stored _
    (content c.args.case.now) c.args.case.now.valid c.requires.loaded _ c.requires.order _ _ c.requires.c c.requires.k _ _ c.in_component.ensures
    c.requires.exits _ _ (sym c.in_ok-sum.ensures)
    (order_is g.F.Number.kind (g.F.Number.parts c.in_ok-sum.sum) _ c.args.c
    (Level c.args.k) c.compare.result c.placed.result _ c.compare.ensures c.one.ensures c.placed.ensures c.in_ok-order.was)
    (sym c.is_le.ensures ∙ require_met _ _ _ (sym c.require.ensures ∙ c.in_ok-require.was))

pub returns : goal.returns
returns g c =
    ap (λ t. Ok (single t)) (c.of.ensures ∙ c.limit.ensures)
    ∙ sym (limit_found _ _ _ _ _ c.in_component.ensures _ _ _ (sym c.in_ok-sum.ensures) _
    (order_is g.F.Number.kind (g.F.Number.parts c.in_ok-sum.sum) _ c.args.c
    (Level c.args.k) c.compare.result c.placed.result _ c.compare.ensures c.one.ensures c.placed.ensures c.in_ok-order.was)
    _ (sym (ap (λ b. require b (AboveOne c.args.c)) c.is_le.ensures) ∙ sym c.require.ensures ∙ c.in_ok-require.was))
