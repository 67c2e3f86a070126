use Rattle.std.proofs.Common.{rules, ◌≡◌, ◌∙◌, sym, ap, Ok, Err}
use Rattle.field_core.specs.Kind.{ok_map}
use Rattle.field_core.specs.LimitParts.{limit_terms}
use Rattle.fraction.specs.Plain.{single, fraction_parts}
use Rattle.case_model.specs.CaseView.{content}
use Rattle.evidence_check.proofs.CaseLimits.{brought_unit_at}
use Rattle.evidence_check.proofs.LimitAnswers.{limit_is}
use Rattle.evidence_check.proofs.step.limit.Goals as goal

pub returns-in_err-sum : goal.returns-in_err-sum
returns-in_err-sum g c =
    let e : c.from_residual.result ≡ Err c.in_err-sum.field-0.0 = search rules in
    ap (ok_map fraction_parts) e ∙ ap (ok_map (λ x. single (limit_terms x))) c.in_err-sum.ensures
    ∙ limit_is _ _ _ _ _ c.in_component-flows.ensures _ _

pub limit-requires : goal.limit-requires
limit-requires g c =
    brought_unit_at g.F.Number.kind g.F.Number.IsStored g.met.F.Number.exact g.F.Number.parts g.met.F.Number.stored _
    (content c.args.case.now) c.args.case.now.valid c.requires.loaded _ c.requires.order _ _ c.requires.c c.requires.k _ _
    c.in_component-flows.ensures
    c.requires.other c.requires.flows _ (sym c.in_ok-sum.ensures)

pub returns : goal.returns
returns g c = ap (λ t. Ok (single t)) (c.of.ensures ∙ c.limit.ensures) ∙ ap (ok_map (λ x. single (limit_terms x))) c.in_ok-sum.ensures
    ∙ limit_is _ _ _ _ _ c.in_component-flows.ensures _ _
