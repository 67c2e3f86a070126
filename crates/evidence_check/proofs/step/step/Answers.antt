use Rattle.std.proofs.Common.{rules, ◌≡◌, ◌∙◌, sym, ap, not, Err}
use Rattle.case_model.specs.CaseView.{content}
use Rattle.case_model.proofs.NoFaults.{not_true}
use Rattle.evidence_check.specs.CheckSteps.{require}
use Rattle.evidence_check.specs.declared.verdict.Reason.TheVariants.{Repeated, NoLevel, AboveLevel}
use Rattle.evidence_check.proofs.CaseLimits.{case_all, flows_met}
use Rattle.evidence_check.proofs.ExitAnswers.{require_met}
use Rattle.evidence_check.proofs.StepAnswers.{listed_is, repeated, flows_refused, level_refused, no_level, step_done}
use Rattle.evidence_check.proofs.step.step.Goals as goal

pub returns-in_err-require : goal.returns-in_err-require
returns-in_err-require g c =
    let e : c.from_residual.result ≡ Err c.in_err-require.field-0.0 = search rules in
    e ∙ sym (repeated _ _ _ _ _
    (ap (λ b. require (not b) Repeated) (sym (c.is_listed.ensures ∙ listed_is c.args.earlier.now c.args.step.now.hypothesis)) ∙ sym c.require.ensures
    ∙ c.in_err-require.was))

pub returns-in_err-all_below : goal.returns-in_err-all_below
returns-in_err-all_below g c =
    let e : c.from_residual-in_err-all_below.result ≡ Err c.in_err-all_below.field-0.0 = search rules in
    e ∙ sym (flows_refused _ _ _ _ _
    (ap (λ b. require (not b) Repeated) (sym (c.is_listed.ensures ∙ listed_is c.args.earlier.now c.args.step.now.hypothesis)) ∙ sym c.require.ensures
    ∙ c.in_ok-require.was) _
    (case_all g.F.Number.kind g.F.CaseNumber.numbers (content c.args.case.now) _ _ _ c.components.ensures.count
    (c.all_below.ensures _ (λ i r p q. search rules)) ∙ c.in_err-all_below.was))

pub step_level-requires-clause-other : goal.step_level-requires-clause-other
step_level-requires-clause-other g c = not_true _
    (ap not (sym (c.is_listed.ensures ∙ listed_is c.args.earlier.now c.args.step.now.hypothesis))
    ∙ require_met _ _ _ (sym c.require.ensures ∙ c.in_ok-require.was))

pub step_level-requires-clause-flows : goal.step_level-requires-clause-flows
step_level-requires-clause-flows g c =
    flows_met g.F.Number.kind g.F.Number.IsStored g.met.F.Number.exact g.F.Number.parts g.met.F.Number.stored g.F.CaseNumber.numbers
    (content c.args.case.now) c.args.case.now.valid c.requires.loaded _ c.requires.order _ _ c.requires.below _
    (case_all g.F.Number.kind g.F.CaseNumber.numbers (content c.args.case.now) _ _ _ c.components.ensures.count
    (c.all_below.ensures _ (λ i r p q. search rules)) ∙ c.in_ok-all_below.was)

pub returns-in_err-level : goal.returns-in_err-level
returns-in_err-level g c =
    let e : c.from_residual-in_err-level.result ≡ Err c.in_err-level.field-0.0 = search rules in
    e ∙ sym (level_refused _ _ _ _ _
    (ap (λ b. require (not b) Repeated) (sym (c.is_listed.ensures ∙ listed_is c.args.earlier.now c.args.step.now.hypothesis)) ∙ sym c.require.ensures
    ∙ c.in_ok-require.was) _
    (case_all g.F.Number.kind g.F.CaseNumber.numbers (content c.args.case.now) _ _ _ c.components.ensures.count
    (c.all_below.ensures _ (λ i r p q. search rules)) ∙ c.in_ok-all_below.was) _ (sym c.in_err-level.ensures))

pub returns-in_err-require-2 : goal.returns-in_err-require-2
returns-in_err-require-2 g c =
    let e : c.from_residual-in_err-require-2.result ≡ Err c.in_err-require-2.field-0.0 = search rules in
    e ∙ sym (no_level _ _ _ _ _
    (ap (λ b. require (not b) Repeated) (sym (c.is_listed.ensures ∙ listed_is c.args.earlier.now c.args.step.now.hypothesis)) ∙ sym c.require.ensures
    ∙ c.in_ok-require.was) _
    (case_all g.F.Number.kind g.F.CaseNumber.numbers (content c.args.case.now) _ _ _ c.components.ensures.count
    (c.all_below.ensures _ (λ i r p q. search rules)) ∙ c.in_ok-all_below.was) _ (sym c.in_ok-level.ensures)
    _ (ap (λ b. require b NoLevel) (sym c.is_above_zero.ensures) ∙ sym c.require-2.ensures ∙ c.in_err-require-2.was))

pub returns : goal.returns
returns g c =
    c.require-3.ensures ∙ ap (λ b. require b AboveLevel) (c.passes_at.ensures g.F.Number.kind g.F.CaseNumber.numbers)
    ∙ sym (step_done _ _ _ _ _
    (ap (λ b. require (not b) Repeated) (sym (c.is_listed.ensures ∙ listed_is c.args.earlier.now c.args.step.now.hypothesis)) ∙ sym c.require.ensures
    ∙ c.in_ok-require.was) _
    (case_all g.F.Number.kind g.F.CaseNumber.numbers (content c.args.case.now) _ _ _ c.components.ensures.count
    (c.all_below.ensures _ (λ i r p q. search rules)) ∙ c.in_ok-all_below.was) _ (sym c.in_ok-level.ensures)
    _ (ap (λ b. require b NoLevel) (sym c.is_above_zero.ensures) ∙ sym c.require-2.ensures ∙ c.in_ok-require-2.was))
