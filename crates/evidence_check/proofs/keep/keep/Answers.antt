use Rattle.std.proofs.Common.{rules, ◌≡◌, ◌∙◌, sym, ap, not, Err}
use Rattle.case_model.specs.CaseView.{content}
use Rattle.evidence_check.specs.CheckSteps.{require}
use Rattle.evidence_check.specs.declared.verdict.Reason.TheVariants.{Legal}
use Rattle.evidence_check.proofs.CaseLimits.{case_all, exits_met}
use Rattle.evidence_check.proofs.StepAnswers.{exits_refused, kept_refused, keep_done}
use Rattle.evidence_check.proofs.keep.keep.Goals as goal

pub returns-in_err-all_below : goal.returns-in_err-all_below
returns-in_err-all_below g c =
    let e : c.from_residual.result ≡ Err c.in_err-all_below.field-0.0 = search rules in
    e ∙ sym (exits_refused _ _ _ _ _
    (case_all g.F.Number.kind g.F.CaseNumber.numbers (content c.args.case.now) _ _ _ c.components.ensures.count
    (c.all_below.ensures _ (λ i r p q. search rules)) ∙ c.in_err-all_below.was))

pub keep_level-requires-clause-exits : goal.keep_level-requires-clause-exits
keep_level-requires-clause-exits g c =
    exits_met g.F.Number.kind g.F.Number.IsStored g.met.F.Number.exact g.F.Number.parts g.met.F.Number.stored g.F.CaseNumber.numbers
    (content c.args.case.now) c.args.case.now.valid c.requires.loaded _ c.requires.order _ _ c.requires.below _
    (case_all g.F.Number.kind g.F.CaseNumber.numbers (content c.args.case.now) _ _ _ c.components.ensures.count
    (c.all_below.ensures _ (λ i r p q. search rules)) ∙ c.in_ok-all_below.was)

pub returns-in_err-level : goal.returns-in_err-level
returns-in_err-level g c =
    let e : c.from_residual-in_err-level.result ≡ Err c.in_err-level.field-0.0 = search rules in
    e ∙ sym (kept_refused _ _ _ _ _
    (case_all g.F.Number.kind g.F.CaseNumber.numbers (content c.args.case.now) _ _ _ c.components.ensures.count
    (c.all_below.ensures _ (λ i r p q. search rules)) ∙ c.in_ok-all_below.was) _ (sym c.in_err-level.ensures))

pub returns : goal.returns
returns g c =
    c.require.ensures ∙ ap (λ b. require (not b) Legal) (c.passes_at.ensures g.F.Number.kind g.F.CaseNumber.numbers)
    ∙ sym (keep_done _ _ _ _ _
    (case_all g.F.Number.kind g.F.CaseNumber.numbers (content c.args.case.now) _ _ _ c.components.ensures.count
    (c.all_below.ensures _ (λ i r p q. search rules)) ∙ c.in_ok-all_below.was) _ (sym c.in_ok-level.ensures))
