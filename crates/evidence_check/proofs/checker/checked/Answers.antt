use Rattle.std.proofs.Common.{rules, ◌≡◌, ◌∙◌, refl, sym, ap, subst, Err, map, length}
use Rattle.std.specs.Prelude.{◌<◌, IfOk, All}
use Rattle.field_core.specs.Sets.{whole}
use Rattle.field_core.specs.Runs.{IsOrder}
use Rattle.field_core.specs.Kind.{ok_map}
use Rattle.case_model.specs.CaseView.{content}
use Rattle.evidence_check.specs.EvidenceView.{hypotheses_of, step_parts, keep_parts}
use Rattle.evidence_check.specs.CheckSteps.{numbered}
use Rattle.evidence_check.specs.WrittenCheck.{keeps_check}
use Rattle.evidence_check.specs.CaseCheck.{loaded_case}
use Rattle.evidence_check.proofs.CheckAnswers.{loaded_in, loads_refused, steps_refused, check_done, same_check, same_count}
use Rattle.evidence_check.proofs.checker.checked.Goals as goal

pub returns-in_err-numbered : goal.returns-in_err-numbered
returns-in_err-numbered g c =
    let e : c.from_residual.result ≡ Err c.in_err-numbered.field-0.0 = search rules in
    e ∙ sym (loads_refused _ _ _ _ _ _ (ap (numbered 0) (sym c.load.ensures) ∙ sym c.numbered.ensures ∙ c.in_err-numbered.was))

pub steps-requires-clause-below : goal.steps-requires-clause-below
steps-requires-clause-below g c =
    subst (λ ss. All (λ s. s.hypothesis < length (content c.args.case.now).names) (map (step_parts g.F.Number.parts) ss)) (sym c.as_slice-listed.ensures)
    c.requires.steps

pub steps-requires-clause-loaded : goal.steps-requires-clause-loaded
steps-requires-clause-loaded g c =
    loaded_in g.F.Number.kind g.F.Number.IsStored g.F.CaseNumber.numbers
    (content c.args.case.now) c.args.case.now.valid c.requires.runs g.met.F.CaseNumber.kind_is g.met.F.EvidenceNumber.stored_is _
    (ap (numbered 0) (sym c.load.ensures) ∙ sym c.numbered.ensures ∙ c.in_ok-numbered.was)

pub returns-in_err-steps : goal.returns-in_err-steps
returns-in_err-steps g c =
    let e : c.from_residual-in_err-steps.result ≡ Err c.in_err-steps.field-0.0 = search rules in
    e ∙ sym (sym (same_check g.F.Number.parts _ _ _ _ c.as_slice-listed.ensures c.as_slice-kept.ensures g.F.Number.kind g.F.CaseNumber.numbers
    (content c.args.case.now))
    ∙ steps_refused _ _ _ _ _ _ (ap (numbered 0) (sym c.load.ensures) ∙ sym c.numbered.ensures ∙ c.in_ok-numbered.was) _
    (sym c.steps.ensures.checked ∙ ap (ok_map (λ u. hypotheses_of c.as_slice-listed.result.now)) c.in_err-steps.was))

pub keeps-requires-clause-below : goal.keeps-requires-clause-below
keeps-requires-clause-below g c =
    subst (λ xs. All (λ x. x.hypothesis < length (content c.args.case.now).names) (map (keep_parts g.F.Number.parts) xs)) (sym c.as_slice-kept.ensures)
    c.requires.keeps

pub keeps-requires-clause-order : goal.keeps-requires-clause-order
keeps-requires-clause-order g c =
    subst (λ r. IfOk r (λ u. IsOrder (length (content c.args.case.now).names) whole (hypotheses_of c.as_slice-listed.result.now))) c.in_ok-steps.was
    c.steps.ensures.order

pub keeps-requires-clause-loaded : goal.keeps-requires-clause-loaded
keeps-requires-clause-loaded g c =
    loaded_in g.F.Number.kind g.F.Number.IsStored g.F.CaseNumber.numbers
    (content c.args.case.now) c.args.case.now.valid c.requires.runs g.met.F.CaseNumber.kind_is g.met.F.EvidenceNumber.stored_is _
    (ap (numbered 0) (sym c.load.ensures) ∙ sym c.numbered.ensures ∙ c.in_ok-numbered.was)

pub returns : goal.returns
returns g c =
    c.keeps.ensures
    ∙ ap (λ n. keeps_check g.F.Number.kind (loaded_case g.F.Number.kind g.F.CaseNumber.numbers (content c.args.case.now))
    (hypotheses_of c.as_slice-listed.result.now) n (map (keep_parts g.F.Number.parts) c.as_slice-kept.result.now))
    (sym (same_count g.F.Number.parts c.as_slice-listed.result.now c.as_slice-listed.result.now c.as_slice-kept.result.now c.as_slice-kept.result.now refl
    refl))
    ∙ sym (check_done _ _ _ _ _ _ (ap (numbered 0) (sym c.load.ensures) ∙ sym c.numbered.ensures ∙ c.in_ok-numbered.was) _
    (sym c.steps.ensures.checked ∙ ap (ok_map (λ u. hypotheses_of c.as_slice-listed.result.now)) c.in_ok-steps.was))
    ∙ same_check g.F.Number.parts _ _ _ _ c.as_slice-listed.ensures c.as_slice-kept.ensures g.F.Number.kind g.F.CaseNumber.numbers
    (content c.args.case.now)
