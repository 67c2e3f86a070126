use Rattle.std.proofs.Common.{◌≡◌, sym, ap, subst, ◌∙◌, inl, inr, None, Some, arith}
use Rattle.std.specs.List.{list_all}
use Rattle.case_model.specs.Draft.{goes_between, have_known_ends}
use Rattle.case_model.specs.CaseFaults.{early_fault}
use Rattle.case_model.specs.Validity.{IsValidContent}
use Rattle.case_model.proofs.DraftValidity.{valid_of}
use Rattle.case_model.proofs.Faultless.{few_names, early_is, late_is, content_by_parts}
use Rattle.case_model.proofs.draft.Draft.finish.Goals as goal
use Rattle.case_model.proofs.draft.Draft.finish.Goals.{In_default}

none_early : (c : In_default) → early_fault c.args.self ≡ None
none_early c = sym c.early_fault-early.ensures ∙ c.in_default.is

pub returns-in-Some-clause-fault : goal.returns-in-Some-clause-fault
returns-in-Some-clause-fault c = inr (early_is c.args.self c.in-Some.fault (sym c.early_fault-early.ensures ∙ c.in-Some.is))

pub made-requires-clause-few : goal.made-requires-clause-few
made-requires-clause-few c = omega (arith, c.len.ensures, few_names c.args.self (none_early ((goal.at.made-requires-clause-few c).In_default)))

pub made-requires-clause-ends : goal.made-requires-clause-ends
unfolding have_known_ends
made-requires-clause-ends c = ap (λ n. list_all (λ k. list_all (goes_between n) k.edges) c.args.self.components) c.len.ensures ∙ c.requires.ends

pub of-requires-clause-valid : goal.of-requires-clause-valid
of-requires-clause-valid c =
    let d = c.args.self in
    let parts = c.in-Ok.parts in
    let faultless = late_is d c.len.result c.as_slice.result.now None
    (none_early ((goal.at.of-requires-clause-valid c).In_default)) c.len.ensures c.as_slice.ensures c.in-Ok.ensures.faultless in
    subst IsValidContent
    (sym (content_by_parts d c.len.result c.as_slice.result.now parts.components parts.inputs c.len.ensures c.as_slice.ensures
    c.in-Ok.ensures.components c.in-Ok.ensures.inputs)) (valid_of d c.requires.ends c.requires.arrivals faultless)

pub returns-in-Ok-clause-case : goal.returns-in-Ok-clause-case
returns-in-Ok-clause-case c =
    let parts = c.in-Ok.parts in
    c.of.ensures ∙ content_by_parts c.args.self c.len.result c.as_slice.result.now parts.components parts.inputs c.len.ensures c.as_slice.ensures
    c.in-Ok.ensures.components c.in-Ok.ensures.inputs

pub returns-in-Ok-clause-faultless : goal.returns-in-Ok-clause-faultless
returns-in-Ok-clause-faultless c = late_is c.args.self c.len.result c.as_slice.result.now None
    (none_early ((goal.at.returns-in-Ok-clause-faultless c).In_default)) c.len.ensures c.as_slice.ensures c.in-Ok.ensures.faultless

pub returns-clause-fault : goal.returns-clause-fault
returns-clause-fault c = elim c.in-Err.ensures.fault [
  | inl memory ↦ inl memory
  | inr late ↦ inr (late_is c.args.self c.len.result c.as_slice.result.now (Some c.in-Err.fault)
      (none_early ((goal.at.returns-clause-fault c).In_default)) c.len.ensures c.as_slice.ensures late)
]
