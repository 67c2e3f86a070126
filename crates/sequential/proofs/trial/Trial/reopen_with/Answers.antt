use Rattle.std.proofs.Common.{sym, ap, subst, ◌∙◌, Ok, length, arith}
use Rattle.case_model.specs.declared.inputs.Inputs.TheVariants.{Single}
use Rattle.case_model.specs.CaseView.{content}
use Rattle.entangled.specs.CaseNetView.{case_state}
use Rattle.sequential.specs.OtherPValues.{with_p}
use Rattle.sequential.specs.Trials.{AreThresholds}
use Rattle.sequential.specs.TrialView.{trial}
use Rattle.sequential.proofs.OtherPValues.{valid_with_p, opening_with, like_opening, as_many}
use Rattle.sequential.proofs.TrialFacts.{opened_trial}
use Rattle.sequential.proofs.trial.Trial.reopen_with.Goals as goal

pub set_to-requires-clause-numbers : goal.set_to-requires-clause-numbers
unfolding trial
set_to-requires-clause-numbers c =
    (like_opening (content c.args.case.now) (trial c.args.self) c.requires.graph (case_state c.args.opened.now) c.requires.opened c.args.case.now.valid).numbers

pub set_to-requires-clause-size : goal.set_to-requires-clause-size
unfolding trial
set_to-requires-clause-size c =
    (like_opening (content c.args.case.now) (trial c.args.self) c.requires.graph (case_state c.args.opened.now) c.requires.opened c.args.case.now.valid).size

pub set_to-requires-clause-shares : goal.set_to-requires-clause-shares
unfolding trial
set_to-requires-clause-shares c =
    (like_opening (content c.args.case.now) (trial c.args.self) c.requires.graph (case_state c.args.opened.now) c.requires.opened c.args.case.now.valid).shares

pub copy_from_slice-requires : goal.copy_from_slice-requires
unfolding trial
copy_from_slice-requires c =
    let n = as_many (content c.args.case.now) (trial c.args.self) c.requires.graph (case_state c.args.opened.now) c.requires.opened c.args.case.now.valid in
    c.into_vec-own.result.ok.0 ∙ ap length c.into_vec-own.ensures ∙ n ∙ sym c.requires.p_values.count

pub write_thresholds-requires-clause-room : goal.write_thresholds-requires-clause-room
unfolding trial
write_thresholds-requires-clause-room c =
    let n = as_many (content c.args.case.now) (trial c.args.self) c.requires.graph (case_state c.args.opened.now) c.requires.opened c.args.case.now.valid in
    c.args.self.passing.count ∙ n ∙ sym c.requires.p_values.count

pub invariant_of-result-clause-whole : goal.invariant_of-result-clause-whole
invariant_of-result-clause-whole c =
    let k = content c.args.case.now in
    let ps = c.args.p_values.now in
    ∣ record {
      content = with_p k ps;
      is_trial = opened_trial (with_p k ps) _ (valid_with_p k ps c.args.case.now.valid c.requires.p_values)
          (ap Single (sym (c.of.ensures ∙ c.copy_from_slice.ensures.items))) (sym c.alpha-alpha.ensures.alpha) c.clear.ensures.items
          (opening_with k ps ∙ c.requires.opened ∙ ap Ok (sym c.set_to.ensures.value));
    } ∣₁

pub invariant_of-result-clause-passing : goal.invariant_of-result-clause-passing
invariant_of-result-clause-passing c =
    subst (λ ps. AreThresholds ps c.alpha-alpha.result c.write_thresholds.new.thresholds) (sym (c.of.ensures ∙ c.copy_from_slice.ensures.items))
    c.write_thresholds.ensures

pub invariant_of-result-clause-room : goal.invariant_of-result-clause-room
unfolding trial
invariant_of-result-clause-room c =
    let n = as_many (content c.args.case.now) (trial c.args.self) c.requires.graph (case_state c.args.opened.now) c.requires.opened c.args.case.now.valid in
    let e = ap length (c.of.ensures ∙ c.copy_from_slice.ensures.items) in
    omega (arith, n, e, c.requires.p_values.count, c.args.self.room, c.clear.ensures.capacity)

pub returns-clause-trial : goal.returns-clause-trial
unfolding trial
returns-clause-trial c =
    let k = content c.args.case.now in
    let ps = c.args.p_values.now in
    opened_trial (with_p k ps) _ (valid_with_p k ps c.args.case.now.valid c.requires.p_values)
    (ap Single (sym (c.of.ensures ∙ c.copy_from_slice.ensures.items))) (sym c.alpha-alpha.ensures.alpha) c.clear.ensures.items
    (opening_with k ps ∙ c.requires.opened ∙ ap Ok (sym c.set_to.ensures.value))
