use Rattle.std.proofs.Common.{◌≡◌, ◌≤◌, ◌*◌, sym, ap, ap₂, subst, subst₂, ◌∙◌, length, vec_capacity}
use Rattle.case_model.specs.CaseView.{content}
use Rattle.case_model.specs.StagedCase.{spends_in, stages_in}
use Rattle.staged_levels.specs.StudyView.{study}
use Rattle.staged_levels.proofs.StateFacts.{opened_study}
use Rattle.staged_levels.proofs.study.Study.open.Goals as goal

pub invariant_of-result-clause-whole : goal.invariant_of-result-clause-whole
unfolding study
invariant_of-result-clause-whole c =
    let k = content c.args.case.now in
    let size : length k.names ≡ length c.in_ok-spends.spends = sym c.stages_of-stages.ensures.spends ∙ ap length (sym c.in_ok-spends.ensures) in
    ∣ record {
      content = k;
      is_study = opened_study k _ c.args.case.now.valid
          (ap₂ (λ vs rs. record { values = vs; rejected = rs }) c.in_ok-values.ensures.items c.in_ok-settled.ensures.items) size
          (ap spends_in c.stages_of-stages.ensures.inputs ∙ sym c.in_ok-spends.ensures)
          (ap stages_in c.stages_of-stages.ensures.inputs ∙ sym c.count-2.ensures) (sym c.alpha.ensures.alpha) c.in_ok-net.ensures.opened;
    } ∣₁

pub invariant_of-result-clause-value_room : goal.invariant_of-result-clause-value_room
invariant_of-result-clause-value_room c =
    let k = content c.args.case.now in
    let size : length k.names ≡ length c.in_ok-spends.spends = sym c.stages_of-stages.ensures.spends ∙ ap length (sym c.in_ok-spends.ensures) in
    subst₂ (λ a b. a * b ≤ vec_capacity c.in_ok-values.values) (c.count.ensures ∙ sym c.count-2.ensures)
    (c.size-size.ensures.count ∙ size) c.in_ok-values.ensures.capacity

pub invariant_of-result-clause-room : goal.invariant_of-result-clause-room
invariant_of-result-clause-room c =
    let k = content c.args.case.now in
    let size : length k.names ≡ length c.in_ok-spends.spends = sym c.stages_of-stages.ensures.spends ∙ ap length (sym c.in_ok-spends.ensures) in
    subst (λ n. n ≤ vec_capacity c.in_ok-settled.settled) (c.size-size.ensures.count ∙ size) c.in_ok-settled.ensures.capacity

pub returns-clause-study : goal.returns-clause-study
unfolding study
returns-clause-study c =
    let k = content c.args.case.now in
    let size : length k.names ≡ length c.in_ok-spends.spends = sym c.stages_of-stages.ensures.spends ∙ ap length (sym c.in_ok-spends.ensures) in
    opened_study k _ c.args.case.now.valid (ap₂ (λ vs rs. record { values = vs; rejected = rs }) c.in_ok-values.ensures.items c.in_ok-settled.ensures.items)
    size (ap spends_in c.stages_of-stages.ensures.inputs ∙ sym c.in_ok-spends.ensures)
    (ap stages_in c.stages_of-stages.ensures.inputs ∙ sym c.count-2.ensures) (sym c.alpha.ensures.alpha) c.in_ok-net.ensures.opened
