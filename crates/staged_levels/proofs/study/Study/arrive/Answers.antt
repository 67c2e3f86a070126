use Rattle.std.proofs.Common.{◌<◌, ◌≤◌, ◌*◌, refl, sym, ap, subst, ◌∙◌, is_some, length, arith}
use Rattle.field_core.proofs.Live.{true_not_false}
use Rattle.staged_levels.specs.StudyView.{study}
use Rattle.staged_levels.proofs.StateFacts.{study_with, with_arrival}
use Rattle.staged_levels.proofs.Values.{known_from, unknown_from, may_arrive, any_room, any_with}
use Rattle.staged_levels.proofs.study.Study.arrive.Goals as goal

pub returns-then-is_some-clause-fault : goal.returns-then-is_some-clause-fault
unfolding study
returns-then-is_some-clause-fault c = λ k T. (
  refl,
  refl,
  record {
    first = omega (arith, c.if-arrival-eq0.false);
    last = subst (λ n. c.args.arrival.stage ≤ n) (sym T.count) (omega (arith, c.if-arrival-self.false));
  },
  known_from c.args.self.now.values.items c.args.arrival.hypothesis c.args.arrival.stage
      (sym (ap is_some c.value_at.ensures) ∙ sym c.is_some.ensures ∙ c.if-is_some.true),
)

pub returns-then-not-is_p_value-clause-fault : goal.returns-then-not-is_p_value-clause-fault
unfolding study
returns-then-not-is_p_value-clause-fault c = λ k T. (
  record {
    first = omega (arith, c.if-arrival-eq0.false);
    last = subst (λ n. c.args.arrival.stage ≤ n) (sym T.count) (omega (arith, c.if-arrival-self.false));
  },
  unknown_from c.args.self.now.values.items c.args.arrival.hypothesis c.args.arrival.stage
      (sym (ap is_some c.value_at.ensures) ∙ sym c.is_some.ensures ∙ c.if-is_some.false),
  λ e. true_not_false (sym e ∙ sym c.is_p_value.ensures ∙ c.if-not-is_p_value.true),
)

pub push_reserved-requires : goal.push_reserved-requires
unfolding study
push_reserved-requires c =
    let t = c.args.self.now in
    let room : length t.values.items < t.count * length t.spends =
    any_room (study t) t.whole c.args.arrival
    (λ k T. may_arrive k (study c.args.self.now) T c.args.arrival c.requires (omega (arith, c.if-arrival-eq0.false))
    (omega (arith, c.if-arrival-self.false)) (sym (ap is_some c.value_at.ensures) ∙ sym c.is_some.ensures ∙ c.if-is_some.false)
    (sym c.is_p_value.ensures ∙ c.if-not-is_p_value.false)) in
    omega (arith, room, t.value_room, t.values.ok.0)

pub invariant_of-self-clause-whole : goal.invariant_of-self-clause-whole
unfolding study
invariant_of-self-clause-whole c = any_with (study c.args.self.now) c.args.self.now.whole c.args.arrival _
    (λ k T. may_arrive k (study c.args.self.now) T c.args.arrival c.requires (omega (arith, c.if-arrival-eq0.false)) (omega (arith, c.if-arrival-self.false))
    (sym (ap is_some c.value_at.ensures) ∙ sym c.is_some.ensures ∙ c.if-is_some.false) (sym c.is_p_value.ensures ∙ c.if-not-is_p_value.false))
    (record { spends = refl; count = refl; alpha = refl; state = refl; values = c.push_reserved.ensures.items; rejected = refl })

pub returns-clause-study : goal.returns-clause-study
unfolding study
returns-clause-study c = λ k T. study_with k (study c.args.self.now) T c.args.arrival _
    (may_arrive k (study c.args.self.now) T c.args.arrival c.requires (omega (arith, c.if-arrival-eq0.false)) (omega (arith, c.if-arrival-self.false))
    (sym (ap is_some c.value_at.ensures) ∙ sym c.is_some.ensures ∙ c.if-is_some.false) (sym c.is_p_value.ensures ∙ c.if-not-is_p_value.false))
    (record { spends = refl; count = refl; alpha = refl; state = refl; values = c.push_reserved.ensures.items; rejected = refl })

pub returns-clause-call : goal.returns-clause-call
unfolding study
returns-clause-call c = λ k T. with_arrival k (study c.args.self.now) T c.args.arrival _
    (may_arrive k (study c.args.self.now) T c.args.arrival c.requires (omega (arith, c.if-arrival-eq0.false)) (omega (arith, c.if-arrival-self.false))
    (sym (ap is_some c.value_at.ensures) ∙ sym c.is_some.ensures ∙ c.if-is_some.false) (sym c.is_p_value.ensures ∙ c.if-not-is_p_value.false))
    (record { spends = refl; count = refl; alpha = refl; state = refl; values = c.push_reserved.ensures.items; rejected = refl })
