use Rattle.std.proofs.Common.{inl, inr, refl, sym, subst, ◌∙◌, ◌+◌, ◌≤◌, arith}
use Rattle.fraction.specs.View.{number_of}
use Rattle.case_model.specs.Sums.{number}
use Rattle.case_model.specs.declared.draft_stages.Arrival.{Arrival}
use Rattle.case_model.specs.StagedTest.{MeetsAt}
use Rattle.case_model.specs.StagedCase.{spend_at}
use Rattle.case_model.proofs.RejectionOrders.{at_or_below}
use Rattle.field_core.proofs.Live.{true_not_false}
use Rattle.staged_levels.specs.Studies.{IsFirstStageBy}
use Rattle.staged_levels.specs.StudyContents.{MeetsAtStage}
use Rattle.staged_levels.specs.StudyView.{study}
use Rattle.staged_levels.proofs.AnyStudy.{any_stage}
use Rattle.staged_levels.proofs.StateFacts.{no_stage}
use Rattle.staged_levels.proofs.study.Study.first_stage.Goals as goal
use Rattle.std.proofs.lemmas.Bool.{cases_lt}

pub returns-then-meets_at-clause-some : goal.returns-then-meets_at-clause-some
unfolding study
returns-then-meets_at-clause-some c =
    let s = study c.args.self.now in
    let u = number_of c.present_weight-weight.result in
    let m = c.meets_at.ensures.0 c.if-meets_at.true in
    let up : (a : Arrival) → MeetsAt (spend_at s.spends) (number_of s.alpha) s.looks.values c.args.k u a
    → c.loop-t.t + 1 ≤ a.stage = λ a q. elim (cases_lt a.stage (c.loop-t.t + 1)) [
      | inl b ↦ absurd (c.loop-t.invariant a.stage (any_stage s c.args.self.now.whole c.args.k u a q) (omega (arith, b))
          (record { arrival = a; meets = q; stage = refl }))
      | inr n ↦ n
    ] in
    record {
      below = c.requires.below;
      live = c.requires.live;
      first = subst (λ w. IsFirstStageBy s.spends s.alpha s.looks.values c.args.k (number w) (c.loop-t.t + 1)) c.present_weight-weight.ensures
          (record { arrival = m.arrival; meets = m.meets; stage = m.stage; least = up });
    }

pub returns-clause-none : goal.returns-clause-none
unfolding study
returns-clause-none c = λ e k T.
    let s = study c.args.self.now in
    let end = c.loop-t-test.false in
    no_stage k s T c.args.k c.requires.below c.requires.live
    (λ t p q m. c.loop-t.invariant t p (omega (arith, q, end))
    (subst (λ w. MeetsAtStage s c.args.k t (number w)) (sym c.present_weight-weight.ensures) m))

pub loop-t-preserved : goal.loop-t-preserved
loop-t-preserved c = λ s p q m. elim (at_or_below s (c.loop-t.t + 1) (omega (arith, q))) [
  | inl e ↦ absurd (true_not_false
      (sym (c.meets_at.ensures.1 (subst (λ i. MeetsAtStage (study c.args.self.now) c.args.k i (number_of c.present_weight-weight.result)) e m))
      ∙ c.if-meets_at.false))
  | inr b ↦ c.loop-t.invariant s p (omega (arith, b)) m
]
