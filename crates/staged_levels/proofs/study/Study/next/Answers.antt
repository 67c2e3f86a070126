use Rattle.std.proofs.Common.{inl, inr, refl, sym, subst, arith}
use Rattle.case_model.proofs.RejectionOrders.{at_or_below}
use Rattle.staged_levels.specs.Studies.{IsLegalNow}
use Rattle.staged_levels.specs.StudyView.{study}
use Rattle.staged_levels.proofs.StateFacts.{legal_below}
use Rattle.staged_levels.proofs.study.Study.next.Goals as goal

pub loop-k-init : goal.loop-k-init
loop-k-init c = λ k T j h. absurd (omega (arith, h))

pub returns-in-Some-clause-first : goal.returns-in-Some-clause-first
returns-in-Some-clause-first c = c.loop-k.invariant

pub loop-k-preserved : goal.loop-k-preserved
loop-k-preserved c = λ k T j h. elim (at_or_below j c.loop-k.k (omega (arith, h))) [
  | inl e ↦ subst (λ i. ¬ IsLegalNow k (study c.args.self.now).looks i) (sym e) (c.in_default.ensures.none refl k T)
  | inr b ↦ c.loop-k.invariant k T j b
]

pub returns-clause-none : goal.returns-clause-none
unfolding study
returns-clause-none c = λ e k T j r. let b = legal_below k (study c.args.self.now) T j r in let end =
    c.loop-k-test.false in c.loop-k.invariant k T j (omega (arith, b, end)) r
