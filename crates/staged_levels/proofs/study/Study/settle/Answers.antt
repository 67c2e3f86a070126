use Rattle.std.proofs.Common.{refl, sym, ap, ◌∙◌, subst, subst₂, ℕ, ◌<◌, ◌++◌, [], ◌∷◌, length}
use Rattle.case_model.specs.LegalOrder.{IsFirst}
use Rattle.case_model.specs.StagedCase.{IsStagedLegalIn}
use Rattle.entangled.specs.CaseAfter.{case_after}
use Rattle.entangled.proofs.CaseRuns.{after_next}
use Rattle.staged_levels.specs.Studies.{positions_of, remaining, IsLegalNow}
use Rattle.staged_levels.specs.StudyContents.{MayRejectAt}
use Rattle.staged_levels.specs.StudyView.{study}
use Rattle.staged_levels.proofs.AnyStudy.{next_smaller}
use Rattle.staged_levels.proofs.Calls.{first_next}
use Rattle.staged_levels.proofs.StateFacts.{may_legal, next_study, next_rejection}
use Rattle.staged_levels.proofs.study.Study.settle.Goals as goal

pub loop-k-smaller : goal.loop-k-smaller
unfolding study
loop-k-smaller c =
    let t = study c.loop-k.self in
    next_smaller t (study c.remove.new.self) _ _ c.loop-k.self.whole
    (subst₂ (MayRejectAt t) c.in-Some.k-is c.in-Some.stage-is c.in-Some.ensures.some) c.in-Ok.ensures.next

pub loop-k-preserved : goal.loop-k-preserved
loop-k-preserved c = (
  ap length c.in-Ok.ensures.next.spends ∙ c.loop-k.invariant.0,
  λ k T.
      let t = study c.loop-k.self in
      let before = c.loop-k.invariant.1 k T in
      let m : MayRejectAt t c.in-Some.k c.in-Some.stage = subst₂ (MayRejectAt t) c.in-Some.k-is c.in-Some.stage-is c.in-Some.ensures.some in
      let f : (j : ℕ) → j < c.in-Some.k → ¬ IsLegalNow k t.looks j = subst (λ n. (j : ℕ) → j < n → ¬ IsLegalNow k t.looks j) c.in-Some.k-is
      (c.in-Some.ensures.first k before.0) in (
        next_study k t before.0 c.in-Some.k c.in-Some.stage (study c.remove.new.self) m c.in-Ok.ensures.next,
        (
          before.1.0 ++ (c.in-Some.k ∷ []),
          first_next k _ t.looks (study c.remove.new.self).looks before.1.0 c.in-Some.k before.1.1
              (record { allowed = may_legal k t before.0 c.in-Some.k c.in-Some.stage m; least = f })
              (next_rejection k t before.0 c.in-Some.k c.in-Some.stage (study c.remove.new.self) m c.in-Ok.ensures.next),
        ),
      ),
)

pub returns-in-Err-clause-fault : goal.returns-in-Err-clause-fault
returns-in-Err-clause-fault c = λ k T.
    let t = study c.loop-k.self in
    let before = c.loop-k.invariant.1 k T in
    let m : MayRejectAt t c.in-Some.k c.in-Some.stage = subst₂ (MayRejectAt t) c.in-Some.k-is c.in-Some.stage-is c.in-Some.ensures.some in
    let f : (j : ℕ) → j < c.in-Some.k → ¬ IsLegalNow k t.looks j = subst (λ n. (j : ℕ) → j < n → ¬ IsLegalNow k t.looks j) c.in-Some.k-is
    (c.in-Some.ensures.first k before.0) in
    let same = c.in-Err.ensures.refused in
    record {
      next = c.in-Some.k;
      is_first = subst (λ s. IsFirst (IsStagedLegalIn k s.looks.values) (remaining s.looks) c.in-Some.k) (sym same)
          (record { allowed = may_legal k t before.0 c.in-Some.k c.in-Some.stage m; least = f });
      wide = ap (λ s. case_after k (positions_of s.looks.rejected ++ (c.in-Some.k ∷ []))) same
          ∙ after_next k (positions_of t.looks.rejected) t.state c.in-Some.k before.0.state ∙ c.in-Err.ensures.wide;
    }

pub returns-clause-call : goal.returns-clause-call
returns-clause-call c = λ k T. let before = c.loop-k.invariant.1 k T in
    record { hypotheses = before.1.0; rejections = before.1.1; settled = c.in_default.ensures.none refl k before.0 }
