-- What is known of each study, whatever its case.
use Rattle.std.proofs.Common.{◌≡◌, ◌≤◌, refl, sym, ap, ◌∙◌, subst, ℕ, suc, ◌<◌, ◌-◌, arith, Bool, true, List, []}
use Rattle.std.proofs.Common.{◌∷◌, ◌++◌, length}
use Rattle.std.proofs.lemmas.List.{map_push}
use Rattle.std.proofs.Math.Logic.{∥∥₁_elim, ∥∥₁_prop}
use Rattle.std.proofs.Props.{props}
use Rattle.std.specs.List.{Contains}
use Rattle.field_core.specs.Number.{Number}
use Rattle.field_core.specs.Laws.Lift.{Number-set}
use Rattle.fraction.specs.View.{number_of}
use Rattle.case_model.specs.declared.draft_stages.Arrival.{Arrival}
use Rattle.case_model.specs.Draft.{is_level, is_p_value}
use Rattle.case_model.specs.StagedTest.{MeetsAt}
use Rattle.case_model.specs.StagedCase.{spend_at, has_short_fractions}
use Rattle.case_model.specs.LegalOrder.{IsListed}
use Rattle.case_model.proofs.SpendsRise.{spends_short}
use Rattle.case_model.proofs.ValidContents.{shape}
use Rattle.entangled.specs.CaseRun.{case_size, is_live_in_case}
use Rattle.staged_levels.specs.Studies.{positions_of}
use Rattle.staged_levels.specs.StudyContents.{StudyContent, size_of, IsSomeStudy, MayRejectAt, IsNextStudy}
use Rattle.staged_levels.proofs.Arrivals.{arrivals_may, one_arrival}
use Rattle.staged_levels.proofs.StateFacts.{stage_range, sizes_are, not_rejected_live, few_rejected, next_study}

length_push : (ks : List ℕ) (k : ℕ) → length (ks ++ (k ∷ [])) ≡ suc (length ks)
length_push [] k = refl
length_push (i ∷ ks) k = ap suc (length_push ks k)

true_is_fact : (b : Bool) → IsProp (b ≡ true)
true_is_fact b = hlevel props

pub less_is_fact : (a b : ℕ) → IsProp (a < b)
less_is_fact a b = hlevel props

at_most_is_fact : (a b : ℕ) → IsProp (a ≤ b)
at_most_is_fact a b = hlevel props

same_is_fact : (x y : Number) → IsProp (x ≡ y)
same_is_fact x y = hlevel Number-set

module _ (t : StudyContent) (T : IsSomeStudy t) where
  pub any_level : is_level t.alpha ≡ true
  any_level = ∥∥₁_elim T (true_is_fact _) (λ h. subst (λ a. is_level a ≡ true) h.is_study.alpha (shape h.content h.is_study.study.valid).level)

  pub any_spend : (k : ℕ) → has_short_fractions (spend_at t.spends k) ≡ true
  any_spend k = ∥∥₁_elim T (true_is_fact _)
      (λ h. subst (λ s. has_short_fractions (spend_at s k) ≡ true) h.is_study.spends (spends_short h.content k h.is_study.study.valid))

  pub any_value : (a : Arrival) → Contains t.looks.values a → is_p_value a.p ≡ true
  any_value a k = ∥∥₁_elim T (true_is_fact _) (λ h. (arrivals_may h.content [] t.looks.values h.is_study.study.values a k).1.p)

  -- the p-values of one hypothesis at one stage are the same
  pub any_same : (a b : Arrival) → Contains t.looks.values a → Contains t.looks.values b → a.hypothesis ≡ b.hypothesis → a.stage ≡ b.stage
      → number_of a.p ≡ number_of b.p
  any_same a b k l i s = ∥∥₁_elim T (same_is_fact _ _)
      (λ h. ap (λ x. number_of x.p) (one_arrival h.content [] t.looks.values h.is_study.study.values a b k l i s))

  -- each position has a place in the state
  pub within_state : (k : ℕ) → k < size_of t → k < case_size t.state
  within_state k q = ∥∥₁_elim T (less_is_fact _ _) (λ h. subst (λ n. k < n) (sym (sizes_are h.content t h.is_study)) q)

  -- what meets the test does so at a stage
  pub any_stage : (k : ℕ) (u : Number) (a : Arrival) → MeetsAt (spend_at t.spends) (number_of t.alpha) t.looks.values k u a → 1 ≤ a.stage
  any_stage k u a m = ∥∥₁_elim T (at_most_is_fact _ _) (λ h. (stage_range h.content t h.is_study k u a m).0)

  pub any_live : (k : ℕ) → k < size_of t → ¬ IsListed (positions_of t.looks.rejected) k → is_live_in_case t.state k ≡ true
  any_live k q n = ∥∥₁_elim T (true_is_fact _) (λ h. not_rejected_live h.content t h.is_study k q n)

  pub any_few : (k stage : ℕ) → MayRejectAt t k stage → length (positions_of t.looks.rejected) < size_of t
  any_few k stage m = ∥∥₁_elim T (less_is_fact _ _) (λ h. few_rejected h.content t h.is_study k m.below m.live)

  pub any_next : (k stage : ℕ) (new : StudyContent) → MayRejectAt t k stage → IsNextStudy t k stage new → IsSomeStudy new
  any_next k stage new m n =
      ∥∥₁_elim T ∥∥₁_prop (λ h. ∣ record { content = h.content; is_study = next_study h.content t h.is_study k stage new m n } ∣₁)

-- a rejection leaves fewer
pub next_smaller : (t new : StudyContent) (k stage : ℕ) → IsSomeStudy t → MayRejectAt t k stage → IsNextStudy t k stage new
    → size_of new - length (positions_of new.looks.rejected) < size_of t - length (positions_of t.looks.rejected)
next_smaller t new k stage T m n =
    let few = any_few t T k stage m in
    let e : length (positions_of new.looks.rejected) ≡ suc (length (positions_of t.looks.rejected)) = ap (λ rs. length (positions_of rs)) n.rejected
    ∙ ap length (map_push (λ r. r.hypothesis) t.looks.rejected n.line) ∙ length_push (positions_of t.looks.rejected) n.line.hypothesis in
    let s : size_of new ≡ size_of t = ap length n.spends in
    omega (arith, few, e, s)
