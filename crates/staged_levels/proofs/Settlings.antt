-- A study has one settling at most.
use Rattle.std.proofs.Common.{◌≡◌, sym, ap, ap₂, ◌∙◌, subst, ℕ, ◌≤◌, arith, Bool, List, [], ◌∷◌, ◌++◌}
use Rattle.field_core.specs.declared.ratio.Ratio.{Ratio}
use Rattle.fraction.specs.View.{number_of}
use Rattle.fraction.proofs.SameRatios.{same_number}
use Rattle.case_model.specs.declared.draft_stages.Arrival.{Arrival}
use Rattle.case_model.specs.Content.{Content, entangled}
use Rattle.case_model.specs.IntersectionWeight.{IsIntersectionWeight}
use Rattle.case_model.specs.StagedCase.{IsStagedLegalIn}
use Rattle.case_model.proofs.IntersectionLaws.{intersection_unique}
use Rattle.case_model.proofs.RejectionOrders.{first_unique}
use Rattle.staged_levels.specs.declared.event.Settled.{Settled}
use Rattle.staged_levels.specs.Studies.{StudyState, remaining, IsFirstStage, IsRejectionFrom, IsSettled}
use Rattle.staged_levels.specs.StudyCalls.{IsRejection, AreFirstRejections, Settles}

-- the least stage of an equal hypothesis at an equal weight
stage_below : (c : Content) (values : List Arrival) (j k : ℕ) (u v : Ratio) (s t : ℕ) → j ≡ k → number_of u ≡ number_of v
    → IsFirstStage c values j (number_of u) s → IsFirstStage c values k (number_of v) t → s ≤ t
stage_below c values j k u v s t e f h g =
    let moved : IsFirstStage c values j (number_of u) t =
    subst (λ i. IsFirstStage c values i (number_of u) t) (sym e) (subst (λ x. IsFirstStage c values k x t) (sym f) g) in
    subst (λ n. s ≤ n) moved.stage (h.least moved.arrival moved.meets)

module _ (c : Content) where
  -- a hypothesis is rejected with one stage and one weight
  pub line_unique : (values : List Arrival) (I : ℕ → Bool) (r s : Settled) → r.hypothesis ≡ s.hypothesis → IsRejectionFrom c values I r
      → IsRejectionFrom c values I s → r ≡ s
  line_unique values I r s e h k =
      let moved : IsIntersectionWeight (entangled c) I r.hypothesis (number_of s.weight) =
      subst (λ j. IsIntersectionWeight (entangled c) I j (number_of s.weight)) (sym e) k.weight in
      let weights : number_of r.weight ≡ number_of s.weight = intersection_unique (entangled c) I r.hypothesis _ _ h.weight moved in
      let down = stage_below c values r.hypothesis s.hypothesis r.weight s.weight r.stage s.stage e weights h.stage k.stage in
      let up = stage_below c values s.hypothesis r.hypothesis s.weight r.weight s.stage r.stage (sym e) (sym weights) k.stage h.stage in
      let stages : r.stage ≡ s.stage = omega (arith, down, up) in
      ap₂ (λ j w. record { hypothesis = j; stage = r.stage; weight = w }) e (same_number r.weight s.weight weights)
      ∙ ap (λ t. record { hypothesis = s.hypothesis; stage = t; weight = s.weight }) stages

  pub rejection_unique : (old s t : StudyState) (k : ℕ) → IsRejection c old k s → IsRejection c old k t → s ≡ t
  rejection_unique old s t k h g =
      let lines : h.line ≡ g.line = line_unique old.values (remaining old) h.line g.line (h.hypothesis ∙ sym g.hypothesis) h.line_is g.line_is in
      ap₂ (λ vs rs. record { values = vs; rejected = rs }) (h.values ∙ sym g.values)
      (h.rejected ∙ ap (λ r. old.rejected ++ (r ∷ [])) lines ∙ sym g.rejected)

  pub settled_unique : (old s t : StudyState) (js ks : List ℕ) → AreFirstRejections c old js s → IsSettled c s → AreFirstRejections c old ks t
      → IsSettled c t → s ≡ t
  settled_unique old s t [] [] h p g q = h ∙ sym g
  settled_unique old s t [] (k ∷ ks) h p g q = absurd (subst (IsSettled c) h p k g.0.allowed)
  settled_unique old s t (j ∷ js) [] h p g q = absurd (subst (IsSettled c) g q j h.0.allowed)
  settled_unique old s t (j ∷ js) (k ∷ ks) h p g q =
      let same : k ≡ j = first_unique (IsStagedLegalIn c old.values) (remaining old) k j g.0 h.0 in
      let mids : g.1.0 ≡ h.1.0 = rejection_unique old g.1.0 h.1.0 j (subst (λ i. IsRejection c old i g.1.0) same g.1.1) h.1.1 in
      settled_unique h.1.0 s t js ks h.1.2 p (subst (λ m. AreFirstRejections c m ks t) mids g.1.2) q

  pub settling_unique : (old s t : StudyState) → Settles c old s → Settles c old t → s ≡ t
  settling_unique old s t h g = settled_unique old s t h.hypotheses g.hypotheses h.rejections h.settled g.rejections g.settled
