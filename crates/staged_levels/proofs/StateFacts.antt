-- What is known of a study by the written state of its case.
use Rattle.std.proofs.Common.{◌≡◌, inl, inr, refl, sym, ap, ◌∙◌, subst, subst₂, ℕ, ◌<◌, ◌≤◌, true, false, [], ◌∷◌, ◌++◌}
use Rattle.std.proofs.Common.{length, Ok}
use Rattle.std.proofs.lemmas.List.{map_push}
use Rattle.field_core.specs.Sets.{IsIn, whole}
use Rattle.field_core.specs.Runs.{IsOrder}
use Rattle.field_core.proofs.Live.{true_not_false}
use Rattle.field_core.proofs.Counting.{one_left}
use Rattle.field_core.specs.Number.{Number}
use Rattle.field_core.specs.View.{terms}
use Rattle.fraction.specs.View.{number_of}
use Rattle.case_model.specs.Sums.{number}
use Rattle.case_model.specs.StagedTest.{MeetsAt, AtStages}
use Rattle.case_model.specs.declared.draft_stages.Arrival.{Arrival}
use Rattle.case_model.specs.IntersectionWeight.{IsIntersectionWeight}
use Rattle.case_model.specs.LegalOrder.{IsListed}
use Rattle.case_model.specs.StagedCase.{spend_at, spend_in, spends_in, stages_in}
use Rattle.case_model.specs.Content.{Content, entangled}
use Rattle.case_model.specs.Validity.{IsValidContent}
use Rattle.case_model.proofs.ValidContents.{valid_content}
use Rattle.case_model.proofs.LegalSteps.{legal_distinct_by}
use Rattle.case_model.proofs.LocalTests.{legal_passes_by, passes_legal_by}
use Rattle.case_model.proofs.RejectionOrders.{not_listed_left, left_not_listed, listed_or_not}
use Rattle.entangled.specs.CaseRun.{case_size, is_live_in_case, case_level, case_opening}
use Rattle.entangled.specs.CaseAfter.{case_after}
use Rattle.entangled.proofs.CaseRuns.{after_next, after_opening}
use Rattle.entangled.proofs.CaseLevels.{case_levels, case_live, case_sizes}
use Rattle.staged_levels.specs.declared.event.Settled.{Settled}
use Rattle.staged_levels.specs.Studies.{start, positions_of, remaining, MayArrive, IsFirstStageBy, IsFirstStage, IsRejectionFrom, IsStudyOf, IsLegalNow}
use Rattle.staged_levels.specs.StudyCalls.{IsArrival, IsRejection}
use Rattle.staged_levels.specs.StudyContents.{StudyContent, size_of, IsStudy, MeetsAtStage, MayRejectAt, IsLine, IsNextStudy, IsStudyWith}
use Rattle.staged_levels.proofs.Arrivals.{arrivals_may}
use Rattle.staged_levels.proofs.StudyFacts.{study_order, arrival_leaves, rejection_leaves}

-- in a study that was just opened, nothing has arrived and nothing is rejected
pub start_study : (c : Content) → IsValidContent c → IsStudyOf c start
start_study c valid = record { valid = valid; values = tt; rejected = tt }

module _ (c : Content) (t : StudyContent) (T : IsStudy c t) where
  -- the rejected ones are distinct
  pub distinct : IsOrder (length c.names) whole (positions_of t.looks.rejected)
  unfolding entangled
  distinct = legal_distinct_by (entangled c) (valid_content c T.study.valid) (AtStages (spend_in c) (number_of c.alpha) t.looks.values)
      (positions_of t.looks.rejected) whole (study_order c t.looks T.study)

  -- the ones that are in are those that remain
  pub live_now : (k : ℕ) → k < length c.names → is_live_in_case t.state k ≡ remaining t.looks k
  live_now k h = case_live c (positions_of t.looks.rejected) t.state k T.study.valid distinct T.state h

  -- the present levels are the weights in what remains
  pub weight_now : (k : ℕ) → IsIn (length c.names) (remaining t.looks) k
      → IsIntersectionWeight (entangled c) (remaining t.looks) k (number (case_level t.state k))
  weight_now k p = case_levels c (positions_of t.looks.rejected) t.state k T.study.valid distinct T.state p

  -- a hypothesis that is in remains
  pub remains_in : (k : ℕ) → k < size_of t → is_live_in_case t.state k ≡ true → IsIn (length c.names) (remaining t.looks) k
  remains_in k h l =
      let below : k < length c.names = subst (λ n. k < n) (sym T.size) h in
      record { below = below; member = sym (live_now k below) ∙ l }

  -- where one is in, not all are rejected
  pub few_rejected : (k : ℕ) → k < size_of t → is_live_in_case t.state k ≡ true → length (positions_of t.looks.rejected) < size_of t
  few_rejected k h l = subst (λ n. length (positions_of t.looks.rejected) < n) T.size
      (one_left (length c.names) (positions_of t.looks.rejected) k distinct (remains_in k h l))

  -- what isn't rejected is in
  pub not_rejected_live : (k : ℕ) → k < size_of t → ¬ IsListed (positions_of t.looks.rejected) k → is_live_in_case t.state k ≡ true
  not_rejected_live k h n = elim (listed_or_not (positions_of t.looks.rejected) k) [
    | inl l ↦ absurd (n l)
    | inr f ↦ live_now k (subst (λ n. k < n) (sym T.size) h) ∙ not_listed_left (positions_of t.looks.rejected) whole k refl f
  ]

  -- and what isn't in is rejected
  pub gone_rejected : (k : ℕ) → k < size_of t → is_live_in_case t.state k ≡ false → IsListed (positions_of t.looks.rejected) k
  gone_rejected k h f = elim (listed_or_not (positions_of t.looks.rejected) k) [
    | inl l ↦ l
    | inr n ↦ absurd (true_not_false
        (sym (not_listed_left (positions_of t.looks.rejected) whole k refl n) ∙ sym (live_now k (subst (λ n. k < n) (sym T.size) h)) ∙ f))
  ]

  pub live_not_rejected : (k : ℕ) → k < size_of t → is_live_in_case t.state k ≡ true → ¬ IsListed (positions_of t.looks.rejected) k
  live_not_rejected k h l r = true_not_false (sym r ∙ left_not_listed (positions_of t.looks.rejected) whole k (remains_in k h l).member)

  -- the state has a place for each hypothesis
  pub sizes_are : case_size t.state ≡ size_of t
  sizes_are = case_sizes c (positions_of t.looks.rejected) t.state T.study.valid distinct T.state ∙ T.size

  -- what isn't in isn't legal
  pub gone_not_legal : (k : ℕ) → k < size_of t → is_live_in_case t.state k ≡ false → ¬ IsLegalNow c t.looks k
  unfolding entangled
  gone_not_legal k h f r = true_not_false (sym r.member.member ∙ sym (live_now k (subst (λ n. k < n) (sym T.size) h)) ∙ f)

  -- only a position below the size is legal
  pub legal_below : (k : ℕ) → IsLegalNow c t.looks k → k < size_of t
  unfolding entangled
  legal_below k r = subst (λ n. k < n) T.size r.member.below

  -- ---- rejections

  -- what may be rejected by the state is legal
  pub may_legal : (k stage : ℕ) → MayRejectAt t k stage → IsLegalNow c t.looks k
  unfolding entangled
  may_legal k stage m =
      let p = remains_in k m.below m.live in
      let meets : MeetsAt (spend_in c) (number_of c.alpha) t.looks.values k (number (case_level t.state k)) m.first.arrival
      = subst₂ (λ s a. MeetsAt (spend_at s) (number_of a) t.looks.values k (number (case_level t.state k)) m.first.arrival) (sym T.spends)
      (sym T.alpha) m.first.meets in
      passes_legal_by (entangled c) (AtStages (spend_in c) (number_of c.alpha) t.looks.values) (remaining t.looks) k (number (case_level t.state k)) p
      (weight_now k p) (record { arrival = m.first.arrival; at = meets })

  -- and its line is that of a rejection
  may_line : (k stage : ℕ) (line : Settled) → MayRejectAt t k stage → IsLine t k stage line → IsRejectionFrom c t.looks.values (remaining t.looks) line
  unfolding entangled
  may_line k stage line m l =
      let p = remains_in k m.below m.live in
      let first : IsFirstStage c t.looks.values k (number (case_level t.state k)) stage =
      subst₂ (λ s a. IsFirstStageBy s a t.looks.values k (number (case_level t.state k)) stage) (sym T.spends) (sym T.alpha) m.first in
      record {
        member = subst (IsIn (length c.names) (remaining t.looks)) (sym l.hypothesis) p;
        weight = subst₂ (λ j w. IsIntersectionWeight (entangled c) (remaining t.looks) j (number w)) (sym l.hypothesis) (sym l.weight) (weight_now k p);
        stage = subst (IsFirstStage c t.looks.values line.hypothesis (number (terms line.weight))) (sym l.stage_is)
            (subst₂ (λ j w. IsFirstStage c t.looks.values j (number w) stage) (sym l.hypothesis) (sym l.weight) first);
      }

  pub next_rejection : (k stage : ℕ) (new : StudyContent) → MayRejectAt t k stage → IsNextStudy t k stage new → IsRejection c t.looks k new.looks
  next_rejection k stage new m n = record {
    legal = may_legal k stage m;
    line = n.line;
    hypothesis = n.is_line.hypothesis;
    line_is = may_line k stage n.line m n.is_line;
    values = n.values;
    rejected = n.rejected;
  }

  -- the study after one more rejection
  pub next_study : (k stage : ℕ) (new : StudyContent) → MayRejectAt t k stage → IsNextStudy t k stage new → IsStudy c new
  next_study k stage new m n = record {
    study = rejection_leaves c t.looks T.study new.looks n.line (may_line k stage n.line m n.is_line) n.values n.rejected;
    size = T.size ∙ ap length (sym n.spends);
    spends = T.spends ∙ sym n.spends;
    count = T.count ∙ sym n.count;
    alpha = T.alpha ∙ sym n.alpha;
    state = ap (case_after c)
        (ap positions_of n.rejected ∙ map_push (λ r. r.hypothesis) t.looks.rejected n.line
        ∙ ap (λ j. positions_of t.looks.rejected ++ (j ∷ [])) n.is_line.hypothesis) ∙ after_next c (positions_of t.looks.rejected) t.state k T.state
        ∙ n.removed;
  }

  -- what meets the test does so at a stage
  pub stage_range : (k : ℕ) (u : Number) (a : Arrival) → MeetsAt (spend_at t.spends) (number_of t.alpha) t.looks.values k u a → (1 ≤ a.stage)
      × (a.stage ≤ t.count)
  stage_range k u a m = let r = (arrivals_may c [] t.looks.values T.study.values a m.arrived).1.stage in (r.first, subst (λ n. a.stage ≤ n) T.count r.last)

  -- where no stage meets the test at the present weight, the hypothesis isn't legal
  pub no_stage : (k : ℕ) → k < size_of t → is_live_in_case t.state k ≡ true
      → ((s : ℕ) → 1 ≤ s → s ≤ t.count → ¬ MeetsAtStage t k s (number (case_level t.state k))) → ¬ IsLegalNow c t.looks k
  unfolding entangled
  no_stage k h l none r =
      let m = legal_passes_by (entangled c) (AtStages (spend_in c) (number_of c.alpha) t.looks.values) (remaining t.looks) k (number (case_level t.state k)) r
      (weight_now k (remains_in k h l)) in
      let q : MeetsAt (spend_at t.spends) (number_of t.alpha) t.looks.values k (number (case_level t.state k)) m.arrival
      = subst₂ (λ s a. MeetsAt (spend_at s) (number_of a) t.looks.values k (number (case_level t.state k)) m.arrival) T.spends T.alpha m.at in
      let range = stage_range k (number (case_level t.state k)) m.arrival q in
      none m.arrival.stage range.0 range.1 (record { arrival = m.arrival; meets = q; stage = refl })

  -- ---- arrivals

  pub study_with : (a : Arrival) (new : StudyContent) → MayArrive c t.looks.values a → IsStudyWith t a new → IsStudy c new
  study_with a new m n = record {
    study = arrival_leaves c t.looks T.study new.looks a m n.values n.rejected;
    size = T.size ∙ ap length (sym n.spends);
    spends = T.spends ∙ sym n.spends;
    count = T.count ∙ sym n.count;
    alpha = T.alpha ∙ sym n.alpha;
    state = ap (λ rs. case_after c (positions_of rs)) n.rejected ∙ T.state ∙ ap Ok (sym n.state);
  }

  pub with_arrival : (a : Arrival) (new : StudyContent) → MayArrive c t.looks.values a → IsStudyWith t a new → IsArrival c t.looks a new.looks
  with_arrival a new m n = record { may = m; values = n.values; rejected = n.rejected }

-- a case that was opened, where nothing has arrived and nothing is rejected
pub opened_study : (c : Content) (t : StudyContent) → IsValidContent c → t.looks ≡ start → length c.names ≡ size_of t
    → spends_in c.inputs ≡ t.spends → stages_in c.inputs ≡ t.count → c.alpha ≡ t.alpha → case_opening c ≡ Ok t.state → IsStudy c t
opened_study c t valid none size spends count alpha open_state = record {
  study = subst (IsStudyOf c) (sym none) (start_study c valid);
  size = size;
  spends = spends;
  count = count;
  alpha = alpha;
  state = ap (λ s. case_after c (positions_of s.rejected)) none ∙ after_opening c t.state open_state;
}
