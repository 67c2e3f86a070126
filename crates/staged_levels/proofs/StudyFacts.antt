-- What is known of a study of a case.
use Rattle.std.proofs.Common.{◌≡◌, sym, ap, ◌∙◌, subst, subst₂, ℕ, Bool, List, [], ◌∷◌, ◌++◌, ◌↔◌}
use Rattle.std.proofs.lemmas.List.{append_assoc, append-nil}
use Rattle.std.proofs.lemmas.List.Elements.{Contains-append_left}
use Rattle.std.specs.List.{Contains}
use Rattle.field_core.specs.Sets.{dropping, whole}
use Rattle.field_core.specs.Runs.{left_after}
use Rattle.field_core.specs.Arithmetic.{number_zero}
use Rattle.field_core.specs.Order.{◌≤ε◌}
use Rattle.field_core.specs.Laws.NumberFieldLaws.{field_zero}
use Rattle.fraction.specs.View.{number_of}
use Rattle.case_model.specs.declared.draft_stages.Arrival.{Arrival}
use Rattle.case_model.specs.EntangledGraph.{IsValidEntangled}
use Rattle.case_model.specs.ClosedTest.{IsMonotone}
use Rattle.case_model.specs.LegalOrder.{IsListed, IsOrderBy}
use Rattle.case_model.specs.StagedCase.{spend_in, IsStagedLegalIn, IsStagedRejectedIn}
use Rattle.case_model.specs.StagedTest.{AtStages}
use Rattle.case_model.specs.Content.{Content, entangled}
use Rattle.case_model.proofs.Thresholds.{good_level}
use Rattle.case_model.proofs.ValidContents.{shape, valid_content}
use Rattle.case_model.proofs.LocalTests.{legal_rejected_by, rejected_listed_by}
use Rattle.case_model.proofs.SpendsRise.{spends_rise}
use Rattle.case_model.proofs.StagedTests.{staged_monotone, staged_more}
use Rattle.staged_levels.specs.declared.event.Settled.{Settled}
use Rattle.staged_levels.specs.Studies.{StudyState, positions_of, remaining, MayArrive, IsRejectionFrom, IsEarlierRejection, AreRejections, AreArrivals}
use Rattle.staged_levels.specs.Studies.{IsStudyOf, IsSettled}
use Rattle.staged_levels.specs.StudyStatements.{HaveSameValues}
use Rattle.staged_levels.proofs.Arrivals.{arrivals_next}

module _ (c : Content) where
  -- ---- legal hypotheses

  -- what is legal stays legal as values arrive
  pub legal_more : (old new : List Arrival) → ((a : Arrival) → Contains old a → Contains new a) → (I : ℕ → Bool) (k : ℕ)
      → IsStagedLegalIn c old I k → IsStagedLegalIn c new I k
  legal_more old new more I k h =
      record {
        member = h.member;
        weight = h.weight;
        is_weight = h.is_weight;
        passes = staged_more (spend_in c) (number_of c.alpha) old new more k h.weight h.passes;
      }

  pub rejection_legal : (values : List Arrival) (I : ℕ → Bool) (r : Settled) → IsRejectionFrom c values I r → IsStagedLegalIn c values I r.hypothesis
  rejection_legal values I r h =
      record { member = h.member; weight = number_of r.weight; is_weight = h.weight; passes = record { arrival = h.stage.arrival; at = h.stage.meets } }

  earlier_legal : (values : List Arrival) (I : ℕ → Bool) (r : Settled) → IsEarlierRejection c values I r → IsStagedLegalIn c values I r.hypothesis
  earlier_legal values I r h =
      legal_more h.before values (λ a k. subst (λ vs. Contains vs a) (sym h.values_are) (Contains-append_left h.before h.later a k)) I r.hypothesis
      (rejection_legal h.before I r h.rejection)

  -- ---- rejections

  earlier_more : (values more : List Arrival) (I : ℕ → Bool) (r : Settled) → IsEarlierRejection c values I r → IsEarlierRejection c (values ++ more) I r
  earlier_more values more I r h =
      record {
        before = h.before;
        later = h.later ++ more;
        values_are = ap (λ vs. vs ++ more) h.values_are
            ∙ append_assoc h.before h.later more;
        rejection = h.rejection;
      }

  pub rejections_more : (values more : List Arrival) (I : ℕ → Bool) (rs : List Settled) → AreRejections c values I rs
      → AreRejections c (values ++ more) I rs
  rejections_more values more I [] h = tt
  rejections_more values more I (r ∷ rs) h = (earlier_more values more I r h.0, rejections_more values more (dropping r.hypothesis I) rs h.1)

  now : (values : List Arrival) (I : ℕ → Bool) (r : Settled) → IsRejectionFrom c values I r → IsEarlierRejection c values I r
  now values I r h = record { before = values; later = []; values_are = sym (append-nil values); rejection = h }

  pub rejections_next : (values : List Arrival) (I : ℕ → Bool) (rs : List Settled) (r : Settled) → AreRejections c values I rs
      → IsRejectionFrom c values (left_after I (positions_of rs)) r → AreRejections c values I (rs ++ (r ∷ []))
  rejections_next values I [] r h k = (now values I r k, tt)
  rejections_next values I (q ∷ qs) r h k = (h.0, rejections_next values (dropping q.hypothesis I) qs r h.1 k)

  -- rejections that came at their moments are a legal order on all values
  pub rejections_order : (values : List Arrival) (I : ℕ → Bool) (rs : List Settled) → AreRejections c values I rs
      → IsOrderBy (IsStagedLegalIn c values) I (positions_of rs)
  rejections_order values I [] h = tt
  rejections_order values I (r ∷ rs) h = (earlier_legal values I r h.0, rejections_order values (dropping r.hypothesis I) rs h.1)

-- ---- studies

module _ (c : Content) (s : StudyState) (S : IsStudyOf c s) where
  graph_valid : IsValidEntangled (entangled c)
  graph_valid = valid_content c S.valid

  level_low : number_zero ≤ε number_of c.alpha
  level_low = subst (λ z. z ≤ε number_of c.alpha) field_zero (good_level c.alpha (shape c S.valid).level).nonneg

  -- what passes continues passing as the weight grows
  pub stages_monotone : (values : List Arrival) → IsMonotone (AtStages (spend_in c) (number_of c.alpha) values)
  stages_monotone = staged_monotone (spend_in c) (number_of c.alpha) (λ k t. spends_rise c k t S.valid) level_low

  pub study_order : IsOrderBy (IsStagedLegalIn c s.values) whole (positions_of s.rejected)
  study_order = rejections_order c s.values whole s.rejected S.rejected

  -- the staged closed test rejects what is rejected
  pub study_sound : (j : ℕ) → IsListed (positions_of s.rejected) j → IsStagedRejectedIn c s.values j
  study_sound = legal_rejected_by (entangled c) (AtStages (spend_in c) (number_of c.alpha) s.values) graph_valid (stages_monotone s.values)
      (positions_of s.rejected) study_order

  -- and nothing else, once nothing is legal
  pub study_complete : IsSettled c s → (j : ℕ) → IsStagedRejectedIn c s.values j → IsListed (positions_of s.rejected) j
  study_complete = rejected_listed_by (entangled c) (AtStages (spend_in c) (number_of c.alpha) s.values) (positions_of s.rejected)

  pub study_decides : IsSettled c s → (j : ℕ) → IsListed (positions_of s.rejected) j ↔ IsStagedRejectedIn c s.values j
  study_decides settled j = (study_sound j, study_complete settled j)

  pub arrival_leaves : (new : StudyState) (a : Arrival) → MayArrive c s.values a → new.values ≡ s.values ++ (a ∷ []) → new.rejected ≡ s.rejected
      → IsStudyOf c new
  arrival_leaves new a m v r = record {
    valid = S.valid;
    values = subst (AreArrivals c []) (sym v) (arrivals_next c [] s.values a S.values m);
    rejected = subst₂ (λ vs rs. AreRejections c vs whole rs) (sym v) (sym r) (rejections_more c s.values (a ∷ []) whole s.rejected S.rejected);
  }

  pub rejection_leaves : (new : StudyState) (r : Settled) → IsRejectionFrom c s.values (remaining s) r → new.values ≡ s.values
      → new.rejected ≡ s.rejected ++ (r ∷ []) → IsStudyOf c new
  rejection_leaves new r h v e = record {
    valid = S.valid;
    values = subst (AreArrivals c []) (sym v) S.values;
    rejected = subst₂ (λ vs rs. AreRejections c vs whole rs) (sym v) (sym e) (rejections_next c s.values whole s.rejected r S.rejected h);
  }

-- ---- the same values

-- the staged closed test doesn't look at the order of the values
rejected_more : (c : Content) (s t : StudyState) → ((a : Arrival) → Contains s.values a → Contains t.values a) → (j : ℕ)
    → IsStagedRejectedIn c s.values j → IsStagedRejectedIn c t.values j
rejected_more c s t more j r = record {
  some = r.some;
  member = r.member;
  each = λ I sub. let l = r.each I sub in record { hypothesis = l.hypothesis; legal = legal_more c s.values t.values more I l.hypothesis l.legal };
}

pub studies_agree : (c : Content) (s t : StudyState) → IsStudyOf c s → IsStudyOf c t → IsSettled c s → IsSettled c t → HaveSameValues s t
    → (j : ℕ) → IsListed (positions_of s.rejected) j ↔ IsListed (positions_of t.rejected) j
studies_agree c s t S T p q same j = (
  λ l. study_complete c t T q j (rejected_more c s t (λ a. (same a).0) j (study_sound c s S j l)),
  λ l. study_complete c s S p j (rejected_more c t s (λ a. (same a).1) j (study_sound c t T j l)),
)
