-- The runs of all sets of a case are defined, or one of them is the first that isn't; and where they are, the sets have weights.
use Rattle.std.proofs.Common.{◌≡◌, ◌⊎◌, inl, inr, sym, ap, ◌∙◌, ℕ, ◌^◌, ◌<◌, List}
use Rattle.std.proofs.Common.{length, Ok, Err}
use Rattle.field_core.specs.declared.place.WideAt.{WideAt}
use Rattle.field_core.specs.declared.ratio.Ratio.{Ratio}
use Rattle.field_core.specs.NumberedSets.{members}
use Rattle.field_core.specs.OrderOfSets.{left_out}
use Rattle.field_core.specs.Runs.{left_after}
use Rattle.field_core.specs.Sets.{IsIn, HaveSameMembers, whole}
use Rattle.field_core.proofs.ListOrder.{not_itself}
use Rattle.field_core.proofs.Positions.{below_or_not}
use Rattle.field_core.proofs.SetOrders.{out_leaves, out_order}
use Rattle.fraction.specs.View.{number_of}
use Rattle.answers.proofs.Decided.{stage_decided, stage_ends}
use Rattle.case_model.specs.Content.{Content, entangled}
use Rattle.case_model.specs.IntersectionWeight.{IsIntersectionWeight}
use Rattle.case_model.specs.Sums.{zero_ratio}
use Rattle.case_model.specs.Validity.{IsValidContent}
use Rattle.case_model.proofs.IntersectionLaws.{intersection_same}
use Rattle.entangled.specs.CaseRun.{CaseState, case_level}
use Rattle.entangled.proofs.CaseLevels.{case_levels, case_lowest}
use Rattle.closed_test.specs.Paths.{number_without}
use Rattle.closed_test.specs.SetLists.{AreSetsInOrder}
use Rattle.closed_test.specs.SetRuns.{set_run, IsEarlierSet, AreRunsDefined, IsFirstWideSet}
use Rattle.closed_test.specs.SetWeights.{AreIntersectionWeights}
use Rattle.closed_test.proofs.SetLists.{number_out, before_both, before_or_behind}
use Rattle.answers_exist.proofs.Sorting.{in_order, first_of_all}

-- ---- the order of sets

module _ (m : ℕ) where
  earlier_both : (n o q : ℕ) → IsEarlierSet m n o → IsEarlierSet m o q → IsEarlierSet m n q
  earlier_both n o q = before_both (left_out m (members n)) (left_out m (members o)) (left_out m (members q))

  not_earlier_itself : (n : ℕ) → ¬ IsEarlierSet m n n
  not_earlier_itself n = not_itself (left_out m (members n))

  earlier_or_later : (n o : ℕ) → n < 2 ^ m → o < 2 ^ m → ¬ (n ≡ o) → IsEarlierSet m n o ⊎ IsEarlierSet m o n
  earlier_or_later n o p q other = elim (before_or_behind (left_out m (members n)) (left_out m (members o))) [
    | inl e ↦ absurd (other (sym (number_out m n p) ∙ ap (number_without m) e ∙ number_out m o q))
    | inr b ↦ b
  ]

  -- there is a list of all sets in their order
  pub sets_exist : (sets : List ℕ) × AreSetsInOrder m sets
  sets_exist =
      let S = in_order (IsEarlierSet m) earlier_both (2 ^ m) earlier_or_later in
      (S.list, record { sets_of = S.below; each = S.each; ordered = S.pairs })

  -- something holds for none of the sets, or there is a first one for which it holds
  pub first_set : (P : ℕ → Type 0) → ((n : ℕ) → n < 2 ^ m → P n ⊎ ¬ P n)
      → ((n : ℕ) × (n < 2 ^ m) × P n × ((o : ℕ) → o < 2 ^ m → IsEarlierSet m o n → ¬ P o)) ⊎ ((n : ℕ) → n < 2 ^ m → ¬ P n)
  first_set P decide = elim (first_of_all (IsEarlierSet m) earlier_both (2 ^ m) earlier_or_later not_earlier_itself P decide) [
    | inl f ↦ inl (f.0, f.1.below, f.1.holds, f.1.before)
    | inr none ↦ inr none
  ]

-- ---- the runs of sets

module _ (c : Content) where
  -- the run of a set is undefined at a place
  abbrev IsUndefined : ℕ → Type 0
  IsUndefined n = (w : WideAt) × (set_run c n ≡ Err w)

  undefined_or_not : (n : ℕ) → n < 2 ^ length c.names → IsUndefined n ⊎ ¬ IsUndefined n
  undefined_or_not n b = elim (stage_ends (set_run c n)) [ inl s ↦ inr (λ w. (stage_decided (set_run c n)).not_both s.0 w.0 s.1 w.1) | inr w ↦ inl w ]

  defined : (n : ℕ) → ¬ IsUndefined n → (s : CaseState) × (set_run c n ≡ Ok s)
  defined n none = elim (stage_ends (set_run c n)) [ inl s ↦ s | inr w ↦ absurd (none w) ]

  pub runs_or_wide : AreRunsDefined c ⊎ ((n : ℕ) × (w : WideAt) × IsFirstWideSet c n w)
  runs_or_wide = elim (first_set (length c.names) IsUndefined undefined_or_not) [
    | inr none ↦ inl (λ n b. defined n (none n b))
    | inl f ↦ inr (f.0, f.2.0, record { below = f.1; wide = f.2.1; before = λ o b e. defined o (f.3 o b e) })
  ]

  -- (The case is valid, and the runs of all its sets are defined.)
  module _ (V : IsValidContent c) (D : AreRunsDefined c) where
    -- the weight of `k` in the set of `n`
    level_in : (n : ℕ) → n < 2 ^ length c.names → ℕ → Ratio
    level_in n b k = record {
      num = (case_level (D n b).0 k).num;
      den = (case_level (D n b).0 k).den;
      valid = case_lowest c (left_out (length c.names) (members n)) (D n b).0 k V (out_order (length c.names) (members n)) (D n b).1;
    }

    weight_by : (n : ℕ) → (n < 2 ^ length c.names) ⊎ ¬ (n < 2 ^ length c.names) → ℕ → Ratio
    weight_by n (inl b) k = level_in n b k
    weight_by n (inr o) k = zero_ratio

    weight_in : (n : ℕ) (d : (n < 2 ^ length c.names) ⊎ ¬ (n < 2 ^ length c.names)) (k : ℕ) → n < 2 ^ length c.names
        → IsIn (length c.names) (members n) k → IsIntersectionWeight (entangled c) (members n) k (number_of (weight_by n d k))
    unfolding weight_by level_in entangled
    weight_in n (inl b) k h q =
        let m = length c.names in
        let js = left_out m (members n) in
        let leaves : HaveSameMembers m (left_after whole js) (members n) = out_leaves m (members n) in
        intersection_same (entangled c) (left_after whole js) (members n) k _ leaves
        (case_levels c js (D n b).0 k V (out_order m (members n)) (D n b).1 (record { below = q.below; member = leaves k q.below ∙ q.member }))
    weight_in n (inr o) k h q = absurd (o h)

    pub weights_exist : (weight : ℕ → ℕ → Ratio) × AreIntersectionWeights c weight
    weights_exist = (
      λ n k. weight_by n (below_or_not n (2 ^ length c.names)) k,
      λ n k b q. weight_in n (below_or_not n (2 ^ length c.names)) k b q,
    )
