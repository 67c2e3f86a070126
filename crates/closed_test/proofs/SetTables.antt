-- What the walk through all sets leaves, by the numbers of the sets.
use Rattle.std.proofs.Common.{◌≡◌, sym, ap, subst, ◌∙◌, ℕ, ◌^◌, ◌<◌, List, length}
use Rattle.field_core.specs.declared.ratio.Ratio.{Ratio}
use Rattle.field_core.specs.declared.place.WideAt.{WideAt}
use Rattle.field_core.specs.View.{terms}
use Rattle.field_core.specs.Sets.{IsIn, HaveSameMembers, whole}
use Rattle.field_core.specs.Runs.{left_after}
use Rattle.field_core.specs.NumberedSets.{members}
use Rattle.field_core.specs.OrderOfSets.{left_out, ComesBefore, IsAscending}
use Rattle.field_core.proofs.Members.{members_number, number_members, number_same, number_below}
use Rattle.field_core.proofs.SetOrders.{out_ascending, out_leaves, out_order, list_of_set}
use Rattle.fraction.specs.View.{number_of}
use Rattle.case_model.specs.Sums.{number}
use Rattle.case_model.specs.IntersectionWeight.{IsIntersectionWeight}
use Rattle.case_model.specs.Content.{Content, entangled}
use Rattle.case_model.specs.Validity.{IsValidContent}
use Rattle.case_model.proofs.IntersectionLaws.{intersection_same}
use Rattle.entangled.specs.CaseRun.{case_level}
use Rattle.entangled.specs.CaseAfter.{case_after}
use Rattle.entangled.proofs.CaseLevels.{case_levels}
use Rattle.closed_test.specs.Paths.{number_without}
use Rattle.closed_test.specs.SetRuns.{AreRunsDefined, IsFirstWideSet}
use Rattle.closed_test.specs.SetWeights.{AreIntersectionWeights}
use Rattle.closed_test.specs.Walks.{AreAllTabled, IsTabled, IsFirstUndefined}

-- the set of the number of a list leaves out the list
pub left_out_is : (m n : ℕ) (js : List ℕ) → n ≡ number_without m js → IsAscending m 0 js → left_out m (members n) ≡ js
left_out_is m n js e a = list_of_set m js (members n) a (λ i p. sym (ap (λ k. members k i) e ∙ members_number m (left_after whole js) i p))

pub first_wide_set : (c : Content) (js : List ℕ) (n : ℕ) (w : WideAt) → n ≡ number_without (length c.names) js → IsFirstUndefined c js w
    → IsFirstWideSet c n w
first_wide_set c js n w e F =
    let m = length c.names in
    let same = left_out_is m n js e F.ascending in
    record {
      below = subst (λ k. k < 2 ^ m) (sym e) (number_below m (left_after whole js));
      wide = ap (case_after c) same ∙ F.undefined;
      before = λ o p b. F.before (left_out m (members o)) (out_ascending m (members o)) (subst (ComesBefore (left_out m (members o))) same b);
    }

module _ (c : Content) (V : IsValidContent c) (weight : ℕ → ℕ → Ratio) (all : AreAllTabled c weight) where
  pub runs_defined : AreRunsDefined c
  runs_defined n p = let T = all (left_out (length c.names) (members n)) (out_ascending (length c.names) (members n)) in (T.state, T.run)

  module _ (n k : ℕ) (b : n < 2 ^ length c.names) (p : IsIn (length c.names) (members n) k) where
    abbrev js : List ℕ
    js = left_out (length c.names) (members n)

    leaves : HaveSameMembers (length c.names) (left_after whole js) (members n)
    leaves = out_leaves (length c.names) (members n)

    number_is : number_without (length c.names) js ≡ n
    number_is = number_same (length c.names) (left_after whole js) (members n) leaves ∙ number_members (length c.names) n b

    inside : IsIn (length c.names) (left_after whole js) k
    inside = record { below = p.below; member = leaves k p.below ∙ p.member }

    T : IsTabled c weight js
    T = all js (out_ascending (length c.names) (members n))

    value_is : number (terms (weight n k)) ≡ number (case_level T.state k)
    value_is = ap number (ap (λ i. terms (weight i k)) (sym number_is) ∙ T.row k inside)

    weight_is : IsIntersectionWeight (entangled c) (left_after whole js) k (number_of (weight n k))
    weight_is = subst (IsIntersectionWeight (entangled c) (left_after whole js) k) (sym value_is)
        (case_levels c js T.state k V (out_order (length c.names) (members n)) T.run inside)

    pub weight_of_set : IsIntersectionWeight (entangled c) (members n) k (number_of (weight n k))
    unfolding entangled
    weight_of_set = intersection_same (entangled c) (left_after whole js) (members n) k (number_of (weight n k)) leaves weight_is

  pub weights_are : AreIntersectionWeights c weight
  weights_are n k b p = weight_of_set n k b p
