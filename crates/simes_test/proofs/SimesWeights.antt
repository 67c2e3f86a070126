-- The sums of Simes' test by value, and its test of a set by what is written.
use Rattle.std.proofs.Common.{◌≡◌, refl, sym, ap, ◌∙◌, subst, ℕ, ◌^◌, ◌<◌, ◌↔◌, Bool, true, false, ◌&&◌, cond, List, length}
use Rattle.std.proofs.Common.{Some}
use Rattle.field_core.specs.Terms.{Terms}
use Rattle.field_core.specs.Number.{Number}
use Rattle.field_core.specs.Arithmetic.{number_zero}
use Rattle.field_core.specs.Order.{at_most}
use Rattle.field_core.specs.NumberField.{number_field}
use Rattle.field_core.specs.Sums.{sum_below}
use Rattle.field_core.specs.Sets.{IsIn, HaveSameMembers}
use Rattle.field_core.specs.NumberedSets.{members}
use Rattle.field_core.specs.declared.ratio.Ratio.{Ratio}
use Rattle.field_core.specs.Laws.NumberFieldLaws.{field_zero}
use Rattle.field_core.proofs.SumLaws.{sum_congr}
use Rattle.fraction.specs.View.{number_of}
use Rattle.case_model.specs.Sums.{number, zero_ratio, number_at}
use Rattle.case_model.specs.Content.{Content, entangled}
use Rattle.case_model.specs.EntangledGraph.{EntangledGraph}
use Rattle.case_model.specs.ClosedTest.{Passes}
use Rattle.case_model.proofs.ExactSums.{has_zero, exact_sum}
use Rattle.case_model.proofs.Holding.{both}
use Rattle.case_model.proofs.IntersectionLaws.{intersection_unique, intersection_same}
use Rattle.closed_test.specs.SetWeights.{AreIntersectionWeights}
use Rattle.simes_test.specs.SimesTest.{is_up_to, IsSimesRejected}
use Rattle.simes_test.specs.SimesSums.{weight_up_to, sum_up_to}
use Rattle.simes_test.specs.Tested.{HasPassing, IsTested}

-- ---- who counts

pub up_to_member : (p : ℕ → Number) (I : ℕ → Bool) (j i : ℕ) → is_up_to p I j i ≡ true → I i ≡ true
unfolding is_up_to
up_to_member p I j i h = (both (I i) (at_most (p i) (p j)) h).left

pub up_to_same : (p : ℕ → Number) (I J : ℕ → Bool) (j i : ℕ) → I i ≡ J i → is_up_to p I j i ≡ is_up_to p J j i
unfolding is_up_to
up_to_same p I J j i e = ap (λ b. b && at_most (p i) (p j)) e

-- ---- members alone decide

module _ (E : EntangledGraph) (p : ℕ → Number) (level : Number) where
  pub simes_same : (I J : ℕ → Bool) → HaveSameMembers E.hypotheses I J → IsSimesRejected E p level I → IsSimesRejected E p level J
  simes_same I J same r = record {
    hypothesis = r.hypothesis;
    member = record { below = r.member.below; member = sym (same r.hypothesis r.member.below) ∙ r.member.member };
    sum = r.sum;
    is_sum = record {
      weight = r.is_sum.weight;
      is_weight = λ i q. intersection_same E I J i (r.is_sum.weight i) same
          (r.is_sum.is_weight i (record { below = q.below; member = same i q.below ∙ q.member }));
      sum = r.is_sum.sum ∙ sum_congr number_field E.hypotheses _ _
          (λ i q. ap (λ b. cond b (r.is_sum.weight i) number_zero) (up_to_same p I J r.hypothesis i (same i q)));
    };
    passes = r.passes;
  }

  pub simes_some : (I : ℕ → Bool) → IsSimesRejected E p level I → (k : ℕ) × IsIn E.hypotheses I k
  simes_some I r = (r.hypothesis, r.member)

-- ---- what is written

pub zero_ratio_is : number_of zero_ratio ≡ number_zero
zero_ratio_is = has_zero.value ∙ field_zero

as_number : (b : Bool) (w : Ratio) → number_of (cond b w zero_ratio) ≡ cond b (number_of w) number_zero
as_number true w = refl
as_number false w = zero_ratio_is

module _ (m : ℕ) (ps : List Ratio) (weight : ℕ → ℕ → Ratio) (n j : ℕ) where
  -- the sum of the weights up to a p-value, by these weights
  abbrev pub value_up_to : (ℕ → Number) → Number
  value_up_to w = sum_below number_field m (λ i. cond (is_up_to (number_at ps) (members n) j i) (w i) number_zero)

  pub written_value : (t : Terms) → sum_up_to m ps weight n j ≡ Some t → number t ≡ value_up_to (λ i. number_of (weight n i))
  unfolding weight_up_to
  written_value t e =
      (exact_sum m (weight_up_to ps weight n j) t e).value
      ∙ sum_congr number_field m _ _ (λ i q. as_number (is_up_to (number_at ps) (members n) j i) (weight n i))

  pub same_value : (u v : ℕ → Number) → ((i : ℕ) → IsIn m (members n) i → u i ≡ v i) → value_up_to u ≡ value_up_to v
  same_value u v h = sum_congr number_field m _ _ (λ i q. each i q (is_up_to (number_at ps) (members n) j i) refl)
    where
      each : (i : ℕ) → i < m → (b : Bool) → is_up_to (number_at ps) (members n) j i ≡ b → cond b (u i) number_zero ≡ cond b (v i) number_zero
      each i q true e = h i (record { below = q; member = up_to_member (number_at ps) (members n) j i e })
      each i q false e = refl

module _ (c : Content) (ps : List Ratio) (weight : ℕ → ℕ → Ratio) (W : AreIntersectionWeights c weight) (n : ℕ) (b : n < 2 ^ length c.names) where
  passing_rejected : HasPassing (length c.names) ps weight c.alpha n → IsSimesRejected (entangled c) (number_at ps) (number_of c.alpha) (members n)
  unfolding entangled
  passing_rejected h = record {
    hypothesis = h.hypothesis;
    member = h.member;
    sum = number h.passes.sum;
    is_sum = record {
      weight = λ i. number_of (weight n i);
      is_weight = λ i q. W n i b q;
      sum = written_value (length c.names) ps weight n h.hypothesis h.passes.sum h.passes.is_sum;
    };
    passes = h.passes.passes;
  }

  module _ (r : IsSimesRejected (entangled c) (number_at ps) (number_of c.alpha) (members n)) (t : Terms)
      (e : sum_up_to (length c.names) ps weight n r.hypothesis ≡ Some t) where
    sum_is : r.sum ≡ number t
    unfolding entangled
    sum_is =
        r.is_sum.sum
        ∙ same_value (length c.names) ps weight n r.hypothesis r.is_sum.weight (λ i. number_of (weight n i))
        (λ i q. intersection_unique (entangled c) (members n) i (r.is_sum.weight i) (number_of (weight n i)) (r.is_sum.is_weight i q) (W n i b q))
        ∙ sym (written_value (length c.names) ps weight n r.hypothesis t e)

    rejected_passing : HasPassing (length c.names) ps weight c.alpha n
    unfolding entangled
    rejected_passing = record {
      hypothesis = r.hypothesis;
      member = r.member;
      passes = record { sum = t; is_sum = e; passes = subst (λ s. Passes (number_at ps r.hypothesis) s (number_of c.alpha)) sum_is r.passes };
    }

  pub tested_answer : (answer : Bool) → IsTested (length c.names) ps weight c.alpha n answer → (answer ≡ true)
      ↔ IsSimesRejected (entangled c) (number_at ps) (number_of c.alpha) (members n)
  unfolding entangled
  tested_answer answer T = (λ a. passing_rejected (T.answer.0 a), back)
    where
      back : IsSimesRejected (entangled c) (number_at ps) (number_of c.alpha) (members n) → answer ≡ true
      back r = let d = T.defined r.hypothesis r.member in T.answer.1 (rejected_passing r d.0 d.1)
