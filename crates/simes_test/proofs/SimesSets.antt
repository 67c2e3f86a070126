-- Simes' test of all sets, set by set in their order.
use Rattle.std.proofs.Common.{◌≡◌, ◌≢◌, ◌⊎◌, inl, inr, sym, ap, ◌∙◌, subst, ℕ, ◌^◌, ◌<◌, Bool, List, [], length}
use Rattle.field_core.specs.declared.ratio.Ratio.{Ratio}
use Rattle.field_core.specs.declared.place.WideAt.{WideAt}
use Rattle.field_core.specs.Sets.{whole}
use Rattle.field_core.specs.Runs.{left_after}
use Rattle.field_core.specs.NumberedSets.{members}
use Rattle.field_core.specs.OrderOfSets.{left_out, ComesBefore, IsAscending, IsListStep, IsLastList}
use Rattle.field_core.proofs.Members.{number_below}
use Rattle.field_core.proofs.SetOrders.{out_ascending}
use Rattle.fraction.specs.View.{number_of}
use Rattle.case_model.specs.declared.inputs.Inputs.TheVariants.{Single}
use Rattle.case_model.specs.Sums.{number_at}
use Rattle.case_model.specs.Content.{Content, entangled}
use Rattle.case_model.specs.SetAnswers.{AnswersFor, AreClosedFrom}
use Rattle.closed_test.specs.Paths.{number_without}
use Rattle.closed_test.specs.SetWeights.{AreIntersectionWeights}
use Rattle.closed_test.proofs.SetSteps.{differs}
use Rattle.closed_test.proofs.SetLists.{number_out}
use Rattle.closed_test.proofs.SetTables.{left_out_is}
use Rattle.closed_test.proofs.SetAnswers.{of_single, for_single, closed_by}
use Rattle.simes_test.specs.SimesTest.{IsSimesRejected, IsSimesClosed}
use Rattle.simes_test.specs.SimesSums.{AreSumsDefined, IsWideMember, IsFirstWideSum}
use Rattle.simes_test.specs.SimesAnswers.{AreSimesAnswers, AreSimesClosedAnswers, AreAllSumsDefined}
use Rattle.simes_test.specs.Tested.{IsTested, AreTestedBefore}
use Rattle.simes_test.proofs.SimesWeights.{simes_same, simes_some, tested_answer}

module _ (m : ℕ) (ps : List Ratio) (weight : ℕ → ℕ → Ratio) (alpha : Ratio) where
  -- ---- a step

  pub tested_first : (table : ℕ → Bool) (left : List ℕ) → left ≡ [] → AreTestedBefore m ps weight alpha table left
  tested_first table left e xs a b = absurd (subst (ComesBefore xs) e b)

  module _ (old : List ℕ) (a : IsAscending m 0 old) (set : ℕ) (number : set ≡ number_without m old) (table : ℕ → Bool)
      (h : AreTestedBefore m ps weight alpha table old) where
    module _ (answer : Bool) (t : IsTested m ps weight alpha set answer) (next : ℕ → Bool) (put : next set ≡ answer)
        (others : (n : ℕ) → n ≢ set → next n ≡ table n) where
      tested_to : (xs : List ℕ) → IsAscending m 0 xs → ComesBefore xs old ⊎ (xs ≡ old)
          → IsTested m ps weight alpha (number_without m xs) (next (number_without m xs))
      tested_to xs b (inl earlier) =
          let other = differs m xs old b a earlier in
          subst (IsTested m ps weight alpha (number_without m xs)) (sym (others (number_without m xs) (λ e. other (e ∙ number)))) (h xs b earlier)
      tested_to xs b (inr same) =
          subst (λ n. IsTested m ps weight alpha n (next n)) (number ∙ ap (number_without m) (sym same)) (subst (IsTested m ps weight alpha set) (sym put) t)

      pub tested_next : (new : List ℕ) (l : ℕ) → IsListStep m old new l → AreTestedBefore m ps weight alpha next new
      tested_next new l step xs b before = tested_to xs b (step.next.least xs b before)

      pub all_tested : IsLastList m old → (n : ℕ) → n < 2 ^ m → IsTested m ps weight alpha n (next n)
      all_tested last n q =
          let out = out_ascending m (members n) in
          subst (λ k. IsTested m ps weight alpha k (next k)) (number_out m n q) (tested_to (left_out m (members n)) out (last (left_out m (members n)) out))

    pub first_wide : (w : WideAt) → IsWideMember m ps weight set w → IsFirstWideSum m ps weight set w
    first_wide w wide = record {
      below = subst (λ k. k < 2 ^ m) (sym number) (number_below m (left_after whole old));
      wide = wide;
      before = λ o q b.
          let t = h (left_out m (members o)) (out_ascending m (members o)) (subst (ComesBefore (left_out m (members o))) (left_out_is m set old number a) b) in
          subst (AreSumsDefined m ps weight) (number_out m o q) t.defined;
    }

-- ---- the answers for a case

module _ (c : Content) (ps : List Ratio) (inputs : c.inputs ≡ Single ps) (weight : ℕ → ℕ → Ratio) where
  module _ (table : ℕ → Bool) (all : (n : ℕ) → n < 2 ^ length c.names → IsTested (length c.names) ps weight c.alpha n (table n)) where
    pub answers_are : AreIntersectionWeights c weight → AreSimesAnswers c table
    answers_are W = of_single (λ qs. AnswersFor (length c.names) (IsSimesRejected (entangled c) (number_at qs) (number_of c.alpha)) table) c.inputs ps inputs
        (λ n b. tested_answer c ps weight W n b (table n) (all n b))

    pub all_defined : AreAllSumsDefined c weight
    all_defined = of_single (λ qs. (n : ℕ) → n < 2 ^ length c.names → AreSumsDefined (length c.names) qs weight n) c.inputs ps inputs
        (λ n b. (all n b).defined)

closed_for : (c : Content) (local closed : ℕ → Bool) → AreClosedFrom (length c.names) local closed 0 → (ps : List Ratio)
    → AnswersFor (length c.names) (IsSimesRejected (entangled c) (number_at ps) (number_of c.alpha)) local
    → AnswersFor (length c.names) (IsSimesClosed (entangled c) (number_at ps) (number_of c.alpha)) closed
unfolding entangled
closed_for c local closed h ps =
    let E = entangled c in
    closed_by (length c.names) (IsSimesRejected E (number_at ps) (number_of c.alpha)) (simes_same E (number_at ps) (number_of c.alpha))
    (simes_some E (number_at ps) (number_of c.alpha)) local closed h

pub closed_answers_are : (c : Content) (local closed : ℕ → Bool) → AreClosedFrom (length c.names) local closed 0 → AreSimesAnswers c local
    → AreSimesClosedAnswers c closed
closed_answers_are c local closed h = for_single _ _ (closed_for c local closed h) c.inputs
