-- Simes' test rejects at least what the tests by weights reject.
use Rattle.std.proofs.Common.{◌≡◌, inl, inr, refl, sym, ap, ap₂, subst, ℕ, ◌<◌, ◌≤◌, ◌↔◌, arith, Bool, true, false, ◌&&◌, cond}
use Rattle.field_core.specs.Number.{Number}
use Rattle.field_core.specs.Arithmetic.{number_zero}
use Rattle.field_core.specs.Order.{◌≤ε◌}
use Rattle.field_core.specs.NumberField.{number_field}
use Rattle.field_core.specs.Sums.{sum_below}
use Rattle.field_core.specs.Sets.{IsIn}
use Rattle.field_core.specs.Laws.AtMostLaws.{at_most_refl, at_most_equal, at_most_trans}
use Rattle.field_core.specs.Laws.NumberFieldLaws.{field_zero}
use Rattle.field_core.proofs.SumLaws.{term_le}
use Rattle.case_model.specs.EntangledGraph.{EntangledGraph, IsValidEntangled}
use Rattle.case_model.specs.ClosedTest.{IsLocallyRejected, IsClosedRejected}
use Rattle.case_model.specs.DiscoveryBound.{IsUnrejected, IsBound}
use Rattle.case_model.specs.SetAnswers.{SaysYes, AnswersFor}
use Rattle.case_model.proofs.IntersectionLaws.{intersection_weight, intersection_weight_is, intersection_is, intersection_unit}
use Rattle.case_model.proofs.ClosedTestLaws.{passes_up}
use Rattle.case_model.proofs.ClosedTests.{closed_same_by}
use Rattle.case_model.proofs.Bounds.{answered_bound}
use Rattle.simes_test.specs.SimesTest.{is_up_to, IsSimesRejected, IsSimesClosed}
use Rattle.simes_test.proofs.SimesWeights.{up_to_member}

-- a member counts for itself
counts_itself : (p : ℕ → Number) (I : ℕ → Bool) (j : ℕ) → I j ≡ true → is_up_to p I j j ≡ true
unfolding is_up_to
counts_itself p I j h = ap₂ ◌&&◌ h (at_most_refl (p j))

module _ (E : EntangledGraph) (V : IsValidEntangled E) (p : ℕ → Number) (I : ℕ → Bool) (j : ℕ) where
  -- the weight with which a hypothesis counts for `j`
  abbrev counted : ℕ → Number
  counted i = cond (is_up_to p I j i) (intersection_weight E I i) number_zero

  counted_low : (i : ℕ) → i < E.hypotheses → number_zero ≤ε counted i
  counted_low i q = each (is_up_to p I j i) refl
    where
      each : (b : Bool) → is_up_to p I j i ≡ b → number_zero ≤ε cond b (intersection_weight E I i) number_zero
      each true e =
          let k : IsIn E.hypotheses I i = record { below = q; member = up_to_member p I j i e } in
          (intersection_unit E V I i (intersection_weight E I i) k (intersection_weight_is E V I i k)).low
      each false e = at_most_refl number_zero

  -- its own weight is at most the sum
  own_weight : IsIn E.hypotheses I j → intersection_weight E I j ≤ε sum_below number_field E.hypotheses counted
  own_weight q =
      subst (λ x. x ≤ε sum_below number_field E.hypotheses counted)
      (ap (λ b. cond b (intersection_weight E I j) number_zero) (counts_itself p I j q.member))
      (term_le number_field E.hypotheses counted j (λ i r. subst (λ z. z ≤ε counted i) (sym field_zero) (counted_low i r)) q.below)

module _ (E : EntangledGraph) (p : ℕ → Number) (level : Number) (V : IsValidEntangled E) (low : number_zero ≤ε level) where
  pub local_simes : (I : ℕ → Bool) → IsLocallyRejected E p level I → IsSimesRejected E p level I
  local_simes I r =
      let j = r.hypothesis in
      let q = r.legal.member in
      record {
        hypothesis = j;
        member = q;
        sum = sum_below number_field E.hypotheses (counted E V p I j);
        is_sum = record { weight = intersection_weight E I; is_weight = λ i k. intersection_weight_is E V I i k; sum = refl };
        passes = passes_up (p j) r.legal.weight (sum_below number_field E.hypotheses (counted E V p I j)) level low
            (at_most_trans r.legal.weight (intersection_weight E I j) _ (at_most_equal _ _ (intersection_is E V I j r.legal.weight q r.legal.is_weight))
            (own_weight E V p I j q)) r.legal.passes;
      }

  pub closed_simes : (S : ℕ → Bool) → IsClosedRejected E p level S → IsSimesClosed E p level S
  closed_simes S r = record { some = r.some; member = r.member; each = λ I h. local_simes I (r.each I h) }

-- a way of rejection that rejects more has no lower bound
bound_more : (m : ℕ) (P Q : (ℕ → Bool) → Type 0) → ((K : ℕ → Bool) → P K → Q K) → (S : ℕ → Bool) (a b : ℕ) → IsBound m P S a
    → IsBound m Q S b → a ≤ b
bound_more m P Q to S a b A B = let h = A.is_greatest B.greatest B.inside (kept B.unrejected) in omega (arith, h, A.bound, B.bound)
  where
    kept : IsUnrejected m Q B.greatest → IsUnrejected m P B.greatest
    kept (inl none) = inl none
    kept (inr k) = inr (λ r. k (to B.greatest r))

pub simes_bound_above : (E : EntangledGraph) (p : ℕ → Number) (level : Number) (S : ℕ → Bool) (a b : ℕ) → IsValidEntangled E
    → number_zero ≤ε level
    → IsBound E.hypotheses (IsClosedRejected E p level) S a → IsBound E.hypotheses (IsSimesClosed E p level) S b → a ≤ b
simes_bound_above E p level S a b V low = bound_more E.hypotheses (IsClosedRejected E p level) (IsSimesClosed E p level) (closed_simes E p level V low) S a b

pub simes_table_bound : (E : EntangledGraph) (p : ℕ → Number) (level : Number) (table : ℕ → Bool) (S : ℕ → Bool) (b : ℕ)
    → AnswersFor E.hypotheses (IsSimesClosed E p level) table
    → IsBound E.hypotheses (SaysYes E.hypotheses table) S b ↔ IsBound E.hypotheses (IsSimesClosed E p level) S b
simes_table_bound E p level table S b answers = answered_bound E.hypotheses table (IsSimesClosed E p level)
    (closed_same_by E.hypotheses (IsSimesRejected E p level)) answers S b
