-- An adjusted value decides each level, and is the only one.
use Rattle.std.proofs.Common.{◌≡◌, sym, ◌∙◌, subst, inl, inr, ℕ, Bool, true, ◌↔◌}
use Rattle.field_core.specs.Number.{Number}
use Rattle.field_core.specs.Arithmetic.{number_one}
use Rattle.field_core.specs.Order.{◌≤ε◌}
use Rattle.field_core.specs.LimitParts.{IsUnit}
use Rattle.field_core.specs.Laws.AtMostLaws.{at_most_refl, at_most_antisymm, zero_at_most_one}
use Rattle.field_core.proofs.Live.{true_or_false, true_not_false}
use Rattle.field_core.specs.declared.ratio.Ratio.{Ratio}
use Rattle.fraction.specs.View.{number_of}
use Rattle.fraction.proofs.SameRatios.{same_number}
use Rattle.case_model.specs.EntangledGraph.{EntangledGraph}
use Rattle.case_model.specs.ClosedTest.{IsRejected}
use Rattle.case_model.proofs.ClosedTestLaws.{rejected_at}
use Rattle.case_model.specs.AdjustedValues.{IsAdjusted}
use Rattle.case_model.specs.AdjustedStatements.{Decides, IsInRange}

pub one_unit : IsUnit number_one
one_unit = record { low = zero_at_most_one; high = at_most_refl number_one }

module _ (E : EntangledGraph) (p : ℕ → Number) (j : ℕ) where
  in_range : (x : Ratio) (r : Bool) → IsAdjusted E p j x r → IsInRange x r
  in_range x r A = record {
    unit = elim (true_or_false r) [ inl t ↦ (A.least t).unit | inr f ↦ subst IsUnit (sym (A.never f).1) one_unit ];
    one = λ f. (A.never f).1;
  }

  decides : (x : Ratio) (r : Bool) → IsAdjusted E p j x r → Decides E p j x r
  decides x r A level u = (rejects, λ h. rejected_at E p (number_of x) level h.1 j (A.least h.0).rejected)
    where
      rejects : IsRejected E p level j → (r ≡ true) × (number_of x ≤ε level)
      rejects q = elim (true_or_false r) [
        | inl t ↦ (t, (A.least t).least level u q)
        | inr f ↦ absurd ((A.never f).0 level u q)
      ]

  by_decisions : (x : Ratio) (r : Bool) → IsInRange x r → Decides E p j x r → IsAdjusted E p j x r
  by_decisions x r R D = record {
    least = λ t. record { unit = R.unit; rejected = (D (number_of x) R.unit).1 (t, at_most_refl (number_of x)); least = λ level u q. ((D level u).0 q).1 };
    never = λ f. (λ level u q. true_not_false (sym ((D level u).0 q).0 ∙ f), R.one f);
  }

  pub adjusted_is : (x : Ratio) (r : Bool) → IsAdjusted E p j x r ↔ (IsInRange x r × Decides E p j x r)
  adjusted_is x r = (λ A. (in_range x r A, decides x r A), λ h. by_decisions x r h.0 h.1)

  pub adjusted_unique : (x y : Ratio) (r s : Bool) → IsAdjusted E p j x r → IsAdjusted E p j y s → (x ≡ y) × (r ≡ s)
  adjusted_unique x y r s A B = elim (true_or_false r) [
    | inl t ↦ elim (true_or_false s) [
      | inl u ↦ (
        same_number x y
            (at_most_antisymm _ _ ((A.least t).least _ (B.least u).unit (B.least u).rejected) ((B.least u).least _ (A.least t).unit (A.least t).rejected)),
        t
            ∙ sym u,
      )
      | inr g ↦ absurd ((B.never g).0 _ (A.least t).unit (A.least t).rejected)
    ]
    | inr f ↦ elim (true_or_false s) [
      | inl u ↦ absurd ((A.never f).0 _ (B.least u).unit (B.least u).rejected)
      | inr g ↦ (same_number x y ((A.never f).1 ∙ sym (B.never g).1), f ∙ sym g)
    ]
  ]
