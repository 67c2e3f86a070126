-- The staged test continues passing as the weight grows and as values arrive; and there is just one settling.
use Rattle.std.proofs.Common.{◌≡◌, ◌⊎◌, inl, inr, refl, sym, ap, ◌∙◌, subst, ℕ, zero, suc, arith, Bool, List, [], ◌∷◌}
use Rattle.std.specs.List.{Contains}
use Rattle.field_core.specs.Number.{Number}
use Rattle.field_core.specs.Arithmetic.{number_zero}
use Rattle.field_core.specs.Order.{◌≤ε◌}
use Rattle.field_core.specs.Laws.AtMostLaws.{at_most_trans, at_most_or_above, at_most-compare, positive-at_least, positive_or_not, positive-not_at_most}
use Rattle.fraction.specs.View.{number_of}
use Rattle.case_model.specs.declared.draft_stages.Arrival.{Arrival}
use Rattle.case_model.specs.declared.spend.Spend.{Spend}
use Rattle.case_model.specs.EntangledGraph.{EntangledGraph, IsValidEntangled}
use Rattle.case_model.specs.Spends.{spend_level, IsRisingSpend}
use Rattle.case_model.specs.StagedTest.{Meets, AtStages, IsStagedLegal, IsSettling}
use Rattle.case_model.specs.ClosedTest.{IsMonotone}
use Rattle.case_model.specs.LegalOrder.{IsFirst}
use Rattle.field_core.proofs.RemovalLaws.{same_or_not}
use Rattle.case_model.proofs.RejectionOrders.{run_unique, first_unique}
use Rattle.case_model.proofs.OrderExistence.{first_order_exists_by}
use Rattle.case_model.proofs.SpendLevels.{spend_level_up}

-- ---- one stage

pub meets_up : (s : Spend) (alpha : Number) (t : ℕ) (u v p : Number) → IsRisingSpend s t → number_zero ≤ε alpha → u ≤ε v → Meets s alpha t u p
    → Meets s alpha t v p
meets_up s alpha t u v p r n h m =
    let up = spend_level_up s alpha t u v r n h in
    record { positive = positive-at_least u v m.positive h; spent = positive-at_least _ _ m.spent up; small = at_most_trans p _ _ m.small up }

pub meets_or_not : (s : Spend) (alpha : Number) (t : ℕ) (u p : Number) → Meets s alpha t u p ⊎ ¬ Meets s alpha t u p
meets_or_not s alpha t u p = elim (positive_or_not u) [
  | inr n ↦ inr (λ m. positive-not_at_most u m.positive n)
  | inl w ↦ elim (positive_or_not (spend_level s alpha t u)) [
    | inr n ↦ inr (λ m. positive-not_at_most _ m.spent n)
    | inl l ↦ elim (at_most_or_above p (spend_level s alpha t u)) [
      | inl q ↦ inl (record { positive = w; spent = l; small = q })
      | inr q ↦ inr (λ m. at_most-compare p (spend_level s alpha t u) m.small q)
    ]
  ]
]

-- ---- the staged test

module _ (spend : ℕ → Spend) (alpha : Number) where
  pub staged_monotone : ((k t : ℕ) → IsRisingSpend (spend k) t) → number_zero ≤ε alpha → (values : List Arrival)
      → IsMonotone (AtStages spend alpha values)
  staged_monotone r n values k u v h m =
      record {
        arrival = m.arrival;
        at =
            record {
              arrived = m.at.arrived;
              hypothesis = m.at.hypothesis;
              meets = meets_up (spend k) alpha m.arrival.stage u v (number_of m.arrival.p) (r k m.arrival.stage) n h m.at.meets;
            };
      }

  -- what passes still passes once more values have arrived
  pub staged_more : (old new : List Arrival) → ((a : Arrival) → Contains old a → Contains new a) → (k : ℕ) (u : Number)
      → AtStages spend alpha old k u → AtStages spend alpha new k u
  staged_more old new more k u m =
      record { arrival = m.arrival; at = record { arrived = more m.arrival m.at.arrived; hypothesis = m.at.hypothesis; meets = m.at.meets } }

-- ---- settlings

module _ (spend : ℕ → Spend) (alpha : Number) where
  -- it is known whether a hypothesis passes at a weight
  pub at_stages_or_not : (values : List Arrival) (k : ℕ) (u : Number) → AtStages spend alpha values k u ⊎ ¬ AtStages spend alpha values k u
  at_stages_or_not [] k u = inr (λ m. nothing m.arrival m.at.arrived)
    where
      nothing : (a : Arrival) → Contains [] a → ⊥
      nothing a (i, q, e) = absurd (omega (arith, q))
  at_stages_or_not (a ∷ as') k u = elim (at_stages_or_not as' k u) [
    | inl m ↦ inl (staged_more spend alpha as' (a ∷ as') behind k u m)
    | inr n ↦ elim (same_or_not a.hypothesis k) [
      | inr o ↦ inr (λ m. n (later m (λ e. o (ap (λ x. x.hypothesis) e ∙ m.at.hypothesis))))
      | inl e ↦ elim (meets_or_not (spend k) alpha a.stage u (number_of a.p)) [
        | inl m ↦ inl (record { arrival = a; at = record { arrived = (zero, omega arith, refl); hypothesis = e; meets = m } })
        | inr o ↦ inr (λ m. n (later m (λ f. o (subst (λ x. Meets (spend k) alpha x.stage u (number_of x.p)) (sym f) m.at.meets))))
      ]
    ]
  ]
    where
      behind : (x : Arrival) → Contains as' x → Contains (a ∷ as') x
      behind x (i, q, e) = (suc i, omega (arith, q), e)

      further : (x : Arrival) → Contains (a ∷ as') x → (a ≡ x → ⊥) → Contains as' x
      further x (zero, q, e) n = absurd (n e)
      further x (suc i, q, e) n = (i, omega (arith, q), e)

      later : (m : AtStages spend alpha (a ∷ as') k u) → (a ≡ m.arrival → ⊥) → AtStages spend alpha as' k u
      later m n = record { arrival = m.arrival; at = record { arrived = further m.arrival m.at.arrived n; hypothesis = m.at.hypothesis; meets = m.at.meets } }

  pub settling_exists : (values : List Arrival) (E : EntangledGraph) (I : ℕ → Bool) → IsValidEntangled E → (js : List ℕ)
      × IsSettling spend alpha values E I js
  settling_exists values E I V = first_order_exists_by E V (AtStages spend alpha values) (at_stages_or_not values) I

  pub settling_unique : (values : List Arrival) (E : EntangledGraph) (I : ℕ → Bool) (js ks : List ℕ) → IsSettling spend alpha values E I js
      → IsSettling spend alpha values E I ks → js ≡ ks
  settling_unique values E I js ks = run_unique (IsFirst (IsStagedLegal spend alpha values E)) (first_unique (IsStagedLegal spend alpha values E)) js ks I
