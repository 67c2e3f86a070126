-- The values of a run by least ratios are the adjusted values.
use Rattle.std.proofs.Common.{◌≡◌, sym, ap, ◌∙◌, subst, inl, inr, ℕ, Bool, true, false, cond, List, [], ◌∷◌}
use Rattle.field_core.specs.Number.{Number}
use Rattle.field_core.specs.Arithmetic.{number_zero, number_one}
use Rattle.field_core.specs.Order.{◌≤ε◌}
use Rattle.field_core.specs.NumberField.{number_field}
use Rattle.field_core.specs.LimitParts.{IsUnit}
use Rattle.field_core.specs.Sets.{dropping, whole, set_of}
use Rattle.field_core.specs.Runs.{left_after}
use Rattle.field_core.specs.Laws.AtMostLaws.{at_most_trans, zero_at_most_one}
use Rattle.field_core.proofs.Live.{true_or_false, true_not_false}
use Rattle.case_model.specs.EntangledGraph.{EntangledGraph, IsValidEntangled}
use Rattle.case_model.specs.ClosedTest.{IsLegal}
use Rattle.case_model.specs.LegalOrder.{IsListed, IsLegalOrder, IsComplete}
use Rattle.fraction.specs.View.{number_of}
use Rattle.case_model.proofs.ClosedTestLaws.{complete_decides}
use Rattle.case_model.proofs.PriorityOrders.{ratio_legal, legal_ratio, legal_at_most, least_legal, least_exists}
use Rattle.case_model.proofs.RejectionOrders.{listed_here, listed_later, here_or_later}
use Rattle.adjusted_p.specs.RatioRuns.{ValueStep, removed_ones, IsLeastToOne, IsValueStep, AreValueSteps, AreRunValues, IsTableOf, reached_at}
use Rattle.std.specs.List.{AllByRecursion}
use Rattle.case_model.specs.AdjustedValues.{IsAdjusted}
use Rattle.case_model.specs.AdjustedStatements.{Decides, IsInRange}
use Rattle.case_model.proofs.AdjustedValues.{one_unit, adjusted_is}
use Rattle.adjusted_p.specs.declared.adjusted.Adjusted.{Adjusted}
use Rattle.adjusted_p.proofs.LevelOne.{one_is}

-- whether the value of a step is at most a level
abbrev is_up_to : Number → ValueStep → Bool
is_up_to a x = number_field.at_most (number_of x.value) a

-- the hypotheses of the leading steps whose values are at most a level
leading : Number → List ValueStep → List ℕ
leading a [] = []
leading a (x ∷ xs) = cond (is_up_to a x) (x.hypothesis ∷ leading a xs) []

leading_more : (a : Number) (x : ValueStep) (xs : List ValueStep) → number_of x.value ≤ε a → leading a (x ∷ xs) ≡ x.hypothesis ∷ leading a xs
unfolding leading
leading_more a x xs t = ap (λ b. cond b (x.hypothesis ∷ leading a xs) []) t

leading_none : (a : Number) (x : ValueStep) (xs : List ValueStep) → is_up_to a x ≡ false → leading a (x ∷ xs) ≡ []
unfolding leading
leading_none a x xs f = ap (λ b. cond b (x.hypothesis ∷ leading a xs) []) f

module _ (E : EntangledGraph) (p : ℕ → Number) where
  -- values are at most 1
  small : (I : ℕ → Bool) (before : Number) (x : ValueStep) → IsValueStep E p I before x → before ≤ε number_one → number_of x.value ≤ε number_one
  small I before x S h = elim S.greater.one_of [
    | inl e ↦ subst (λ v. v ≤ε number_one) (sym e) h
    | inr e ↦ subst (λ v. v ≤ε number_one) (sym e) S.next.small
  ]

  module _ (a : Number) where
    -- at a level, the leading steps whose values are at most the level are a legal order
    leading_legal : (xs : List ValueStep) (I : ℕ → Bool) (before : Number) → AreValueSteps E p I before xs → IsLegalOrder E p a I (leading a xs)
    unfolding leading
    leading_legal [] I before S = tt
    leading_legal (x ∷ xs) I before S = elim (true_or_false (is_up_to a x)) [
      | inl t ↦ subst (IsLegalOrder E p a I) (sym (leading_more a x xs t)) (
        ratio_legal E p I a x.hypothesis S.0.next.least.ratio S.0.next.least.is_ratio (at_most_trans _ _ a S.0.greater.above_second t),
        leading_legal xs (dropping x.hypothesis I) (number_of x.value) S.1,
      )
      | inr f ↦ subst (IsLegalOrder E p a I) (sym (leading_none a x xs f)) tt
    ]

    -- where there is no ratio of at most 1, nothing is legal at a level of at most 1
    none_legal : IsValidEntangled E → a ≤ε number_one → (I : ℕ → Bool) → ((j : ℕ) → ¬ IsLeastToOne E p I j) → (k : ℕ)
        → ¬ IsLegal E p a I k
    none_legal V high I none k h =
        let r = legal_ratio E p I a k h in
        let l = least_exists E p I V k r.0 r.1 in
        none l.0 (record { least = l.1; small = at_most_trans _ a number_one (at_most_trans _ r.0 a (l.1.least k r.0 r.1) r.2) high })

    -- and it is complete
    leading_complete : IsValidEntangled E → a ≤ε number_one → (xs : List ValueStep) (I : ℕ → Bool) (before : Number) → before ≤ε a
        → AreValueSteps E p I before xs
        → ((j : ℕ) → ¬ IsLeastToOne E p (left_after I (removed_ones xs)) j) → IsComplete E p a I (leading a xs)
    unfolding leading
    leading_complete V high [] I before low S end = none_legal V high I end
    leading_complete V high (x ∷ xs) I before low S end = elim (true_or_false (is_up_to a x)) [
      | inl t ↦ subst (IsComplete E p a I) (sym (leading_more a x xs t)) (leading_complete V high xs (dropping x.hypothesis I) (number_of x.value) t S.1 end)
      | inr f ↦ subst (IsComplete E p a I) (sym (leading_none a x xs f)) (λ k h. true_not_false (sym (up k h) ∙ f))
    ]
      where
        up : (k : ℕ) → IsLegal E p a I k → number_of x.value ≤ε a
        up k h = elim S.0.greater.one_of [
          | inl e ↦ subst (λ v. v ≤ε a) (sym e) low
          | inr e ↦ subst (λ v. v ≤ε a) (sym e)
              (legal_at_most E p I a x.hypothesis S.0.next.least.ratio S.0.next.least.is_ratio (least_legal E p I a x.hypothesis k S.0.next.least h))
        ]

  module _ (T : ℕ → Adjusted) where
    abbrev HaveValues : List ValueStep → Type 0
    HaveValues = AllByRecursion (λ x. T x.hypothesis ≡ reached_at x.value)

    -- the value of the hypothesis of a step, by the table
    value_at : (x : ValueStep) (j : ℕ) → j ≡ x.hypothesis → T x.hypothesis ≡ reached_at x.value → (T j).value ≡ x.value
    value_at x j e h = ap (λ i. (T i).value) e ∙ ap (λ y. y.value) h

    -- what is listed is reached
    listed_reached : (xs : List ValueStep) → HaveValues xs → (j : ℕ) → IsListed (removed_ones xs) j → (T j).reached ≡ true
    listed_reached [] H j l = absurd (cc)
    listed_reached (x ∷ xs) H j l = elim (here_or_later x.hypothesis j (removed_ones xs) l) [
      | inl e ↦ ap (λ i. (T i).reached) e ∙ ap (λ y. y.reached) H.0
      | inr k ↦ listed_reached xs H.1 j k
    ]

    -- the values of later steps aren't below that of an earlier one
    later_above : (xs : List ValueStep) (I : ℕ → Bool) (before : Number) → AreValueSteps E p I before xs → HaveValues xs → (j : ℕ)
        → IsListed (removed_ones xs) j → before ≤ε number_of (T j).value
    later_above [] I before S H j l = absurd (cc)
    later_above (x ∷ xs) I before S H j l = elim (here_or_later x.hypothesis j (removed_ones xs) l) [
      | inl e ↦ subst (λ v. before ≤ε number_of v) (sym (value_at x j e H.0)) S.0.greater.above_first
      | inr k ↦ at_most_trans before (number_of x.value) _ S.0.greater.above_first (later_above xs (dropping x.hypothesis I) (number_of x.value) S.1 H.1 j k)
    ]

    at_most_one : (xs : List ValueStep) (I : ℕ → Bool) (before : Number) → before ≤ε number_one → AreValueSteps E p I before xs → HaveValues xs
        → (j : ℕ) → IsListed (removed_ones xs) j → number_of (T j).value ≤ε number_one
    at_most_one [] I before low S H j l = absurd (cc)
    at_most_one (x ∷ xs) I before low S H j l = elim (here_or_later x.hypothesis j (removed_ones xs) l) [
      | inl e ↦ subst (λ v. number_of v ≤ε number_one) (sym (value_at x j e H.0)) (small I before x S.0 low)
      | inr k ↦ at_most_one xs (dropping x.hypothesis I) (number_of x.value) (small I before x S.0 low) S.1 H.1 j k
    ]

    -- the leading ones are those whose values are at most the level
    leading_in : (a : Number) (xs : List ValueStep) → HaveValues xs → (j : ℕ) → IsListed (leading a xs) j
        → IsListed (removed_ones xs) j × (number_of (T j).value ≤ε a)
    unfolding leading
    leading_in a [] H j l = absurd (cc)
    leading_in a (x ∷ xs) H j l = elim (true_or_false (is_up_to a x)) [
      | inl t ↦ elim (here_or_later x.hypothesis j (leading a xs) (subst (λ js. IsListed js j) (leading_more a x xs t) l)) [
        | inl e ↦ (
          subst (λ i. IsListed (x.hypothesis ∷ removed_ones xs) i) (sym e) (listed_here x.hypothesis (removed_ones xs)),
          subst (λ v. number_of v ≤ε a) (sym (value_at x j e H.0)) t,
        )
        | inr k ↦ let r = leading_in a xs H.1 j k in (listed_later x.hypothesis j (removed_ones xs) r.0, r.1)
      ]
      | inr f ↦ absurd (none (subst (λ js. IsListed js j) (leading_none a x xs f) l))
    ]
      where
        none : ¬ IsListed [] j
        none h = cc

    in_leading : (a : Number) (xs : List ValueStep) (I : ℕ → Bool) (before : Number) → AreValueSteps E p I before xs → HaveValues xs → (j : ℕ)
        → IsListed (removed_ones xs) j → number_of (T j).value ≤ε a → IsListed (leading a xs) j
    unfolding leading
    in_leading a [] I before S H j l u = absurd (cc)
    in_leading a (x ∷ xs) I before S H j l u = elim (here_or_later x.hypothesis j (removed_ones xs) l) [
      | inl e ↦
          let t : number_of x.value ≤ε a = subst (λ v. number_of v ≤ε a) (value_at x j e H.0) u in
          subst (λ js. IsListed js j) (sym (leading_more a x xs t))
          (subst (λ i. IsListed (x.hypothesis ∷ leading a xs) i) (sym e) (listed_here x.hypothesis (leading a xs)))
      | inr k ↦
          let t : number_of x.value ≤ε a = at_most_trans _ (number_of (T j).value) a
          (later_above xs (dropping x.hypothesis I) (number_of x.value) S.1 H.1 j k) u in
          subst (λ js. IsListed js j) (sym (leading_more a x xs t))
          (listed_later x.hypothesis j (leading a xs) (in_leading a xs (dropping x.hypothesis I) (number_of x.value) S.1 H.1 j k u))
    ]

    module _ (V : IsValidEntangled E) (xs : List ValueStep) (R : AreRunValues E p whole number_zero xs) (table : IsTableOf T xs) where
      -- what is reached is listed
      reached_listed : (j : ℕ) → (T j).reached ≡ true → IsListed (removed_ones xs) j
      reached_listed j t = elim (true_or_false (set_of (removed_ones xs) j)) [
        | inl l ↦ l
        | inr f ↦ absurd (true_not_false (sym t ∙ ap (λ y. y.reached) (table.rest j (λ l. true_not_false (sym l ∙ f)))))
      ]

      -- at each level from 0 to 1 the closed test rejects exactly those whose values are at most the level
      table_decides : (j : ℕ) → Decides E p j (T j).value (T j).reached
      table_decides j a u =
          let D =
          complete_decides E p a V u.low (leading a xs) (leading_legal a xs whole number_zero R.steps)
          (leading_complete a V u.high xs whole number_zero u.low R.steps R.end) j in (
            λ r. let h = leading_in a xs table.valued j (D.1 r) in (listed_reached xs table.valued j h.0, h.1),
            λ h. D.0 (in_leading a xs whole number_zero R.steps table.valued j (reached_listed j h.0) h.1),
          )

      value_one : (j : ℕ) → (T j).reached ≡ false → number_of (T j).value ≡ number_one
      value_one j f = ap (λ y. number_of y.value) (table.rest j (λ l. true_not_false (sym (listed_reached xs table.valued j l) ∙ f))) ∙ one_is

      table_in_range : (j : ℕ) → IsInRange (T j).value (T j).reached
      table_in_range j = record {
        unit = elim (true_or_false (T j).reached) [
          | inl t ↦ let l =
              reached_listed j t in record {
                low = later_above xs whole number_zero R.steps table.valued j l;
                high = at_most_one xs whole number_zero zero_at_most_one R.steps table.valued j l;
              }
          | inr f ↦ subst IsUnit (sym (value_one j f)) one_unit
        ];
        one = value_one j;
      }

      -- so the values are the adjusted values
      pub table_adjusted : (j : ℕ) → IsAdjusted E p j (T j).value (T j).reached
      table_adjusted j = (adjusted_is E p j (T j).value (T j).reached).1 (table_in_range j, table_decides j)
