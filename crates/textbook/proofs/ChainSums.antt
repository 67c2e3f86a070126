-- Where the weights of a chain sum to at most 1, their numerators sum to at most the common denominator.
use Rattle.std.proofs.Common.{◌≡◌, refl, inl, inr, ◌⊎◌, sym, ap, ◌∙◌, subst, ℕ, zero, suc, ◌≤◌, ◌<◌, arith, true, length, pos}
use Rattle.std.proofs.Common.{ℤ, ◌*ℤ◌, ◌<ℤ◌}
use Rattle.std.specs.Ordering.{is_le, int_cmp}
use Rattle.std.specs.declared.cmp.Ordering.{Ordering}
use Rattle.std.specs.declared.cmp.Ordering.TheVariants.{Less, Equal, Greater}
use Rattle.std.proofs.lemmas.Cmp.{int_ranked}
use Rattle.std.proofs.lemmas.Int.{ints}
use Rattle.field_core.specs.Arithmetic.{number_one, ◌+ε◌}
use Rattle.field_core.specs.Fractions.{fraction}
use Rattle.field_core.specs.NumberField.{number_field}
use Rattle.field_core.specs.Order.{◌≤ε◌}
use Rattle.field_core.specs.Sums.{sum_below}
use Rattle.field_core.specs.Terms.{Terms}
use Rattle.field_core.specs.Laws.FractionLaws.{fraction-zero}
use Rattle.field_core.specs.Laws.NumberFieldLaws.{field_one, sum_nothing, sum_last}
use Rattle.field_core.proofs.SumLaws.{sum_congr}
use Rattle.field_core.proofs.UnitLimits.{one_is, suc_not_zero}
use Rattle.case_model.specs.Content.{Content, entangled}
use Rattle.case_model.specs.TextbookGraphs.{IsFallbackGraph}
use Rattle.case_model.specs.Validity.{IsValidContent}
use Rattle.case_model.specs.Sums.{number}
use Rattle.case_model.proofs.Comparisons.{compare_terms, at_most_is}
use Rattle.case_model.proofs.ValidContents.{valid_content}
use Rattle.sequential.proofs.TrialFacts.{hypotheses_are}
use Rattle.textbook.specs.TextbookRuns.{total}
use Rattle.textbook.proofs.ChainRuns.{sum_common}

-- ---- a fraction of at most 1

less_or_same : (r : Ordering) (x y : ℤ) → r ≡ int_cmp x y → is_le r ≡ true → (x <ℤ y) ⊎ (x ≡ y)
less_or_same Less x y e h = inl (int_ranked x y Less e)
less_or_same Equal x y e h = inr (int_ranked x y Equal e)
less_or_same Greater x y e h = absurd (cc)

at_most_terms : (x y : Terms) → pos 0 <ℤ x.den → pos 0 <ℤ y.den
    → is_le (int_cmp (x.num *ℤ y.den) (y.num *ℤ x.den)) ≡ number_field.at_most (number x) (number y)
at_most_terms x y h g = ap is_le (compare_terms x y h g) ∙ sym (at_most_is (number x) (number y))

at_most_whole : (n d : ℕ) → fraction (pos n) (pos (suc d)) ≤ε number_one → n ≤ suc d
at_most_whole n d h =
    let low : fraction (pos n) (pos (suc d)) ≤ε fraction (pos 1) (pos 1) = subst (λ z. fraction (pos n) (pos (suc d)) ≤ε z) one_is h in
    let across = at_most_terms (record { num = pos n; den = pos (suc d) }) (record { num = pos 1; den = pos 1 }) (omega (arith, ints)) (omega (arith, ints))
    ∙ low in
    elim (less_or_same (int_cmp (pos n *ℤ pos 1) (pos 1 *ℤ pos (suc d))) (pos n *ℤ pos 1) (pos 1 *ℤ pos (suc d)) refl across) [
      | inl a ↦ omega (arith, ints, a)
      | inr e ↦ omega (arith, ints, e)
    ]

-- ---- sums

module _ (a : ℕ → ℕ) (d : ℕ) where
  sum_is : (m : ℕ) → sum_below number_field m (λ i. fraction (pos (a i)) (pos (suc d))) ≡ fraction (pos (total a m)) (pos (suc d))
  unfolding total
  sum_is zero = sum_nothing (λ i. fraction (pos (a i)) (pos (suc d))) ∙ sym (fraction-zero (pos (suc d)) (suc_not_zero d))
  sum_is (suc m) =
      sum_last m (λ i. fraction (pos (a i)) (pos (suc d)))
      ∙ ap (λ x. x +ε fraction (pos (a m)) (pos (suc d))) (sum_is m) ∙ sum_common a d (total a m) (a m)

  pub sum_at_most : (c : Content) → IsValidContent c → IsFallbackGraph (λ i. fraction (pos (a i)) (pos (suc d))) (entangled c)
      → total a (length c.names) ≤ suc d
  sum_at_most c V A =
      let E = entangled c in
      let first : 0 < E.components = omega (arith, A.one) in
      let weights = sum_congr number_field E.hypotheses (E.graph 0).weight (λ i. fraction (pos (a i)) (pos (suc d))) A.weight in
      let high = ((valid_content c V).graph 0 first).weight_total in
      let all : fraction (pos (total a E.hypotheses)) (pos (suc d)) ≤ε number_one =
      subst (λ z. fraction (pos (total a E.hypotheses)) (pos (suc d)) ≤ε z) field_one
      (subst (λ x. x ≤ε number_field.𝟙) (weights ∙ sum_is E.hypotheses) high) in
      subst (λ n. total a n ≤ suc d) (hypotheses_are c) (at_most_whole (total a E.hypotheses) d all)
