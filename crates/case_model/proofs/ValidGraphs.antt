-- The graph of a valid component is valid.
use Rattle.std.proofs.Common.{◌≡◌, refl, sym, ap, subst, ◌∙◌, ℕ, zero, suc, List, [], ◌∷◌, true, ℤ, pos}
use Rattle.std.proofs.lemmas.Bool.Decides.{Decides-int_eq}
use Rattle.std.specs.List.{list_all}
use lib.IntN.{ℤ_discrete}
use Rattle.field_core.specs.View.{terms}
use Rattle.field_core.specs.declared.ratio.Ratio.{Ratio}
use Rattle.field_core.specs.Number.{Number}
use Rattle.field_core.specs.Arithmetic.{number_zero, number_one, ◌*ε◌}
use Rattle.field_core.specs.Fractions.{fraction}
use Rattle.field_core.specs.NumberField.{number_field}
use Rattle.field_core.specs.Order.{◌≤ε◌}
use Rattle.field_core.specs.Sums.{sum_below}
use Rattle.field_core.specs.Graph.{IsValid}
use Rattle.field_core.specs.Laws.Order.{number_zero_multiply}
use Rattle.field_core.specs.Laws.FractionLaws.{quotient-zero, fraction-zero, lowest-constant}
use Rattle.field_core.specs.Laws.NumberFieldLaws.{field_zero, field_one}
use Rattle.field_core.specs.Laws.AtMostLaws.{at_most_refl, zero_at_most_one}
use Rattle.field_core.proofs.SumLaws.{sum_congr, sum_zero}
use Rattle.fraction.specs.Tests.{is_zero}
use Rattle.fraction.specs.View.{number_of}
use Rattle.case_model.specs.Sums.{ratio_at, number_at, zero_ratio}
use Rattle.case_model.specs.Entries.{power_of_epsilon, entry_value, is_zero_entry, no_edge}
use Rattle.case_model.specs.declared.component.Component.{Component}
use Rattle.case_model.specs.Draft.{at_most, is_short}
use Rattle.case_model.specs.Content.{graph_of}
use Rattle.case_model.specs.Validity.{Each, IsNonneg, IsValidEdge, IsValidComponent}
use Rattle.case_model.proofs.DraftTests.{all_each}
use Rattle.case_model.proofs.Holding.{both}

-- ---- the value 0

over_zero : fraction (pos 0) (pos 0) ≡ number_zero
over_zero = quotient-zero (pos 0 ∷ []) (pos 0 ∷ []) (lowest-constant (pos 0))

zero_over : (d : ℤ) → Dec (d ≡ pos 0) → fraction (pos 0) d ≡ number_zero
zero_over d (yes e) = ap (fraction (pos 0)) e ∙ over_zero
zero_over d (no h) = fraction-zero d h

pub number-zero : (x : Ratio) → is_zero (terms x) ≡ true → number_of x ≡ number_zero
number-zero x h = ap (λ n. fraction n x.den) ((Decides-int_eq x.num (pos 0)).0 h) ∙ zero_over x.den (ℤ_discrete x.den (pos 0))

pub zero_at : (e : List Ratio) (k : ℕ) → list_all (λ x. is_zero (terms x)) e ≡ true → number_at e k ≡ number_zero
unfolding ratio_at
zero_at [] k h = number-zero zero_ratio refl
zero_at (x ∷ e) zero h = number-zero x (both (is_zero (terms x)) (list_all (λ x. is_zero (terms x)) e) h).left
zero_at (x ∷ e) (suc k) h = zero_at e k (both (is_zero (terms x)) (list_all (λ x. is_zero (terms x)) e) h).right

-- an entry whose coefficients are all 0 is 0
pub entry_value-zero : (e : List Ratio) → is_zero_entry e ≡ true → entry_value e ≡ number_zero
unfolding entry_value is_zero_entry
entry_value-zero e h =
    sum_congr number_field 5 (λ k. number_at e k *ε power_of_epsilon k) (λ _. number_field.𝟘)
    (λ k g. ap (λ x. x *ε power_of_epsilon k) (zero_at e k h) ∙ number_zero_multiply (power_of_epsilon k) ∙ sym field_zero)
    ∙ sum_zero number_field 5 ∙ field_zero

pub no_edge_zero : is_zero_entry no_edge ≡ true
unfolding is_zero_entry
no_edge_zero = refl

-- the edge that isn't there is valid
pub no_edge_valid : (i j : ℕ) → IsValidEdge i j no_edge
no_edge_valid i j = record {
  short = all_each is_short no_edge refl;
  unit = subst (λ x. (number_zero ≤ε x) × (x ≤ε number_one)) (sym (entry_value-zero no_edge no_edge_zero)) (at_most_refl number_zero, zero_at_most_one);
  no_loop = λ _. no_edge_zero;
}

-- ---- graphs

zero_nonneg : IsNonneg zero_ratio
zero_nonneg = ap (at_most number_zero) (number-zero zero_ratio refl) ∙ at_most_refl number_zero

-- what holds of 0 and of each fraction of a list holds at each place
pub at_place : (P : Ratio → Type 0) → P zero_ratio → (xs : List Ratio) → Each xs P → (i : ℕ) → P (ratio_at xs i)
unfolding ratio_at
at_place P z [] h i = z
at_place P z (x ∷ xs) h zero = h 0 x refl
at_place P z (x ∷ xs) h (suc i) = at_place P z xs (λ n y e. h (suc n) y e) i

pub nonneg_at : (xs : List Ratio) → Each xs IsNonneg → (i : ℕ) → number_zero ≤ε number_at xs i
nonneg_at = at_place IsNonneg zero_nonneg

pub valid_graph : (m : ℕ) (k : Component) → IsValidComponent m k → IsValid number_field m (graph_of m k)
valid_graph m k v =
    let low : (x : Number) → at_most number_zero x ≡ true → at_most number_field.𝟘 x ≡ true = λ x h. ap (λ z. at_most z x) field_zero ∙ h in
    let high : (x : Number) → at_most x number_one ≡ true → at_most x number_field.𝟙 ≡ true = λ x h. ap (at_most x) field_one ∙ h in
    record {
      weight_nonneg = λ i h. low (number_at k.weights i) (nonneg_at k.weights v.nonneg i);
      weight_total = high _ (ap (λ n. at_most (sum_below number_field n (number_at k.weights)) number_one) (sym v.weights) ∙ v.total);
      edge_nonneg = λ i j h g. low _ (v.edges i j h g).unit.0;
      no_loop = λ i h. entry_value-zero _ ((v.edges i i h h).no_loop refl) ∙ sym field_zero;
      row_total = λ i h. high _ (v.rows i h);
    }
