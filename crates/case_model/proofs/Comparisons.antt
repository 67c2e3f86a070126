-- Comparisons of numbers and of fractions.
use Rattle.std.proofs.Common.{◌≡◌, refl, sym, ap, ◌∙◌, ◌*ℤ◌, ◌<ℤ◌, pos, not}
use Rattle.std.specs.Ordering.{is_lt, is_le, is_ge, is_gt, int_cmp, ordering_reverse}
use Rattle.std.specs.declared.cmp.Ordering.{Ordering}
use Rattle.std.specs.declared.cmp.Ordering.TheVariants.{Less, Equal, Greater}
use Rattle.field_core.specs.Number.{Number}
use Rattle.field_core.specs.Arithmetic.{number_zero, number_one, number_compare, ◌-ε◌}
use Rattle.field_core.specs.Exact.{value_of}
use Rattle.field_core.specs.Kind.{sign_of}
use Rattle.field_core.specs.Polynomial.{int_sign}
use Rattle.field_core.specs.View.{terms}
use Rattle.field_core.specs.declared.ratio.Ratio.{Ratio}
use Rattle.field_core.specs.NumberField.{number_field}
use Rattle.field_core.specs.Terms.{Terms}
use Rattle.field_core.specs.Field.{not_less}
use Rattle.field_core.specs.Laws.FieldLaws.{number_is_field}
use Rattle.field_core.specs.Laws.Effective.{fraction-compare}
use Rattle.field_core.specs.Laws.FractionLaws.{lowest-constant}
use Rattle.fraction.specs.Laws.PlainLaws.{plain_is_exact}
use Rattle.fraction.specs.Plain.{plain, fraction_parts}
use Rattle.fraction.specs.View.{number_of}
use Rattle.case_model.specs.Sums.{number}
use Rattle.case_model.specs.Draft.{at_most}

reversed : (o : Ordering) → not_less (ordering_reverse o) ≡ is_le o
reversed Less = refl
reversed Equal = refl
reversed Greater = refl

by_difference : (x y : Number) → number_field.at_most x y ≡ not_less (number_compare y x)
unfolding number_field number_compare ◌-ε◌
by_difference x y = refl

pub at_most_is : (x y : Number) → number_field.at_most x y ≡ is_le (number_compare x y)
at_most_is x y = by_difference x y ∙ ap not_less (number_is_field.compare_swap x y) ∙ reversed (number_compare x y)

-- fractions compare by their cross products
pub compare_terms : (x y : Terms) → pos 0 <ℤ x.den → pos 0 <ℤ y.den
    → int_cmp (x.num *ℤ y.den) (y.num *ℤ x.den) ≡ number_compare (number x) (number y)
compare_terms x y h g = sym (fraction-compare x.num x.den y.num y.den h g)

turned : (o : Ordering) → is_le (ordering_reverse o) ≡ is_ge o
turned Less = refl
turned Equal = refl
turned Greater = refl

-- at least, by the order the other way round
pub at_least_is : (x y : Number) → number_field.at_most y x ≡ is_ge (number_compare x y)
at_least_is x y = at_most_is y x ∙ ap is_le (number_is_field.compare_swap x y) ∙ turned (number_compare x y)

-- ---- fractions

pub compare_is : (x y : Ratio) → int_cmp (x.num *ℤ y.den) (y.num *ℤ x.den) ≡ number_compare (number_of x) (number_of y)
compare_is x y = compare_terms (terms x) (terms y) x.valid.positive y.valid.positive

pub le_is : (x y : Ratio) → is_le (int_cmp (x.num *ℤ y.den) (y.num *ℤ x.den)) ≡ at_most (number_of x) (number_of y)
le_is x y = ap is_le (compare_is x y) ∙ sym (at_most_is (number_of x) (number_of y))

ge_is : (x y : Ratio) → is_ge (int_cmp (x.num *ℤ y.den) (y.num *ℤ x.den)) ≡ at_most (number_of y) (number_of x)
ge_is x y = ap is_ge (compare_is x y) ∙ sym (at_least_is (number_of x) (number_of y))

less : (o : Ordering) → is_lt o ≡ not (is_ge o)
less Less = refl
less Equal = refl
less Greater = refl

greater : (o : Ordering) → is_gt o ≡ not (is_le o)
greater Less = refl
greater Equal = refl
greater Greater = refl

pub below_is : (x y : Ratio) → is_lt (int_cmp (x.num *ℤ y.den) (y.num *ℤ x.den)) ≡ not (at_most (number_of y) (number_of x))
below_is x y = less _ ∙ ap not (ge_is x y)

pub above_is : (x y : Ratio) → is_gt (int_cmp (x.num *ℤ y.den) (y.num *ℤ x.den)) ≡ not (at_most (number_of x) (number_of y))
above_is x y = greater _ ∙ ap not (le_is x y)

pub zero_is : (z : Ratio) → fraction_parts z ≡ plain.zero → number_of z ≡ number_zero
unfolding value_of
zero_is z e = ap value_of e ∙ plain_is_exact.zero_value

pub one_is : (z : Ratio) → fraction_parts z ≡ plain.one → number_of z ≡ number_one
unfolding value_of
one_is z e = ap value_of e ∙ plain_is_exact.one_value

pub at_least_zero_is : (x z : Ratio) → fraction_parts z ≡ plain.zero
    → is_ge (int_cmp (x.num *ℤ z.den) (z.num *ℤ x.den)) ≡ at_most number_zero (number_of x)
at_least_zero_is x z e = ge_is x z ∙ ap (λ n. at_most n (number_of x)) (zero_is z e)

pub below_zero_is : (x z : Ratio) → fraction_parts z ≡ plain.zero
    → is_lt (int_cmp (x.num *ℤ z.den) (z.num *ℤ x.den)) ≡ not (at_most number_zero (number_of x))
below_zero_is x z e = less _ ∙ ap not (at_least_zero_is x z e)

pub above_zero_is : (x z : Ratio) → fraction_parts z ≡ plain.zero
    → is_gt (int_cmp (x.num *ℤ z.den) (z.num *ℤ x.den)) ≡ not (at_most (number_of x) number_zero)
above_zero_is x z e = greater _ ∙ ap not (le_is x z ∙ ap (at_most (number_of x)) (zero_is z e))

pub at_most_one_is : (x z : Ratio) → fraction_parts z ≡ plain.one
    → is_le (int_cmp (x.num *ℤ z.den) (z.num *ℤ x.den)) ≡ at_most (number_of x) number_one
at_most_one_is x z e = le_is x z ∙ ap (at_most (number_of x)) (one_is z e)

pub above_one_is : (x z : Ratio) → fraction_parts z ≡ plain.one
    → is_gt (int_cmp (x.num *ℤ z.den) (z.num *ℤ x.den)) ≡ not (at_most (number_of x) number_one)
above_one_is x z e = greater _ ∙ ap not (at_most_one_is x z e)

-- the sign of a fraction is that of its numerator
pub sign_is : (x : Ratio) → sign_of (fraction_parts x) ≡ int_sign x.num
unfolding sign_of
sign_is x = ap int_sign (lowest-constant x.num)

-- tests against 0 and 1
pub ruleset zero_and_one = (below_zero_is, at_least_zero_is, above_zero_is, at_most_one_is)

-- tests against other fractions
pub ruleset orders = (below_is, above_is, le_is)
