-- The level 1.
use Rattle.std.proofs.Common.{◌≡◌, refl, sym, ap, ap₂, ◌∙◌, inl, inr, true, false, not, ◌&&◌}
use Rattle.field_core.specs.Arithmetic.{number_zero, number_one}
use Rattle.field_core.specs.Laws.AtMostLaws.{at_most_refl, positive-one, positive-not_at_most}
use Rattle.field_core.specs.declared.ratio.Ratio.{Ratio}
use Rattle.field_core.proofs.Live.{true_or_false}
use Rattle.fraction.specs.Plain.{plain, fraction_parts}
use Rattle.fraction.specs.View.{number_of}
use Rattle.fraction.proofs.SameRatios.{same_number}
use Rattle.case_model.specs.Draft.{at_most, is_short_level, is_level}
use Rattle.case_model.specs.Sums.{one_ratio}
use Rattle.case_model.proofs.Comparisons.{one_is as one_number}

pub one_is : number_of one_ratio ≡ number_one
one_is = one_number one_ratio refl

-- a fraction stored as 1 is 1/1
pub one_of : (z : Ratio) → fraction_parts z ≡ plain.one → z ≡ one_ratio
one_of z e = same_number z one_ratio (one_number z e ∙ sym one_is)

one_above : at_most number_one number_zero ≡ false
one_above = elim (true_or_false (at_most number_one number_zero)) [ inl t ↦ absurd (positive-not_at_most number_one positive-one t) | inr f ↦ f ]

one_short : is_short_level one_ratio ≡ true
one_short = refl

pub one_level : is_level one_ratio ≡ true
unfolding is_level
one_level =
    ap₂ (λ a b. a && b) one_short
    (ap (λ z. not (at_most z number_zero) && at_most z number_one) one_is ∙ ap₂ (λ a b. not a && b) one_above (at_most_refl number_one))
