-- Comparisons of entries with 0 and 1.
use Rattle.std.proofs.Common.{◌≡◌, sym, ap, ◌∙◌, List}
use Rattle.std.specs.Ordering.{is_le, is_ge}
use Rattle.field_core.specs.Arithmetic.{number_zero, number_one, number_compare}
use Rattle.field_core.specs.declared.ratio.Ratio.{Ratio}
use Rattle.fraction.specs.Plain.{plain, fraction_parts}
use Rattle.fraction.specs.View.{number_of}
use Rattle.case_model.specs.Draft.{at_most}
use Rattle.case_model.specs.Entries.{entry_value}
use Rattle.case_model.proofs.Comparisons.{at_most_is, at_least_is, zero_is, one_is}

pub at_least_zero : (e : List Ratio) (z : Ratio) → fraction_parts z ≡ plain.zero
    → is_ge (number_compare (entry_value e) (number_of z)) ≡ at_most number_zero (entry_value e)
at_least_zero e z h = ap (λ n. is_ge (number_compare (entry_value e) n)) (zero_is z h) ∙ sym (at_least_is (entry_value e) number_zero)

pub at_most_one : (e : List Ratio) (z : Ratio) → fraction_parts z ≡ plain.one
    → is_le (number_compare (entry_value e) (number_of z)) ≡ at_most (entry_value e) number_one
at_most_one e z h = ap (λ n. is_le (number_compare (entry_value e) n)) (one_is z h) ∙ sym (at_most_is (entry_value e) number_one)
