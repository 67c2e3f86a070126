-- The number of a text.
use Rattle.std.specs.Prelude.{◌==◌, ◌||◌, ◌^◌, ℕ, nat_le, Bool, if◌then◌else◌, ℤ, List, [], length, get_or, Option}
use Rattle.std.specs.Prelude.{Some, None, unsigned_abs, option_and_then}
use Rattle.std.specs.List.{list_any}
use Rattle.field_core.specs.Kind.{Parts, is_zero_integer}
use Rattle.field_core.specs.Polynomial.{coefficient}
use Rattle.field_core.specs.Terms.{Terms}
use Rattle.numerals.specs.Lowest.{lowest_terms}
use Rattle.fraction.specs.Plain.{single}
use Rattle.eps_quotient.specs.Texts.{quotient_in}
use Rattle.case_model.specs.Names.{position_of}
use Rattle.case_model.specs.Content.{Content}
use Rattle.case_numbers.specs.Numbers.{Numbers, in_fractions, in_quotients}
use Rattle.evidence_check.specs.Evidence.{others}
use Rattle.evidence_check.specs.DocumentLines.{Frame}
use Rattle.evidence_check.specs.NumberTexts.{number_text}

-- whether a part passes 2^127 - 1 in size
abbrev pub has_wide_part : Terms → Bool
has_wide_part x = nat_le (2 ^ 127) (unsigned_abs x.num) || nat_le (2 ^ 127) (unsigned_abs x.den)

-- the fraction of two whole numbers in lowest terms, if there is one within its size
unfoldable pub fraction_by : ℤ → ℤ → Option Parts
fraction_by n d = if is_zero_integer d || has_wide_part (lowest_terms n d) then None else Some (single (lowest_terms n d))

-- the fraction of a constant quotient
abbrev pub constant_fraction : Parts → Option Parts
constant_fraction y = fraction_by (coefficient y.numerator 0) (coefficient y.denominator 0)

-- the fraction of a text without brackets
unfoldable pub fraction_of_text : List ℕ → Option Parts
fraction_of_text text =
    if list_any (λ b. b == 91) text then None
    else option_and_then constant_fraction (quotient_in text)

-- the number of a text
abbrev pub number_in_text : Numbers → List ℕ → Option Parts
number_in_text in_fractions text = fraction_of_text text
number_in_text in_quotients text = quotient_in text

-- what of a case the lines of its evidence speak of
abbrev pub case_frame : Numbers → Content → Frame
case_frame n c = record {
  name = λ j. get_or c.names j [];
  position = λ name. position_of name c.names;
  components = length c.components;
  others = others (length c.names);
  number = number_in_text n;
  text = number_text n;
}
