-- The texts of the numbers of evidence.
use Rattle.std.specs.Prelude.{ℕ, List}
use Rattle.field_core.specs.Kind.{Parts}
use Rattle.fraction.specs.Plain.{pair_of}
use Rattle.fraction.specs.Spelling.{spelling}
use Rattle.eps_quotient.specs.Spelling.{quotient_text}
use Rattle.case_numbers.specs.Numbers.{Numbers, in_fractions, in_quotients}

-- the text of a stored number
abbrev pub number_text : Numbers → Parts → List ℕ
number_text in_fractions x = spelling (pair_of x)
number_text in_quotients x = quotient_text x
