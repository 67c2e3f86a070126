-- Quotients as contracts see them.
use Rattle.field_core.specs.Kind.{Parts}
use Rattle.field_core.specs.Number.{Number}
use Rattle.field_core.specs.Exact.{value_of}
use Rattle.eps_quotient.specs.declared.pair.Pair.{Pair}
use Rattle.eps_quotient.specs.declared.quotient.EpsQuotient.{EpsQuotient}

-- the coefficients above and below
abbrev pub pair_parts : Pair → Parts
pair_parts x = record { numerator = x.numerator; denominator = x.denominator }

-- the coefficients of the numerator and of the denominator
abbrev pub quotient_parts : EpsQuotient → Parts
quotient_parts x = pair_parts x.pair

-- the number that a quotient is
abbrev pub number_of : EpsQuotient → Number
number_of x = value_of (quotient_parts x)
