-- Fractions as contracts see them.
use Rattle.field_core.specs.Terms.{Terms}
use Rattle.field_core.specs.View.{terms}
use Rattle.field_core.specs.Number.{Number}
use Rattle.field_core.specs.Fractions.{fraction}
use Rattle.fraction.specs.declared.fraction.Fraction.{Fraction}

-- numerator and denominator
abbrev pub terms_of : Fraction → Terms
terms_of x = terms x

-- the number that a fraction is
abbrev pub number_of : Fraction → Number
number_of x = fraction (terms_of x).num (terms_of x).den
