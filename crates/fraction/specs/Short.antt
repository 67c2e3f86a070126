-- Fractions whose parts fit 64 bits.
use Rattle.field_core.specs.Terms.{Terms}
use Rattle.fraction.specs.declared.short.ShortRatio.{ShortRatio}

-- numerator and denominator
abbrev pub short_terms : ShortRatio → Terms
short_terms x = record { num = x.num; den = x.den }
