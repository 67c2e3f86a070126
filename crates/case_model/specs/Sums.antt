-- Sums of fractions, by value and as they are written.
use Rattle.std.specs.Prelude.{ℕ, zero, suc, pos, List, get_or, Option, Some}
use Rattle.field_core.specs.Terms.{Terms}
use Rattle.field_core.specs.View.{terms}
use Rattle.field_core.specs.Sized.{◌>>=◌}
use Rattle.field_core.specs.Number.{Number}
use Rattle.field_core.specs.Fractions.{fraction}
use Rattle.field_core.specs.declared.ratio.Ratio.{Ratio}
use Rattle.fraction.specs.Plain.{zero_reduced, one_reduced}
use Rattle.fraction.specs.View.{number_of}
use Rattle.fraction.specs.Written.{written_add}

-- the number that two terms denote
abbrev pub number : Terms → Number
number t = fraction t.num t.den

-- 0/1
abbrev pub zero_terms : Terms
zero_terms = record { num = pos 0; den = pos 1 }

-- 0/1 as a fraction
abbrev pub zero_ratio : Ratio
zero_ratio = record { num = pos 0; den = pos 1; valid = zero_reduced }

-- 1/1 as a fraction
abbrev pub one_ratio : Ratio
one_ratio = record { num = pos 1; den = pos 1; valid = one_reduced }

-- the terms at a place of a list, and those of 0 past its end
unfoldable pub terms_at : List Terms → ℕ → Terms
terms_at ts i = get_or ts i zero_terms

-- the fraction at a place of a list, and 0 past its end
unfoldable pub ratio_at : List Ratio → ℕ → Ratio
ratio_at xs i = get_or xs i zero_ratio

-- the number at a place of a list, and 0 past its end
abbrev pub number_at : List Ratio → ℕ → Number
number_at xs i = number_of (ratio_at xs i)

-- the sum of the first `n` fractions, written one after another by ascending place
unfoldable pub written_sum : ℕ → (ℕ → Ratio) → Option Terms
written_sum zero f = Some zero_terms
written_sum (suc n) f = written_sum n f >>= λ s. written_add s (terms (f n))
