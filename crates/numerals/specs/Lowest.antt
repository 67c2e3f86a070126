-- Quotients in lowest terms.
use Rattle.std.specs.Prelude.{ℕ, ◌/◌, ◌^◌, ◌≤◌, ◌⊎◌, Bool, true, false, not, ℤ, pos, unsigned_abs}
use Rattle.std.specs.Int.{is_negative}
use Rattle.field_core.specs.Divisor.{gcd}
use Rattle.field_core.specs.Terms.{Terms}
use Rattle.numerals.specs.Numeral.{with_sign}

-- the quotient of two sizes in lowest terms, with a sign
unfoldable pub lowest_of : Bool → ℕ → ℕ → Terms
lowest_of negative n d = record { num = with_sign negative (n / gcd n d); den = pos (d / gcd n d) }

-- whether exactly one of two holds
abbrev pub differ : Bool → Bool → Bool
differ true b = not b
differ false b = b

-- n/d in lowest terms, with its sign in the numerator
unfoldable pub lowest_terms : ℤ → ℤ → Terms
lowest_terms n d = lowest_of (differ (is_negative n) (is_negative d)) (unsigned_abs n) (unsigned_abs d)

-- a part passes 2^127 - 1 in size
abbrev pub HasWidePart : Terms → Type 0
HasWidePart x = (2 ^ 127 ≤ unsigned_abs x.num) ⊎ (2 ^ 127 ≤ unsigned_abs x.den)
