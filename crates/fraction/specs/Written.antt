-- The written operations on fractions, step by step. Each part that is written must be below 2^127 in size; if one isn't, the operation is undefined.
use Rattle.std.specs.Prelude.{suc, ℤ, pos, negsuc, neg_ℤ, ◌+ℤ◌, ◌*ℤ◌, int_div, Option, Some}
use Rattle.field_core.specs.Sized.{◌>>=◌, sized, gcd_of}
use Rattle.field_core.specs.Terms.{Terms}

-- n/d * n'/d', where a = gcd(n, d') and b = gcd(n', d): the numerator is (n/a) * (n'/b), the denominator (d/b) * (d'/a)
unfoldable pub written_mul : Terms → Terms → Option Terms
written_mul x y = do
  num ← sized (int_div x.num (gcd_of x.num y.den) *ℤ int_div y.num (gcd_of y.num x.den))
  den ← sized (int_div x.den (gcd_of y.num x.den) *ℤ int_div y.den (gcd_of x.num y.den))
  Some (record { num = num; den = den })

-- n/d + n'/d', where g = gcd(d, d'). First u = n * (d'/g), v = n' * (d/g) and t = u + v are written. Then, with h = gcd(t, g), the numerator is t/h
-- and the denominator (d/g) * (d'/h)
unfoldable pub written_add : Terms → Terms → Option Terms
written_add x y = do
  u ← sized (x.num *ℤ int_div y.den (gcd_of x.den y.den))
  v ← sized (y.num *ℤ int_div x.den (gcd_of x.den y.den))
  t ← sized (u +ℤ v)
  den ← sized (int_div x.den (gcd_of x.den y.den) *ℤ int_div y.den (gcd_of t (gcd_of x.den y.den)))
  Some (record { num = int_div t (gcd_of t (gcd_of x.den y.den)); den = den })

-- the fraction with the other sign
unfoldable pub opposite : Terms → Terms
opposite x = record { num = neg_ℤ x.num; den = x.den }

-- The inverse of a quotient that isn't 0; its sign is in the numerator.
abbrev pub inverse_of : ℤ → ℤ → Terms
inverse_of (pos n) d = record { num = d; den = pos n }
inverse_of (negsuc n) d = record { num = neg_ℤ d; den = pos (suc n) }

-- 1 over a fraction that isn't 0
unfoldable pub inverse : Terms → Terms
inverse x = inverse_of x.num x.den
