-- Tests of fractions by their parts.
use Rattle.std.specs.Prelude.{◌&&◌, ℕ, Bool, pos, nat_le, unsigned_abs}
use Rattle.std.specs.Ordering.{int_eq}
use Rattle.field_core.specs.Terms.{Terms}

-- whether the fraction is 0
abbrev pub is_zero : Terms → Bool
is_zero t = int_eq t.num (pos 0)

-- whether the fraction is 1
abbrev pub is_one : Terms → Bool
is_one t = int_eq t.num (pos 1) && int_eq t.den (pos 1)

-- whether both parts are at most the limit in size
abbrev pub is_within : ℕ → Terms → Bool
is_within limit t = nat_le (unsigned_abs t.num) limit && nat_le (unsigned_abs t.den) limit

-- the fraction without its sign
abbrev pub absolute : Terms → Terms
absolute t = record { num = pos (unsigned_abs t.num); den = t.den }
