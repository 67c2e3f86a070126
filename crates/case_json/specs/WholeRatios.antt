-- Whole numbers below 2^64 in size, as ratios.
use Rattle.std.specs.Prelude.{◌≡◌, ◌<◌, ◌^◌, ℕ, ℤ, pos, unsigned_abs, Bool, true, false, nat_lt, refl, Option, Some, None}
use Rattle.std.proofs.Common.{arith, lit<}
use Rattle.std.proofs.lemmas.Bool.{ltb-true}
use Rattle.std.proofs.lemmas.Int.{ints}
use Rattle.field_core.specs.Terms.{IsReduced}
use Rattle.field_core.specs.declared.ratio.Ratio.{Ratio}
use Rattle.field_core.proofs.Coprime.{gcd_one}

narrow : (n : ℕ) → n < 2 ^ 64 → n < 2 ^ 127
narrow n small = omega (arith, small)

-- (it is in lowest terms over 1)
pub whole_reduced : (z : ℤ) → unsigned_abs z < 2 ^ 64 → IsReduced (record { num = z; den = pos 1 })
whole_reduced z small = record {
  positive = omega (arith, ints);
  num_size = narrow (unsigned_abs z) small;
  den_size = lit< tt;
  reduced = gcd_one (unsigned_abs z);
}

abbrev pub whole_by : (z : ℤ) (b : Bool) → nat_lt (unsigned_abs z) (2 ^ 64) ≡ b → Option Ratio
whole_by z true small = Some (record { num = z; den = pos 1; valid = whole_reduced z (ltb-true (unsigned_abs z) (2 ^ 64) small) })
whole_by z false large = None

-- the whole number over 1; none if it is 2^64 or more in size, which no whole number is that `serde_json` reads as an integer
unfoldable pub whole_ratio : ℤ → Option Ratio
whole_ratio z = whole_by z (nat_lt (unsigned_abs z) (2 ^ 64)) refl
