-- Quotients of whole numbers, as fractions in lowest terms.
use Rattle.std.specs.Prelude.{◌≡◌, refl, ℕ, ◌^◌, ◌<◌, ◌&&◌, ◌==◌, Bool, true, false, ℤ, pos, nat_lt, unsigned_abs}
use Rattle.std.proofs.Common.{arith}
use Rattle.std.proofs.lemmas.Int.{ints}
use Rattle.std.proofs.lemmas.Bool.Decides.{nat_tests}
use Rattle.field_core.specs.Divisor.{gcd}
use Rattle.field_core.specs.Terms.{IsReduced}
use Rattle.field_core.specs.declared.ratio.Ratio.{Ratio}
use Rattle.numerals.specs.Lowest.{lowest_terms}
use Rattle.case_model.specs.Sums.{zero_ratio}

-- whether two numbers have no common divisor above 1, the second isn't 0, and both are below 2^127 in size
abbrev pub are_lowest : ℤ → ℕ → Bool
are_lowest n d = nat_lt 0 d && (nat_lt (unsigned_abs n) (2 ^ 127) && (nat_lt d (2 ^ 127) && gcd (unsigned_abs n) d == 1))

-- (such numbers are the terms of a fraction)
pub lowest_reduced : (n : ℤ) (d : ℕ) → are_lowest n d ≡ true → IsReduced (record { num = n; den = pos d })
lowest_reduced n d e =
    let some : 0 < d = grind (arith, nat_tests) in
    record {
      positive = omega (arith, ints, some);
      num_size = grind (arith, nat_tests);
      den_size = grind (arith, nat_tests);
      reduced = grind (arith, nat_tests);
    }

-- the fraction with these terms; 0 if they aren't lowest terms
abbrev pub ratio_by : (n : ℤ) (d : ℕ) (b : Bool) → are_lowest n d ≡ b → Ratio
ratio_by n d true e = record { num = n; den = pos d; valid = lowest_reduced n d e }
ratio_by n d false e = zero_ratio

unfoldable pub ratio_of : ℤ → ℕ → Ratio
ratio_of n d = ratio_by n d (are_lowest n d) refl

-- n/d in lowest terms, for a `d` above 0
unfoldable pub quotient : ℤ → ℕ → Ratio
quotient n d = ratio_of (lowest_terms n (pos d)).num (unsigned_abs (lowest_terms n (pos d)).den)
