-- Quotients of whole numbers that leave no remainder.
use Rattle.std.proofs.Common.{◌≡◌, ◌≢◌, zero, suc, ◌*◌, ◌/◌, ◌<◌, ◌≤◌, refl, sym, ◌∙◌, ap, arith, ℤ, pos, negsuc}
use Rattle.std.proofs.Common.{◌+ℤ◌, ◌*ℤ◌, neg_ℤ, unsigned_abs, int_div, int_rem, inl, inr}
use Rattle.std.proofs.lemmas.Bool.{cases_lt}
use Rattle.std.proofs.lemmas.Int.{ints, quot-rem, rem_below, unsigned_abs-mul}
use Rattle.std.proofs.Math.Nat.{mul-le-mul_right}
use lib.IntN.{+ℤ_idr}
use Rattle.field_core.proofs.IntegerRing.{int_distribute_right}
use Rattle.field_core.proofs.Wholes.{size_some, size_none}

-- a multiple that is smaller in size is 0
small_multiple : (y d : ℤ) → unsigned_abs (y *ℤ d) < unsigned_abs d → y ≡ pos 0
small_multiple y d h = elim (cases_lt 0 (unsigned_abs y)) [
  | inl some ↦ let large : 1 * unsigned_abs d ≤ unsigned_abs y * unsigned_abs d = mul-le-mul_right (unsigned_abs d) some in let product =
      unsigned_abs-mul y d in absurd (omega arith)
  | inr none ↦ size_none y (omega arith)
]

difference_times : (x q d : ℤ) → (x +ℤ neg_ℤ q) *ℤ d +ℤ q *ℤ d ≡ x *ℤ d
difference_times x q d = sym (int_distribute_right (x +ℤ neg_ℤ q) q d) ∙ ap (λ a. a *ℤ d) (cancel x q)
  where
    cancel : (x q : ℤ) → (x +ℤ neg_ℤ q) +ℤ q ≡ x
    cancel x q = omega (arith, ints)

left_over : (a b c r : ℤ) → a +ℤ b ≡ c → b +ℤ r ≡ c → a ≡ r
left_over a b c r e f = omega (arith, ints)

from_difference : (x q : ℤ) → x +ℤ neg_ℤ q ≡ pos 0 → q ≡ x
from_difference x q e = omega (arith, ints)

-- a multiple of d, divided by d
pub int_div_exact : (x d : ℤ) → d ≢ pos 0 → int_div (x *ℤ d) d ≡ x
int_div_exact x d some =
    let q = int_div (x *ℤ d) d in
    let y = x +ℤ neg_ℤ q in
    let is : y *ℤ d ≡ int_rem (x *ℤ d) d = left_over (y *ℤ d) (q *ℤ d) (x *ℤ d) (int_rem (x *ℤ d) d) (difference_times x q d)
    (quot-rem (x *ℤ d) d) in
    from_difference x q (small_multiple y d (rw is (rem_below (x *ℤ d) d (size_some d some))))

pub int_rem_exact : (x d : ℤ) → d ≢ pos 0 → int_rem (x *ℤ d) d ≡ pos 0
int_rem_exact x d some = rest (x *ℤ d) (int_rem (x *ℤ d) d) (rw (int_div_exact x d some) at (quot-rem (x *ℤ d) d))
  where
    rest : (a r : ℤ) → a +ℤ r ≡ a → r ≡ pos 0
    rest a r e = omega (arith, ints)

pub int_div-zero : (d : ℤ) → int_div (pos 0) d ≡ pos 0
int_div-zero (pos zero) = omega (arith, ints)
int_div-zero (pos (suc n)) = omega (arith, ints)
int_div-zero (negsuc n) = let none : 0 / suc n ≡ 0 = omega arith in rw none refl

-- a quotient without remainder
pub no_remainder : (a d : ℤ) → int_rem a d ≡ pos 0 → int_div a d *ℤ d ≡ a
no_remainder a d e = sym (+ℤ_idr (int_div a d *ℤ d)) ∙ ap (λ r. int_div a d *ℤ d +ℤ r) (sym e) ∙ quot-rem a d
