-- Sizes, signs and quotients of whole numbers.
use Rattle.std.proofs.Common.{◌≡◌, ℕ, zero, suc, ◌*◌, ◌/◌, ◌<◌, ℤ, pos, negsuc, neg_ℤ, ◌-ℤ◌, ◌*ℤ◌, ◌<ℤ◌, unsigned_abs}
use Rattle.std.proofs.Common.{int_div, true, false, ◌≢◌, refl, sym, ap, ◌∙◌, arith}
use Rattle.std.specs.Int.{◌∣◌, is_negative}
use Rattle.std.specs.Ordering.{int_cmp}
use Rattle.std.proofs.lemmas.Bool.{le-ltb}
use Rattle.std.proofs.lemmas.Int.{ints}
use Rattle.std.proofs.Math.Nat.{div-one, div-mul_cancel, pos_of_dvd_of_pos, zero-mul}
use Rattle.field_core.specs.Kind.{is_zero_integer}
use Rattle.field_core.specs.Polynomial.{int_sign}
use Rattle.field_core.specs.Laws.Effective.{int_sign-difference}
use Rattle.field_core.proofs.Coprime.{quotient_divides}

-- ---- sizes

pub size_negated : (z : ℤ) → unsigned_abs (neg_ℤ z) ≡ unsigned_abs z
size_negated (pos zero) = refl
size_negated (pos (suc n)) = refl
size_negated (negsuc n) = refl

pub size_quotient : (z : ℤ) (g : ℕ) → unsigned_abs (int_div z (pos g)) ≡ unsigned_abs z / g
size_quotient (pos n) g = refl
size_quotient (negsuc n) g = size_negated (pos (suc n / g))

pub size_some : (z : ℤ) → z ≢ pos 0 → 0 < unsigned_abs z
size_some z h = omega (arith, ints, h)

pub size_none : (z : ℤ) → unsigned_abs z ≡ 0 → z ≡ pos 0
size_none z h = omega (arith, ints)

pub size_positive : (z : ℤ) → pos 0 <ℤ z → 0 < unsigned_abs z
size_positive z h = omega (arith, ints)

pub positive_is : (z : ℤ) → pos 0 <ℤ z → z ≡ pos (unsigned_abs z)
positive_is z h = omega (arith, ints)

pub one_of_size : (z : ℤ) → pos 0 <ℤ z → unsigned_abs z ≡ 1 → z ≡ pos 1
one_of_size z h e = omega (arith, ints)

pub same_by_size : (m n : ℤ) → pos 0 <ℤ m → pos 0 <ℤ n → unsigned_abs m ≡ unsigned_abs n → m ≡ n
same_by_size m n p q e = omega (arith, ints)

-- ---- signs

pub not_negative : (n : ℕ) → is_negative (pos n) ≡ false
not_negative n = le-ltb n 0 (omega arith)

pub is_zero_true : (z : ℤ) → is_zero_integer z ≡ true → z ≡ pos 0
is_zero_true (pos zero) e = refl
is_zero_true (pos (suc n)) e = cc
is_zero_true (negsuc n) e = cc

pub is_zero_false : (z : ℤ) → is_zero_integer z ≡ false → z ≢ pos 0
is_zero_false (pos zero) e same = cc
is_zero_false (pos (suc n)) e same = cc
is_zero_false (negsuc n) e same = cc

pub less_nothing : (z : ℤ) → z -ℤ pos 0 ≡ z
less_nothing z = omega (arith, ints)

-- a whole number compares with 0 as its sign says
pub cmp_zero : (z : ℤ) → int_cmp z (pos 0) ≡ int_sign z
cmp_zero z = sym (int_sign-difference z (pos 0)) ∙ ap int_sign (less_nothing z)

-- ---- quotients

pub over_one : (z : ℤ) → int_div z (pos 1) ≡ z
over_one (pos n) = ap pos (div-one n)
over_one (negsuc n) = ap (λ k. neg_ℤ (pos k)) (div-one (suc n))

pub quotient_positive : (z : ℤ) (g : ℕ) → pos 0 <ℤ z → g ∣ unsigned_abs z → pos 0 <ℤ int_div z (pos g)
quotient_positive (pos n) g h d = let q = pos_of_dvd_of_pos (quotient_divides g d) (size_positive (pos n) h) in omega (arith, ints)
quotient_positive (negsuc n) g h d = absurd (omega (arith, ints))

pub neg_times : (m g : ℕ) → neg_ℤ (pos m) *ℤ pos g ≡ neg_ℤ (pos (m * g))
neg_times zero g = rw (zero-mul g) (omega (arith, ints))
neg_times (suc m) g = omega (arith, ints)

-- the quotient by a divisor, times the divisor
pub quotient_times : (z : ℤ) (g : ℕ) → g ∣ unsigned_abs z → int_div z (pos g) *ℤ pos g ≡ z
quotient_times (pos n) g d = let e = div-mul_cancel g d in omega (arith, ints)
quotient_times (negsuc n) g d = neg_times (suc n / g) g ∙ ap (λ m. neg_ℤ (pos m)) (div-mul_cancel g d)
