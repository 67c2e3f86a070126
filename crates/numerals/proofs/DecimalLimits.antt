-- The limit of a decimal's digits is that of numerals.
use Rattle.std.proofs.Common.{◌≡◌, ℕ, ◌-◌, ◌<◌, ◌++◌, ◌⊎◌, Bool, true, false, inl, inr, List, length, ℤ, pos, ◌-ℤ◌}
use Rattle.std.proofs.Common.{◌<ℤ◌, refl, arith}
use Rattle.std.specs.Prelude.{nat_lt, int_lt, ◌||◌, ◌&&◌}
use Rattle.std.specs.Bool.{Decides}
use Rattle.std.proofs.lemmas.Int.{ints}
use Rattle.std.proofs.lemmas.Bool.Decides.{Decides-ltb, Decides-and, Decides-or, Decides-like}
use Rattle.numerals.specs.Numeral.{Body, Plain, Pointed, Pair, exponent_of, without_leading_zeros, trailing_zeros, PassesLimit, IsTooLong, HasTooManyDigits}
use Rattle.numerals.specs.Decimals.{passes_limit, is_too_long, has_too_many_digits}

below_by : (a b : ℤ) (t : Bool) → int_lt a b ≡ t → a <ℤ b → t ≡ true
below_by a b true e h = refl
below_by a b false e h = absurd (omega (arith, ints))

decides_below : (a b : ℤ) → Decides (int_lt a b) (a <ℤ b)
decides_below a b = (λ e. omega (arith, ints), λ h. below_by a b (int_lt a b) refl h)

decides_limit : (n : ℕ) (s : ℤ) → Decides (passes_limit n s) (PassesLimit n s)
decides_limit n s =
    Decides-like (passes_limit n s)
    (λ (h : ((38 < n) ⊎ (pos 38 <ℤ s)) ⊎ ((s <ℤ pos 0) × (pos 38 <ℤ (pos n -ℤ s)))). elim h
    [ inl g ↦ elim g [ inl x ↦ inl x | inr x ↦ inr (inl x) ] | inr x ↦ inr (inr x) ])
    (λ h. elim h [ inl x ↦ inl (inl x) | inr g ↦ elim g [ inl x ↦ inl (inr x) | inr x ↦ inr x ] ])
    (Decides-or (nat_lt 38 n || int_lt (pos 38) s) (int_lt s (pos 0) && int_lt (pos 38) (pos n -ℤ s))
    (Decides-or (nat_lt 38 n) (int_lt (pos 38) s) (Decides-ltb 38 n) (decides_below (pos 38) s))
    (Decides-and (int_lt s (pos 0)) (int_lt (pos 38) (pos n -ℤ s)) (decides_below s (pos 0)) (decides_below (pos 38) (pos n -ℤ s))))

decides_long : (digits : List ℕ) (s : ℤ) → Decides (is_too_long digits s) (IsTooLong digits s)
unfolding IsTooLong
decides_long digits s =
    Decides-and (nat_lt 0 (length digits)) (passes_limit (length digits - trailing_zeros digits) (s -ℤ pos (trailing_zeros digits)))
    (Decides-ltb 0 (length digits)) (decides_limit (length digits - trailing_zeros digits) (s -ℤ pos (trailing_zeros digits)))

pub decides_too_many : (body : Body) → Decides (has_too_many_digits body) (HasTooManyDigits body)
unfolding has_too_many_digits HasTooManyDigits
decides_too_many (Plain whole e) = decides_long (without_leading_zeros whole) (pos 0 -ℤ exponent_of e)
decides_too_many (Pointed whole fraction e) = decides_long (without_leading_zeros (whole ++ fraction)) (pos (length fraction) -ℤ exponent_of e)
decides_too_many (Pair over under) = Decides-or (nat_lt 38 (length (without_leading_zeros over))) (nat_lt 38 (length (without_leading_zeros under)))
    (Decides-ltb 38 (length (without_leading_zeros over))) (Decides-ltb 38 (length (without_leading_zeros under)))
