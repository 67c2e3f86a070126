-- Quotients by the greatest common divisor.
use Rattle.std.proofs.Common.{◌≡◌, ◌≢◌, ℕ, zero, suc, ◌*◌, ◌/◌, ◌<◌, ◌≤◌, Bool, true, false, refl, sym, ap, ◌∙◌, arith}
use Rattle.std.proofs.Common.{ℤ, pos, negsuc, neg_ℤ, ◌*ℤ◌, unsigned_abs}
use Rattle.std.proofs.lemmas.Int.{ints}
use Rattle.std.proofs.Math.Nat.{div-le_self, pos_of_dvd_of_pos, mul_comm, div-mul_cancel}
use Rattle.std.proofs.Math.IntN.{*ℤ_comm}
use Rattle.std.specs.Int.{is_negative}
use Rattle.field_core.specs.Divisor.{gcd}
use Rattle.field_core.specs.Terms.{Terms, IsReduced}
use Rattle.numerals.specs.Numeral.{Same, with_sign}
use Rattle.numerals.specs.Lowest.{lowest_of, differ, lowest_terms}
use Rattle.field_core.proofs.Wholes.{size_negated, not_negative, neg_times, size_some}
use Rattle.numerals.specs.Laws.Unique.{AreLowest, lowest_from, lowest_unique, same_through}
use Rattle.field_core.proofs.Divisors.{gcd_is}
use Rattle.field_core.proofs.Coprime.{gcd_bounds, gcd_from_apart, quotients_apart, quotient_divides}

-- two numbers divided by their greatest common divisor
pub record AreDivided (n d p q : ℕ) : Type 0 where
  pub apart : gcd p q ≡ 1
  pub some : 0 < q
  pub first : p ≤ n
  pub second : q ≤ d

pub divided : (n d : ℕ) → 0 < d → (0 < gcd n d) × AreDivided n d (n / gcd n d) (d / gcd n d)
divided n d some =
    let g : 0 < gcd n d = (gcd_bounds n d some).0 in (
      g,
      record {
        apart = gcd_from_apart _ _ (quotients_apart n d g);
        some = pos_of_dvd_of_pos (quotient_divides (gcd n d) (gcd_is n d).1) some;
        first = div-le_self n (gcd n d);
        second = div-le_self d (gcd n d);
      },
    )

pub abs_sign : (b : Bool) (n : ℕ) → unsigned_abs (with_sign b n) ≡ n
abs_sign true n = size_negated (pos n)
abs_sign false n = refl

-- ---- their values

pub sign_is : (z : ℤ) → z ≡ with_sign (is_negative z) (unsigned_abs z)
sign_is (pos n) = rw not_negative refl
sign_is (negsuc n) = refl

neg_both : (m n : ℕ) → neg_ℤ (pos m) *ℤ neg_ℤ (pos n) ≡ pos (m * n)
neg_both m zero = *ℤ_comm (neg_ℤ (pos m)) (pos 0) ∙ omega (arith, ints)
neg_both zero (suc n) = omega (arith, ints)
neg_both (suc m) (suc n) = refl

signed_cross : (s t : Bool) (p q a b : ℕ) → p * b ≡ a * q → with_sign (differ s t) p *ℤ with_sign t b ≡ with_sign s a *ℤ pos q
signed_cross false false p q a b e = ap pos e
signed_cross true false p q a b e = neg_times p b ∙ ap (λ n. neg_ℤ (pos n)) e ∙ sym (neg_times a q)
signed_cross false true p q a b e = neg_both p b ∙ ap pos e
signed_cross true true p q a b e = *ℤ_comm (pos p) (neg_ℤ (pos b)) ∙ neg_times b p ∙ ap (λ n. neg_ℤ (pos n)) (mul_comm b p ∙ e)
    ∙ sym (neg_times a q)

cross_four : (p q g n d : ℕ) → p * g ≡ n → q * g ≡ d → p * d ≡ n * q
cross_four p q g n d e f = rw (← e, ← f) (omega arith)

cross_divided : (n d : ℕ) → n / gcd n d * d ≡ n * (d / gcd n d)
cross_divided n d =
    let a : n / gcd n d * gcd n d ≡ n = div-mul_cancel (gcd n d) (gcd_is n d).0 in
    let b : d / gcd n d * gcd n d ≡ d = div-mul_cancel (gcd n d) (gcd_is n d).1 in
    cross_four (n / gcd n d) (d / gcd n d) (gcd n d) n d a b

pub lowest_cross : (n d : ℤ) → (lowest_terms n d).num *ℤ d ≡ n *ℤ (lowest_terms n d).den
unfolding lowest_terms lowest_of
lowest_cross n d =
    ap (λ z. with_sign (differ (is_negative n) (is_negative d)) (unsigned_abs n / gcd (unsigned_abs n) (unsigned_abs d)) *ℤ z) (sign_is d)
    ∙ signed_cross (is_negative n) (is_negative d) _ _ (unsigned_abs n) (unsigned_abs d) (cross_divided (unsigned_abs n) (unsigned_abs d))
    ∙ ap (λ z. z *ℤ pos (unsigned_abs d / gcd (unsigned_abs n) (unsigned_abs d))) (sym (sign_is n))

pub lowest_are : (n d : ℤ) → d ≢ pos 0 → AreLowest (lowest_terms n d)
unfolding lowest_terms lowest_of
lowest_are n d some =
    let both = (divided (unsigned_abs n) (unsigned_abs d) (size_some d some)).1 in
    record {
      positive = (let p = both.some in omega (arith, ints));
      apart = ap (λ k. gcd k (unsigned_abs d / gcd (unsigned_abs n) (unsigned_abs d)))
          (abs_sign (differ (is_negative n) (is_negative d)) (unsigned_abs n / gcd (unsigned_abs n) (unsigned_abs d))) ∙ both.apart;
    }

-- the lowest terms of any quotient with the value of a fraction are that fraction
pub lowest_any : (t : Terms) (n d : ℤ) → IsReduced t → d ≢ pos 0 → Same t (record { num = n; den = d }) → lowest_terms n d ≡ t
lowest_any t n d r some h =
    lowest_unique (lowest_terms n d) t (lowest_are n d some) (lowest_from t r)
    (same_through (lowest_terms n d) t (record { num = n; den = d }) some (lowest_cross n d) h)
