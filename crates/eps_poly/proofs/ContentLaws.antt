-- The greatest common divisor of coefficients.
use Rattle.std.proofs.Common.{◌≡◌, ℕ, zero, suc, ◌+◌, ◌<◌, ◌≤◌, ◌^◌, List, [], ◌∷◌, length, sym, ◌∙◌, ap, arith, ℤ, pos}
use Rattle.std.proofs.Common.{unsigned_abs, get_or, drop, ◌-◌, lit<}
use lib.IntN.{ℤ_discrete}
use Rattle.std.proofs.lemmas.List.{drop_more}
use Rattle.std.specs.Int.{◌∣◌}
use Rattle.std.proofs.lemmas.Nat.Gcd.{dvd_trans, dvd-zero, le_of_dvd}
use Rattle.std.proofs.Math.Nat.{pos_of_dvd_of_pos, eq-zero_of_zero-dvd}
use Rattle.field_core.specs.Divisor.{gcd}
use Rattle.field_core.specs.Polynomial.{coefficient, lowest, IsNonZero}
use Rattle.field_core.proofs.Divisors.{gcd_is}
use Rattle.field_core.specs.Laws.PolynomialLaws.{lowest-none, coefficient-index}
use Rattle.eps_poly.specs.Factors.{content, order}
use Rattle.eps_poly.proofs.Coefficients.{coefficient-past, coefficient-drop}
use Rattle.eps_poly.proofs.OrderLaws.{coefficient-order}
use Rattle.field_core.proofs.Wholes.{size_some}

-- it divides each coefficient
pub content_divides : (p : List ℤ) (k : ℕ) → content p ∣ unsigned_abs (coefficient p k)
unfolding content coefficient
content_divides [] k = dvd-zero 0
content_divides (c ∷ p) zero = (gcd_is (unsigned_abs c) (content p)).0
content_divides (c ∷ p) (suc k) = dvd_trans (gcd (unsigned_abs c) (content p)) (gcd_is (unsigned_abs c) (content p)).1 (content_divides p k)

-- and what divides each coefficient divides it
pub content_greatest : (p : List ℤ) (d : ℕ) → ((k : ℕ) → d ∣ unsigned_abs (coefficient p k)) → d ∣ content p
unfolding content coefficient
content_greatest [] d h = h 0
content_greatest (c ∷ p) d h = (gcd_is (unsigned_abs c) (content p)).2 d (h 0) (content_greatest p d (λ k. h (suc k)))

pub content_some : (p : List ℤ) → IsNonZero p → 0 < content p
content_some p some =
    pos_of_dvd_of_pos (content_divides p (order p)) (rw (coefficient-order p) (size_some (lowest p) some))

pub content_zeros : (p : List ℤ) → ((k : ℕ) → coefficient p k ≡ pos 0) → content p ≡ 0
content_zeros p none = eq-zero_of_zero-dvd (content_greatest p 0 (λ k. rw (none k) (dvd-zero 0)))

pub content_none : (p : List ℤ) → lowest p ≡ pos 0 → content p ≡ 0
content_none p none = content_zeros p (λ k. lowest-none p none k ∙ coefficient-past [] k (omega arith))

pub content_small : (p : List ℤ) → ((k : ℕ) → unsigned_abs (coefficient p k) < 2 ^ 127) → content p < 2 ^ 127
content_small p small = elim (ℤ_discrete (lowest p) (pos 0)) [
  | yes none ↦ rw (content_none p none) (lit< tt)
  | no some ↦ let here = small (order p) in
      let least = le_of_dvd (rw (coefficient-order p) (size_some (lowest p) some)) (content_divides p (order p)) in omega arith
]

-- a loop that takes in the coefficients of descending powers
pub content_end : (p : List ℤ) (n : ℕ) → ((k : ℕ) → n ≤ k → coefficient p k ≡ pos 0) → 0 ≡ content (drop n p)
content_end p n none = sym (content_zeros (drop n p) (λ k. coefficient-drop p n k ∙ none (k + n) (omega arith)))

pub content_more : (p : List ℤ) (n : ℕ) (size divisor result : ℕ) → 0 < n → n ≤ length p → divisor ≡ content (drop n p)
    → size ≡ unsigned_abs (coefficient p (n - 1)) → result ≡ gcd size divisor → result ≡ content (drop (n - 1) p)
unfolding content
content_more p n size divisor result some within d e f =
    let next : (n - 1) + 1 ≡ n = omega arith in
    let read = coefficient-index p (n - 1) (pos 0) (omega arith) in
    f ∙ rw (e, d, read) (sym (ap content (drop_more p (n - 1) (pos 0) (omega arith) ∙ ap (λ m. get_or p (n - 1) (pos 0) ∷ drop m p) next)))

-- what has no common divisor above a power has none at all
pub content_one : (p : List ℤ) (n divisor : ℕ) → divisor ≡ content (drop n p) → divisor ≡ 1 → 1 ≡ content p
content_one p n divisor d e =
    let whole : content p ∣ 1 = rw (← e, d) (content_greatest (drop n p) (content p) (λ k. rw (coefficient-drop p n k) (content_divides p (k + n)))) in
    let most = le_of_dvd (omega arith) whole in
    let least = pos_of_dvd_of_pos whole (omega arith) in
    omega arith
