-- Numbers and polynomials with the sign of a number.
use Rattle.std.proofs.Common.{◌≡◌, ◌↔◌, ℕ, Bool, false, IsTrue, List, refl, arith, ℤ, pos, negsuc, neg_ℤ, ◌<ℤ◌}
use Rattle.std.proofs.lemmas.Int.{ints}
use Rattle.field_core.specs.Polynomial.{poly_negate}
use Rattle.eps_poly.specs.Factors.{signed_as, turned_as}

pub signed_below : (c : ℤ) (n : ℕ) → c <ℤ pos 0 → signed_as c n ≡ neg_ℤ (pos n)
signed_below (pos c) n h = absurd (omega (arith, ints))
signed_below (negsuc c) n h = refl

pub signed_above : (c : ℤ) (n : ℕ) → ¬ (c <ℤ pos 0) → signed_as c n ≡ pos n
signed_above (pos c) n h = refl
signed_above (negsuc c) n h = absurd (h (omega (arith, ints)))

pub turned_below : (c : ℤ) (p : List ℤ) → c <ℤ pos 0 → turned_as c p ≡ poly_negate p
turned_below (pos c) p h = absurd (omega (arith, ints))
turned_below (negsuc c) p h = refl

pub turned_above : (c : ℤ) (p : List ℤ) → ¬ (c <ℤ pos 0) → turned_as c p ≡ p
turned_above (pos c) p h = refl
turned_above (negsuc c) p h = absurd (h (omega (arith, ints)))

-- what the code tests
pub not_below : (b : Bool) (c : ℤ) → (IsTrue b ↔ (c <ℤ pos 0)) → b ≡ false → ¬ (c <ℤ pos 0)
not_below b c test e h = let yes_it_is = test.1 h in cc
