-- The one way to write a polynomial by its factors, as equations of lists.
use Rattle.std.proofs.Common.{◌≡◌, ℕ, zero, suc, ◌<◌, List, length, refl, sym, ◌∙◌, ap, arith, ℤ, pos, negsuc, unsigned_abs}
use Rattle.field_core.specs.Polynomial.{Same, IsNonZero}
use Rattle.eps_poly.specs.Factors.{content, order, signed_as, factor, lowered, from_factors, IsCore, core}
use Rattle.eps_poly.proofs.Coefficients.{same_polynomials, length-by_powers}
use Rattle.eps_poly.proofs.ContentLaws.{content_some}
use Rattle.eps_poly.proofs.FactorLaws.{factor_only, power_only, core_only}

pub length-lowered : (k : ℕ) (by : ℤ) (p : List ℤ) → length (lowered k by p) ≡ 33
unfolding lowered
length-lowered k by p = length-by_powers _

pub length-core : (p : List ℤ) → length (core p) ≡ 33
unfolding core
length-core p = length-lowered _ _ _

-- order, factor and core
pub record Is (p : List ℤ) (c : ℤ) (k : ℕ) (q : List ℤ) : Type 0 where
  pub order_of : order p ≡ k
  pub factor_of : factor p ≡ c
  pub core_of : core p ≡ q

pub only_core : (p q : List ℤ) (c : ℤ) (k : ℕ) → length p ≡ 33 → IsNonZero p → length q ≡ 33 → IsCore q → Same p (from_factors c k q)
    → Is p c k q
only_core p q c k long some count is same = record {
  order_of = sym (power_only p q c k long some is same);
  factor_of = sym (factor_only p q c k long some is same);
  core_of = same_polynomials (core p) q (length-core p ∙ sym count) (λ i h. sym (core_only p q c k long some is same i));
}

size_signed : (z : ℤ) (n : ℕ) → unsigned_abs (signed_as z n) ≡ n
size_signed (pos m) n = refl
size_signed (negsuc m) zero = refl
size_signed (negsuc m) (suc n) = refl

pub size-factor : (p : List ℤ) → unsigned_abs (factor p) ≡ content p
unfolding factor
size-factor p = size_signed _ (content p)

above_none : (n : ℕ) → 0 < n → n ≡ 0 → ⊥
above_none n h e = omega arith

-- the factor of what isn't 0 isn't 0
pub factor_some : (p : List ℤ) → IsNonZero p → ¬ (factor p ≡ pos 0)
factor_some p some e = above_none (content p) (content_some p some) (sym (size-factor p) ∙ ap unsigned_abs e)
