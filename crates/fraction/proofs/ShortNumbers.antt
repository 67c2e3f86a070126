-- A fraction in lowest terms is within each limit within which some fraction of its value is.
use Rattle.std.proofs.Common.{◌≡◌, sym, ap, ◌∙◌, subst, ℕ, suc, ◌≤◌, ◌*◌, arith, pos, ◌*ℤ◌, unsigned_abs}
use Rattle.std.specs.Int.{◌∣◌}
use Rattle.std.proofs.lemmas.Int.{unsigned_abs-mul}
use Rattle.std.proofs.lemmas.Nat.Gcd.{le_of_dvd}
use Rattle.std.proofs.Math.Nat.{dvd-mul_left, mul-le-mul_left, le_of_mul-le-mul_right}
use Rattle.field_core.specs.Number.{Number}
use Rattle.field_core.specs.Fractions.{fraction}
use Rattle.field_core.specs.Terms.{Terms, IsReduced}
use Rattle.field_core.specs.Kind.{Parts}
use Rattle.field_core.specs.Exact.{value_of}
use Rattle.field_core.specs.Laws.Effective.{fraction-cross, positive_nonzero}
use Rattle.field_core.proofs.Coprime.{apart_from_gcd, divides_other}
use Rattle.field_core.proofs.UnitLimits.{suc_not_zero}
use Rattle.fraction.specs.Plain.{IsFraction, pair_of}
use Rattle.fraction.specs.Within.{IsWithin}

module _ (x : Terms) (r : IsReduced x) (a d : ℕ) (same : x.num *ℤ pos (suc d) ≡ pos a *ℤ x.den) where
  cross : unsigned_abs x.num * suc d ≡ a * unsigned_abs x.den
  cross = sym (unsigned_abs-mul x.num (pos (suc d))) ∙ ap unsigned_abs same ∙ unsigned_abs-mul (pos a) x.den

  divides : unsigned_abs x.den ∣ suc d
  divides = divides_other (unsigned_abs x.den) (unsigned_abs x.num) (suc d) (apart_from_gcd (unsigned_abs x.num) (unsigned_abs x.den) r.reduced)
      (subst (λ n. unsigned_abs x.den ∣ n) (sym cross) (dvd-mul_left (unsigned_abs x.den) a))

  den_at_most : unsigned_abs x.den ≤ suc d
  den_at_most = le_of_dvd (omega arith) divides

  num_at_most : unsigned_abs x.num ≤ a
  num_at_most = le_of_mul-le-mul_right (subst (λ n. n ≤ a * suc d) (sym cross) (mul-le-mul_left a den_at_most)) (omega arith)

through : (a b c : ℕ) → a ≤ b → b ≤ c → a ≤ c
through a b c h k = omega (arith, h, k)

pub lowest_within : (n a d : ℕ) (x : Terms) → IsReduced x → fraction x.num x.den ≡ fraction (pos a) (pos (suc d)) → a ≤ n → suc d ≤ n
    → IsWithin n x
lowest_within n a d x r e h k =
    let same : x.num *ℤ pos (suc d) ≡ pos a *ℤ x.den =
    fraction-cross x.num x.den (pos a) (pos (suc d)) (positive_nonzero x.den r.positive) (suc_not_zero d) e in
    record { num = through _ a _ (num_at_most x r a d same) h; den = through _ (suc d) _ (den_at_most x r a d same) k }

-- ---- stored parts

-- a number is some fraction with parts of at most `n`
pub record IsNumberWithin (n : ℕ) (x : Number) : Type 0 where
  pub over : ℕ
  pub under : ℕ
  pub is : x ≡ fraction (pos over) (pos (suc under))
  pub over_within : over ≤ n
  pub under_within : suc under ≤ n

value_single : (x : Parts) → IsFraction x → value_of x ≡ fraction (pair_of x).num (pair_of x).den
unfolding value_of
value_single x f = ap value_of f.shape

pub stored_within : (n : ℕ) (x : Parts) → IsFraction x → IsNumberWithin n (value_of x) → IsWithin n (pair_of x)
stored_within n x f s = lowest_within n s.over s.under (pair_of x) f.reduced (sym (value_single x f) ∙ s.is) s.over_within s.under_within
