-- One value has one pair of lowest terms.
use Rattle.std.proofs.Common.{◌≡◌, ◌≢◌, ◌*◌, pos, ◌*ℤ◌, ◌<ℤ◌, unsigned_abs, sym, ap, ap₂, subst, ◌∙◌}
use Rattle.std.specs.Int.{◌∣◌}
use Rattle.std.proofs.lemmas.Int.{unsigned_abs-mul}
use Rattle.std.proofs.lemmas.Nat.Gcd.{dvd_antisymm}
use Rattle.std.proofs.Math.Nat.{dvd-mul_left}
use Rattle.field_core.specs.Divisor.{gcd}
use Rattle.field_core.specs.Terms.{Terms, IsReduced}
use Rattle.field_core.specs.Laws.Effective.{positive_nonzero}
use Rattle.field_core.proofs.Coprime.{apart_from_gcd, divides_other}
use Rattle.field_core.proofs.IntegerRing.{ring, *ℤ_cancel}
use Rattle.field_core.proofs.Wholes.{same_by_size}
use Rattle.numerals.specs.Numeral.{Same}

-- lowest terms of any size
pub record AreLowest (x : Terms) : Type 0 where
  pub positive : pos 0 <ℤ x.den
  pub apart : gcd (unsigned_abs x.num) (unsigned_abs x.den) ≡ 1

abs_cross : (x y : Terms) → Same x y → unsigned_abs x.num * unsigned_abs y.den ≡ unsigned_abs y.num * unsigned_abs x.den
abs_cross x y h = sym (unsigned_abs-mul x.num y.den) ∙ ap unsigned_abs h ∙ unsigned_abs-mul y.num x.den

den_divides : (x y : Terms) → AreLowest x → Same x y → unsigned_abs x.den ∣ unsigned_abs y.den
den_divides x y r h =
    divides_other (unsigned_abs x.den) (unsigned_abs x.num) (unsigned_abs y.den) (apart_from_gcd (unsigned_abs x.num) (unsigned_abs x.den) r.apart)
    (subst (λ n. unsigned_abs x.den ∣ n) (sym (abs_cross x y h)) (dvd-mul_left (unsigned_abs x.den) (unsigned_abs y.num)))

pub lowest_unique : (x y : Terms) → AreLowest x → AreLowest y → Same x y → x ≡ y
lowest_unique x y r s h =
    let den : x.den ≡ y.den = same_by_size x.den y.den r.positive s.positive (dvd_antisymm (den_divides x y r h) (den_divides y x s (sym h))) in
    let num : x.num ≡ y.num = *ℤ_cancel x.num y.num x.den (positive_nonzero x.den r.positive) (subst (λ d. x.num *ℤ d ≡ y.num *ℤ x.den) (sym den) h)
    in
    ap₂ (λ n d. record { num = n; den = d }) num den

pub lowest_from : (x : Terms) → IsReduced x → AreLowest x
lowest_from x r = record { positive = r.positive; apart = r.reduced }

pub reduced_unique : (x y : Terms) → IsReduced x → IsReduced y → Same x y → x ≡ y
reduced_unique x y r s h = lowest_unique x y (lowest_from x r) (lowest_from y s) h

-- two values that are equal to a third
pub same_through : (x y v : Terms) → v.den ≢ pos 0 → Same x v → Same y v → Same x y
same_through x y v some h k =
    let left : (x.num *ℤ y.den) *ℤ v.den ≡ (x.num *ℤ v.den) *ℤ y.den = simp ring in
    let right : (y.num *ℤ x.den) *ℤ v.den ≡ (y.num *ℤ v.den) *ℤ x.den = simp ring in
    let middle : (v.num *ℤ x.den) *ℤ y.den ≡ (v.num *ℤ y.den) *ℤ x.den = simp ring in
    *ℤ_cancel (x.num *ℤ y.den) (y.num *ℤ x.den) v.den some (left ∙ ap (λ z. z *ℤ y.den) h ∙ middle ∙ sym (ap (λ z. z *ℤ x.den) k)
    ∙ sym right)
