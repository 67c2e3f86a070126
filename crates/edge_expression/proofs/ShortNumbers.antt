-- The numbers that short fractions are.
use Rattle.std.proofs.Common.{◌≡◌, ◌≢◌, zero, suc, ◌^◌, Bool, true, false, cond, nat_le, ℤ, pos, negsuc, ◌+ℤ◌, ◌-ℤ◌, ◌*ℤ◌}
use Rattle.std.proofs.Common.{◌<ℤ◌, unsigned_abs, Ok, Err, refl, sym, ap, subst, ◌∙◌, arith}
use Rattle.std.specs.declared.cmp.Ordering.TheVariants.{Equal}
use Rattle.std.proofs.lemmas.Int.{ints}
use Rattle.std.proofs.lemmas.Bool.Decides.{nat_tests}
use Rattle.field_core.specs.Terms.{Terms, IsReduced}
use Rattle.field_core.specs.Number.{Number as Value}
use Rattle.field_core.specs.Arithmetic.{number_zero, number_sign, ◌+ε◌, ◌-ε◌, ◌*ε◌, ◌/ε◌}
use Rattle.field_core.specs.Polynomial.{int_sign}
use Rattle.field_core.specs.Fractions.{fraction}
use Rattle.field_core.specs.Laws.FractionLaws.{fraction-equal, fraction-add, fraction-multiply, fraction-sign}
use Rattle.field_core.specs.Laws.NumberLaws.{number_sign_zero}
use Rattle.field_core.specs.Laws.Order.{subtract_equal, divide_unique}
use Rattle.field_core.specs.Laws.PolynomialLaws.{product_nonzero}
use Rattle.field_core.specs.Laws.Effective.{positive_nonzero}
use Rattle.field_core.proofs.IntegerRing.{ring}
use Rattle.numerals.specs.Laws.Unique.{AreLowest}
use Rattle.fraction.specs.Within.{IsWithin}
use Rattle.numerals.specs.Lowest.{lowest_terms}
use Rattle.numerals.proofs.LowestTerms.{lowest_are, lowest_cross}
use Rattle.case_model.specs.Sums.{number}
use Rattle.edge_expression.specs.declared.value_fault.ValueFault.TheVariants.{Part}
use Rattle.edge_expression.specs.EntryValues.{is_short, short_of, short, sum, difference, product, quotient}
use Rattle.case_model.proofs.Holding.{both}

-- in lowest terms, and this number
pub record IsNumber (t : Terms) (v : Value) : Type 0 where
  pub reduced : IsReduced t
  pub is : number t ≡ v

lowest_value : (n d : ℤ) → d ≢ pos 0 → number (lowest_terms n d) ≡ fraction n d
lowest_value n d some =
    let low = lowest_terms n d in
    fraction-equal low.num low.den n d (positive_nonzero low.den (lowest_are n d some).positive) some (lowest_cross n d)

pub short_parts : (t : Terms) → is_short t ≡ true → IsWithin (10 ^ 18) t
short_parts t s =
    let b = both (nat_le (unsigned_abs t.num) (10 ^ 18)) (nat_le (unsigned_abs t.den) (10 ^ 18)) s in
    record { num = grind (arith, nat_tests, b.left); den = grind (arith, nat_tests, b.right) }

short_reduced : (t : Terms) → AreLowest t → is_short t ≡ true → IsReduced t
short_reduced t low s = let p = short_parts t s in
    record { positive = low.positive; num_size = omega (arith, p.num); den_size = omega (arith, p.den); reduced = low.apart }

made_by : (b : Bool) (t l : Terms) → cond b (Ok l) (Err Part) ≡ Ok t → (b ≡ true) × (l ≡ t)
made_by true t l h = (refl, (cc))
made_by false t l h = absurd cc

pub short_number : (n d : ℤ) (t : Terms) → d ≢ pos 0 → short n d ≡ Ok t → IsNumber t (fraction n d)
unfolding short short_of
short_number n d t h e =
    let low = lowest_terms n d in
    let made = made_by (is_short low) t low e in
    subst (λ u. IsNumber u (fraction n d)) made.1 (record { reduced = short_reduced low (lowest_are n d h) made.0; is = lowest_value n d h })

-- ---- operations

product_some : (a b : ℤ) → pos 0 <ℤ a → pos 0 <ℤ b → a *ℤ b ≢ pos 0
product_some a b h k = product_nonzero a b (positive_nonzero a h) (positive_nonzero b k)

as_value : (t : Terms) (v w : Value) → v ≡ w → IsNumber t v → IsNumber t w
as_value t v w e h = record { reduced = h.reduced; is = h.is ∙ e }

pub sum_number : (x y t : Terms) → pos 0 <ℤ x.den → pos 0 <ℤ y.den → sum x y ≡ Ok t → IsNumber t (number x +ε number y)
sum_number x y t h k e =
    as_value t _ _ (sym (fraction-add x.num x.den y.num y.den (positive_nonzero x.den h) (positive_nonzero y.den k)))
    (short_number _ _ t (product_some x.den y.den h k) e)

pub product_number : (x y t : Terms) → pos 0 <ℤ x.den → pos 0 <ℤ y.den → product x y ≡ Ok t → IsNumber t (number x *ε number y)
product_number x y t h k e =
    as_value t _ _ (sym (fraction-multiply x.num x.den y.num y.den (positive_nonzero x.den h) (positive_nonzero y.den k)))
    (short_number _ _ t (product_some x.den y.den h k) e)

back : (a b : ℤ) → (a -ℤ b) +ℤ b ≡ a
back a b = omega (arith, ints)

difference_cross : (n d m e c : ℤ) → c +ℤ m *ℤ d ≡ n *ℤ e → (c *ℤ e +ℤ m *ℤ (d *ℤ e)) *ℤ d ≡ n *ℤ ((d *ℤ e) *ℤ e)
difference_cross n d m e c h =
    let left : (c *ℤ e +ℤ m *ℤ (d *ℤ e)) *ℤ d ≡ (c +ℤ m *ℤ d) *ℤ (e *ℤ d) = simp ring in
    let right : (n *ℤ e) *ℤ (e *ℤ d) ≡ n *ℤ ((d *ℤ e) *ℤ e) = simp ring in
    left ∙ ap (λ z. z *ℤ (e *ℤ d)) h ∙ right

pub difference_number : (x y t : Terms) → pos 0 <ℤ x.den → pos 0 <ℤ y.den → difference x y ≡ Ok t → IsNumber t (number x -ε number y)
difference_number x y t h k e =
    let c = x.num *ℤ y.den -ℤ y.num *ℤ x.den in
    let some = product_some x.den y.den h k in
    let whole : fraction c (x.den *ℤ y.den) +ε number y ≡ number x = fraction-add c (x.den *ℤ y.den) y.num y.den some (positive_nonzero y.den k)
    ∙ fraction-equal (c *ℤ y.den +ℤ y.num *ℤ (x.den *ℤ y.den)) ((x.den *ℤ y.den) *ℤ y.den) x.num x.den
    (product_nonzero (x.den *ℤ y.den) y.den some (positive_nonzero y.den k)) (positive_nonzero x.den h)
    (difference_cross x.num x.den y.num y.den c (back (x.num *ℤ y.den) (y.num *ℤ x.den))) in
    as_value t _ _ (sym ((subtract_equal (number x) (number y) (fraction c (x.den *ℤ y.den))).1 (sym whole))) (short_number _ _ t some e)

sign_some : (z : ℤ) → z ≢ pos 0 → int_sign z ≡ Equal → ⊥
unfolding int_sign
sign_some (pos zero) h e = h refl
sign_some (pos (suc n)) h e = absurd cc
sign_some (negsuc n) h e = absurd cc

pub number_some : (n d : ℤ) → n ≢ pos 0 → d ≢ pos 0 → fraction n d ≡ number_zero → ⊥
number_some n d h k e = sign_some (n *ℤ d) (product_nonzero n d h k) (sym (fraction-sign n d k) ∙ ap number_sign e ∙ number_sign_zero)

pub quotient_number : (x y t : Terms) → pos 0 <ℤ x.den → pos 0 <ℤ y.den → y.num ≢ pos 0 → quotient x y ≡ Ok t
    → IsNumber t (number x /ε number y)
quotient_number x y t h k some e =
    let under : x.den *ℤ y.num ≢ pos 0 = product_nonzero x.den y.num (positive_nonzero x.den h) some in
    let z = fraction (x.num *ℤ y.den) (x.den *ℤ y.num) in
    let cross : ((x.num *ℤ y.den) *ℤ y.num) *ℤ x.den ≡ x.num *ℤ ((x.den *ℤ y.num) *ℤ y.den) = simp ring in
    let whole : z *ε number y ≡ number x = fraction-multiply (x.num *ℤ y.den) (x.den *ℤ y.num) y.num y.den under (positive_nonzero y.den k)
    ∙ fraction-equal ((x.num *ℤ y.den) *ℤ y.num) ((x.den *ℤ y.num) *ℤ y.den) x.num x.den
    (product_nonzero (x.den *ℤ y.num) y.den under (positive_nonzero y.den k)) (positive_nonzero x.den h) cross in
    as_value t _ _ (sym (divide_unique (number x) (number y) z (number_some y.num y.den some (positive_nonzero y.den k)) whole)) (short_number _ _ t under e)
