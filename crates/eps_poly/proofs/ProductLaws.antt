-- What a product that isn't refused is.
use Rattle.std.proofs.Common.{lit<, ◌≡◌, ℕ, zero, suc, ◌+◌, ◌-◌, ◌<◌, ◌≤◌, ◌^◌, List, refl, sym, ◌∙◌, ap, ap₂, arith, ℤ}
use Rattle.std.proofs.Common.{pos, ◌+ℤ◌, ◌*ℤ◌, unsigned_abs, inl, inr, Option, Some, None, Bool, true, false, nat_le, if◌then◌else◌}
use mathlib.Core.Path.{fun_ext}
use Rattle.std.proofs.lemmas.Bool.{cases_lt}
use Rattle.std.proofs.lemmas.Bool.Decides.{nat_tests}
use Rattle.std.proofs.lemmas.Int.{ints}
use lib.IntN.{+ℤ_idr}
use Rattle.field_core.proofs.Sized.{sized_small, sized_says}
use Rattle.field_core.specs.Polynomial.{coefficient, Same, poly_multiply}
use Rattle.field_core.specs.Sized.{◌>>=◌, sized}
use Rattle.field_core.specs.Laws.PolynomialLaws.{product_part, coefficient-multiply_part}
use Rattle.eps_poly.specs.Polynomials.{IsPolynomial, zero_polynomial}
use Rattle.eps_poly.specs.Written.{sized_list, written_coefficient, degree, sized_product}
use Rattle.eps_poly.proofs.Coefficients.{coefficient-past, coefficient-zero, length-zero}
use Rattle.eps_poly.proofs.DegreeLaws.{coefficient-above_degree, degree-same}
use Rattle.eps_poly.proofs.SizedLists.{AreValues, list_values, list_from_all}
use Rattle.eps_poly.proofs.SumLaws.{values_polynomial}
use Rattle.field_core.proofs.Results.{one_some, bind_some}

-- ---- written coefficients

-- the steps of a written coefficient
pub record Step (p q : List ℤ) (k n : ℕ) (c : ℤ) : Type 0 where
  pub before : ℤ
  pub part : written_coefficient p q k n ≡ Some before
  pub product : sized (coefficient p n *ℤ coefficient q (k - n)) ≡ Some (coefficient p n *ℤ coefficient q (k - n))
  pub sum : sized (before +ℤ coefficient p n *ℤ coefficient q (k - n)) ≡ Some c

pub coefficient_step : (p q : List ℤ) (k n : ℕ) (c : ℤ) → written_coefficient p q k (suc n) ≡ Some c → Step p q k n c
unfolding written_coefficient
coefficient_step p q k n c e =
    let z = coefficient p n *ℤ coefficient q (k - n) in
    let first = bind_some (written_coefficient p q k n) (λ sum. sized z >>= (λ product. sized (sum +ℤ product))) c e in
    let second = bind_some (sized z) (λ product. sized (first.0 +ℤ product)) c first.2 in
    let same = (sized_says z second.0 second.1).0 in
    record {
      before = first.0;
      part = first.1;
      product = second.1 ∙ ap Some same;
      sum = ap (λ x. sized (first.0 +ℤ x)) (sym same) ∙ second.2;
    }

pub coefficient_next : (p q : List ℤ) (k n : ℕ) (c product : ℤ) (sum : Option ℤ) → written_coefficient p q k n ≡ Some c
    → sized (coefficient p n *ℤ coefficient q (k - n)) ≡ Some product → sized (c +ℤ product) ≡ sum → written_coefficient p q k (suc n) ≡ sum
unfolding written_coefficient
coefficient_next p q k n c product sum e f g = rw (e, f) g

pub coefficient_none : (p q : List ℤ) (k : ℕ) → written_coefficient p q k 0 ≡ Some (pos 0)
unfolding written_coefficient
coefficient_none p q k = refl

pub coefficient_product_refused : (p q : List ℤ) (k n : ℕ) (c : ℤ) → written_coefficient p q k n ≡ Some c
    → sized (coefficient p n *ℤ coefficient q (k - n)) ≡ None → written_coefficient p q k (suc n) ≡ None
unfolding written_coefficient
coefficient_product_refused p q k n c h f = rw (h, f) refl

coefficient_kept : (p q : List ℤ) (k n : ℕ) → written_coefficient p q k n ≡ None → written_coefficient p q k (suc n) ≡ None
unfolding written_coefficient
coefficient_kept p q k n h = rw h refl

coefficient_stays : (p q : List ℤ) (k n m : ℕ) → written_coefficient p q k n ≡ None → written_coefficient p q k (m + n) ≡ None
coefficient_stays p q k n zero h = ap (written_coefficient p q k) (omega arith) ∙ h
coefficient_stays p q k n (suc m) h = ap (written_coefficient p q k) (omega arith) ∙ coefficient_kept p q k (m + n) (coefficient_stays p q k n m h)

-- a refusal on the way is that of the whole
pub coefficient_refused : (p q : List ℤ) (k n m : ℕ) → written_coefficient p q k n ≡ None → n ≤ m → written_coefficient p q k m ≡ None
coefficient_refused p q k n m h l = ap (written_coefficient p q k) (omega arith) ∙ coefficient_stays p q k n (m - n) h

-- it is the sum of the products
pub coefficient_is : (p q : List ℤ) (k n : ℕ) (c : ℤ) → written_coefficient p q k n ≡ Some c → c ≡ product_part p q k n
unfolding product_part
coefficient_is p q k zero c e = one_some (written_coefficient p q k 0) c (pos 0) e (coefficient_none p q k)
coefficient_is p q k (suc n) c e =
    let s = coefficient_step p q k n c e in
    (sized_says _ c s.sum).0 ∙ ap (λ x. x +ℤ coefficient p n *ℤ coefficient q (k - n)) (coefficient_is p q k n s.before s.part)

pub coefficient_small : (p q : List ℤ) (k n : ℕ) (c : ℤ) → written_coefficient p q k n ≡ Some c → unsigned_abs c < 2 ^ 127
coefficient_small p q k zero c e =
    let none : c ≡ pos 0 = one_some (written_coefficient p q k 0) c (pos 0) e (coefficient_none p q k) in
    rw none (omega (arith, ints))
coefficient_small p q k (suc n) c e = let s = coefficient_step p q k n c e in (sized_says _ c s.sum).1

-- a product by 0 adds nothing
pub coefficient_zero : (p q : List ℤ) (k n : ℕ) → coefficient p n *ℤ coefficient q (k - n) ≡ pos 0
    → written_coefficient p q k (suc n) ≡ written_coefficient p q k n
coefficient_zero p q k n h = at (written_coefficient p q k n) refl
  where
    at : (r : Option ℤ) → written_coefficient p q k n ≡ r → written_coefficient p q k (suc n) ≡ written_coefficient p q k n
    at None e = coefficient_kept p q k n e ∙ sym e
    at (Some c) e =
        coefficient_next p q k n c (pos 0) (Some c) e (ap sized h ∙ sized_small (pos 0) (lit< tt))
        (ap sized (+ℤ_idr c) ∙ sized_small c (coefficient_small p q k n c e))
        ∙ sym e

pub coefficient_zeros : (p q : List ℤ) (k n m : ℕ) → ((i : ℕ) → n ≤ i → coefficient p i *ℤ coefficient q (k - i) ≡ pos 0) → n ≤ m
    → written_coefficient p q k m ≡ written_coefficient p q k n
coefficient_zeros p q k n m h l = ap (written_coefficient p q k) (omega arith) ∙ more (m - n)
  where
    more : (m : ℕ) → written_coefficient p q k (m + n) ≡ written_coefficient p q k n
    more zero = ap (written_coefficient p q k) (omega arith)
    more (suc m) = ap (written_coefficient p q k) (omega arith) ∙ coefficient_zero p q k (m + n) (h (m + n) (omega arith)) ∙ more m

-- ---- written products

-- a written product that isn't refused: its degree and its coefficients
pub record IsWritten (p q r : List ℤ) : Type 0 where
  pub degrees : degree p + degree q ≤ 32
  pub values : AreValues 33 (λ k. written_coefficient p q k (k + 1)) r

within : (b : Bool) (x : Option (List ℤ)) (r : List ℤ) → (if b then x else None) ≡ Some r → (b ≡ true) × (x ≡ Some r)
within true x r e = (refl, e)
within false x r e = cc

pub product_written : (p q r : List ℤ) → sized_product p q ≡ Some r → IsWritten p q r
unfolding sized_product
product_written p q r e =
    let both = within (nat_le (degree p + degree q) 32) (sized_list 33 (λ k. written_coefficient p q k (k + 1))) r e in
    record {
      degrees = let test = both.0 in grind (arith, nat_tests);
      values = list_values 33 (λ k. written_coefficient p q k (k + 1)) r both.1;
    }

pub product_from_list : (p q : List ℤ) → degree p + degree q ≤ 32 → sized_product p q ≡ sized_list 33 (λ k. written_coefficient p q k (k + 1))
unfolding sized_product
product_from_list p q h = let test : nat_le (degree p + degree q) 32 ≡ true = grind (arith, nat_tests) in rw test refl

pub product_past : (p q : List ℤ) → 32 < degree p + degree q → sized_product p q ≡ None
unfolding sized_product
product_past p q h = let test : nat_le (degree p + degree q) 32 ≡ false = grind (arith, nat_tests) in rw test refl

pub product_polynomial : (p q r : List ℤ) → sized_product p q ≡ Some r → IsPolynomial r
product_polynomial p q r e =
    let w = product_written p q r e in
    values_polynomial (λ k. written_coefficient p q k (k + 1)) r (λ k c h. coefficient_small p q k (k + 1) c h)
    (sym (product_from_list p q w.degrees) ∙ e)

-- products of which one factor is 0 add nothing
pub part_none : (p q : List ℤ) (k n : ℕ) → ((i : ℕ) → i < n → coefficient p i *ℤ coefficient q (k - i) ≡ pos 0)
    → product_part p q k n ≡ pos 0
unfolding product_part
part_none p q k zero h = refl
part_none p q k (suc n) h = rw (part_none p q k n (λ i l. h i (omega arith)), h n (omega arith)) refl

past_degrees : (p q : List ℤ) (k i : ℕ) → degree p + degree q < k → coefficient p i *ℤ coefficient q (k - i) ≡ pos 0
past_degrees p q k i h = elim (cases_lt (degree p) i) [
  | inl l ↦ rw (coefficient-above_degree p i l) (omega (arith, ints))
  | inr l ↦ rw (coefficient-above_degree q (k - i) (omega arith)) (omega (arith, ints))
]

-- the first factor's coefficients above its degree add nothing
pub coefficient_whole : (p q : List ℤ) (k n : ℕ) → n ≤ k + 1 → (n ≤ k → degree p < n)
    → written_coefficient p q k (k + 1) ≡ written_coefficient p q k n
coefficient_whole p q k n within past = elim (cases_lt k n) [
  | inl l ↦ ap (written_coefficient p q k) (omega arith)
  | inr l ↦ coefficient_zeros p q k n (k + 1) (λ i h. let d = past l in rw (coefficient-above_degree p i (omega arith)) (omega (arith, ints))) within
]

-- nor does anything add to a coefficient past both degrees
pub coefficient_past : (p q : List ℤ) (k : ℕ) → degree p + degree q < k → written_coefficient p q k (k + 1) ≡ Some (pos 0)
coefficient_past p q k h = coefficient_zeros p q k 0 (k + 1) (λ i l. past_degrees p q k i h) (omega arith) ∙ coefficient_none p q k

-- a product by the zero polynomial is the zero polynomial
pub product_by_zero : (p q : List ℤ) → degree p + degree q ≤ 32 → ((i j : ℕ) → coefficient p i *ℤ coefficient q j ≡ pos 0)
    → sized_product p q ≡ Some zero_polynomial
product_by_zero p q small none =
    product_from_list p q small
    ∙ list_from_all (λ k. written_coefficient p q k (k + 1)) zero_polynomial length-zero
    (λ k. coefficient_zeros p q k 0 (k + 1) (λ i h. none i (k - i)) (omega arith) ∙ coefficient_none p q k ∙ ap Some (sym (coefficient-zero k)))

-- a written product that isn't refused is the product
pub product_is_exact : (p q r : List ℤ) → sized_product p q ≡ Some r → Same r (poly_multiply p q)
product_is_exact p q r e k =
    let w = product_written p q r e in
    let all = w.values.count in
    let small = w.degrees in
    elim (cases_lt k 33) [
      | inl h ↦ coefficient_is p q k (k + 1) (coefficient r k) (w.values.each k h) ∙ sym (coefficient-multiply_part p q k)
      | inr h ↦ coefficient-past r k (omega arith) ∙ sym
          (coefficient-multiply_part p q k ∙ part_none p q k (k + 1) (λ i l. past_degrees p q k i (omega arith)))
    ]

-- ---- the same factors

pub coefficient-same : (p p' q : List ℤ) (k n : ℕ) → ((i : ℕ) → i < n → coefficient p i ≡ coefficient p' i)
    → written_coefficient p q k n ≡ written_coefficient p' q k n
unfolding written_coefficient
coefficient-same p p' q k zero h = refl
coefficient-same p p' q k (suc n) h =
    ap₂ (λ a b. a >>= (λ sum. sized (b *ℤ coefficient q (k - n)) >>= (λ product. sized (sum +ℤ product))))
    (coefficient-same p p' q k n (λ i l. h i (omega arith))) (h n (omega arith))

pub product-same : (p p' q : List ℤ) → Same p p' → sized_product p q ≡ sized_product p' q
unfolding sized_product
product-same p p' q e =
    ap₂ (λ a b. if nat_le (a + degree q) 32 then sized_list 33 b else None)
    (degree-same p p' e) (fun_ext (λ k. coefficient-same p p' q k (k + 1) (λ i l. e i)))
