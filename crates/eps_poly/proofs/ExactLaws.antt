-- The exact quotient is the polynomial whose written product with the divisor is the dividend, and there is at most one.
use Rattle.std.proofs.Common.{◌≡◌, ◌≢◌, ℕ, zero, suc, ◌+◌, ◌-◌, ◌*◌, ◌^◌, ◌<◌, ◌≤◌, inl, inr, List, []}
use Rattle.std.proofs.Common.{◌∷◌, ◌++◌, length, length-append, refl, sym, ◌∙◌, ap, ap₂, arith, ℤ, pos, ◌+ℤ◌, ◌*ℤ◌, neg_ℤ}
use Rattle.std.proofs.Common.{unsigned_abs, int_div, Bool, true, false, if◌then◌else◌, Option, Some, None}
use Rattle.std.proofs.lemmas.Int.{ints, unsigned_abs-mul}
use Rattle.std.proofs.lemmas.Bool.{cases_lt}
use Rattle.std.proofs.Math.Nat.{mul-le-mul_left}
use Rattle.field_core.specs.Polynomial.{coefficient, lowest, Same, poly_multiply, IsNonZero}
use Rattle.field_core.specs.Laws.PolynomialLaws.{product_part, coefficient-multiply_part}
use Rattle.eps_poly.specs.ExactQuotients.{quotient_front, is_product, exact_quotient}
use Rattle.eps_poly.specs.Factors.{order}
use Rattle.eps_poly.specs.Polynomials.{IsPolynomial, is_same, zero_polynomial}
use Rattle.eps_poly.specs.Written.{sized_product}
use Rattle.eps_poly.proofs.Coefficients.{coefficient-past, coefficient-zero, length-zero, same_polynomials, same_from, same_to}
use Rattle.eps_poly.proofs.DegreeLaws.{coefficient-above_degree, degree_at_least, degree_at_most}
use Rattle.eps_poly.proofs.IntegerQuotients.{int_div_exact}
use Rattle.eps_poly.proofs.OrderLaws.{coefficient-below_order, none_but_zero}
use Rattle.eps_poly.proofs.ProductLaws.{product_by_zero, product_is_exact, product_written, product-same}
use Rattle.eps_poly.proofs.QuotientLaws.{part_more, part-next, product_zero, zero_product, next_step, divisor_some, quotient_known}
use Rattle.field_core.proofs.Positions.{at_or_below}
use Rattle.field_core.proofs.Sized.{sized_says}
use Rattle.field_core.proofs.Wholes.{size_some}

-- ---- coefficients of a longer list

coefficient-left : (q r : List ℤ) (k : ℕ) → k < length q → coefficient (q ++ r) k ≡ coefficient q k
unfolding coefficient
coefficient-left [] r k h = absurd (omega arith)
coefficient-left (c ∷ q) r zero h = refl
coefficient-left (c ∷ q) r (suc k) h = coefficient-left q r k (omega arith)

coefficient-last : (q : List ℤ) (c : ℤ) (k : ℕ) → k ≡ length q → coefficient (q ++ c ∷ []) k ≡ c
unfolding coefficient
coefficient-last [] c zero h = refl
coefficient-last [] c (suc k) h = absurd (omega arith)
coefficient-last (d ∷ q) c zero h = absurd (omega arith)
coefficient-last (d ∷ q) c (suc k) h = coefficient-last q c k (omega arith)

part-same : (p q by : List ℤ) (k n : ℕ) → ((i : ℕ) → i < n → coefficient p i ≡ coefficient q i)
    → product_part p by k n ≡ product_part q by k n
unfolding product_part
part-same p q by k zero h = refl
part-same p q by k (suc n) h = ap₂ (λ a b. a +ℤ b *ℤ coefficient by (k - n)) (part-same p q by k n (λ i l. h i (omega arith))) (h n (omega arith))

-- ---- the quotient, coefficient by coefficient

one_step : (a b x d : ℤ) → d ≢ pos 0 → a ≡ b +ℤ x *ℤ d → int_div (a +ℤ neg_ℤ b) d ≡ x
one_step a b x d some e = ap (λ z. int_div z d) (rest a b (x *ℤ d) e) ∙ int_div_exact x d some
  where
    rest : (a b c : ℤ) → a ≡ b +ℤ c → a +ℤ neg_ℤ b ≡ c
    rest a b c e = omega (arith, ints)

module _ (p by : List ℤ) where
  pub length-front : (n : ℕ) → length (quotient_front p by n) ≡ n
  unfolding quotient_front
  length-front zero = refl
  length-front (suc n) =
      let q = quotient_front p by n in
      omega (
        arith,
        length-front n,
        length-append q (int_div (coefficient p (length q + order by) +ℤ neg_ℤ (product_part q by (length q + order by) (length q)))
            (coefficient by (order by)) ∷ []),
      )

  front_keeps : (n k : ℕ) → k < n → coefficient (quotient_front p by (suc n)) k ≡ coefficient (quotient_front p by n) k
  unfolding quotient_front
  front_keeps n k h = coefficient-left (quotient_front p by n) _ k (omega (arith, length-front n))

  front_last : (n : ℕ) → coefficient (quotient_front p by (suc n)) n
      ≡ int_div (coefficient p (n + order by) +ℤ neg_ℤ (product_part (quotient_front p by n) by (n + order by) n)) (coefficient by (order by))
  unfolding quotient_front
  front_last n =
      coefficient-last (quotient_front p by n) _ n (sym (length-front n))
      ∙ ap (λ m. int_div (coefficient p (m + order by) +ℤ neg_ℤ (product_part (quotient_front p by n) by (m + order by) m)) (coefficient by (order by)))
      (length-front n)

  module _ (q : List ℤ) (same : Same p (poly_multiply q by)) (some : IsNonZero by) where
    whole : (n : ℕ) → coefficient p (n + order by) ≡ product_part q by (n + order by) n +ℤ coefficient q n *ℤ coefficient by (order by)
    whole n =
        let at = n + order by in
        let count : at + 1 ≡ order by + suc n = omega arith in
        let gap : at - n ≡ order by = omega arith in
        same at ∙ coefficient-multiply_part q by at ∙ ap (product_part q by at) count
        ∙ part_more q by at (suc n) (order by)
        (λ i l u. product_zero (coefficient q i) (coefficient by (at - i)) (coefficient-below_order by (at - i) (omega arith)))
        ∙ part-next q by at n (order by) gap

    front_is : (n k : ℕ) → k < n → coefficient (quotient_front p by n) k ≡ coefficient q k
    front_is zero k h = absurd (omega arith)
    front_is (suc n) k h = elim (at_or_below k n h) [
      | inl e ↦ rw e (front_last n
          ∙ one_step (coefficient p (n + order by)) _ (coefficient q n) (coefficient by (order by)) (divisor_some by (order by) refl some)
          (whole n ∙ ap (λ x. x +ℤ coefficient q n *ℤ coefficient by (order by))
          (sym (part-same (quotient_front p by n) q by (n + order by) n (λ i l. front_is n i l)))))
      | inr l ↦ front_keeps n k l ∙ front_is n k l
    ]

    front_all : length q ≡ 33 → quotient_front p by 33 ≡ q
    front_all long = same_polynomials (quotient_front p by 33) q (length-front 33 ∙ sym long) (λ k h. front_is 33 k (omega (arith, length-front 33)))

-- ---- the exact quotient

found : (r : Option (List ℤ)) (x q p : List ℤ) → (if is_product r p then Some x else None) ≡ Some q → (r ≡ Some p) × (x ≡ q)
found None x q p h = absurd (cc)
found (Some r) x q p h = go (is_same r p) refl h
  where
    go : (b : Bool) → is_same r p ≡ b → (if b then Some x else None) ≡ Some q → (Some r ≡ Some p) × (x ≡ q)
    go true e h = (ap Some (same_from r p e), cc)
    go false e h = absurd (cc)

-- its written product with the divisor is the dividend
pub quotient_found : (p by q : List ℤ) → exact_quotient p by ≡ Some q → sized_product q by ≡ Some p
unfolding exact_quotient
quotient_found p by q h =
    let f = found (sized_product (quotient_front p by 33) by) (quotient_front p by 33) q p h in
    ap (λ x. sized_product x by) (sym f.1) ∙ f.0

pub length-quotient : (p by q : List ℤ) → exact_quotient p by ≡ Some q → length q ≡ 33
unfolding exact_quotient
length-quotient p by q h =
    let f = found (sized_product (quotient_front p by 33) by) (quotient_front p by 33) q p h in
    ap length (sym f.1) ∙ length-front p by 33

-- and it is the only one
pub quotient_only : (p by q : List ℤ) → IsNonZero by → length q ≡ 33 → sized_product q by ≡ Some p → exact_quotient p by ≡ Some q
unfolding exact_quotient
quotient_only p by q some long h =
    let e = front_all p by q (product_is_exact q by p h) some long in
    rw (e, h, same_to p p refl) refl

-- what has the dividend as its written product with the divisor has the coefficients of the quotient
pub quotient_same : (p by q : List ℤ) → IsNonZero by → sized_product q by ≡ Some p
    → (r : List ℤ) × (exact_quotient p by ≡ Some r) × Same r q
quotient_same p by q some h =
    let r = quotient_front p by 33 in
    let long = length-front p by 33 in
    let whole = (product_written q by p h).values.count in
    let high = degree_at_most p 32 (λ k l. coefficient-past p k (omega arith)) in
    let same : Same r q = quotient_known p by q r 33 h some (omega arith) (front_is p by q (product_is_exact q by p h) some 33)
    (λ k l. coefficient-past r k (omega arith)) in
    (r, quotient_only p by r some long (product-same r q by same ∙ h), same)

-- the quotient of the zero polynomial
pub quotient_of_zero : (p by : List ℤ) → IsNonZero by → IsPolynomial p → IsPolynomial by → lowest p ≡ pos 0 → exact_quotient p by ≡ Some zero_polynomial
quotient_of_zero p by some v w none =
    let long = v.count in
    let count = w.count in
    let low = degree_at_most zero_polynomial 0 (λ k l. coefficient-zero k) in
    let high = degree_at_most by 32 (λ k l. coefficient-past by k (omega arith)) in
    let same : zero_polynomial ≡ p = same_polynomials zero_polynomial p (length-zero ∙ sym long)
    (λ k l. coefficient-zero k ∙ sym (none_but_zero p none k)) in
    quotient_only p by zero_polynomial some length-zero
    (product_by_zero zero_polynomial by (omega arith) (λ i j. zero_product (coefficient zero_polynomial i) (coefficient by j) (coefficient-zero i)) ∙ ap Some same)

-- where no polynomial times the divisor is the dividend there is none
pub quotient_none : (p by : List ℤ) → ((q : List ℤ) → sized_product q by ≢ Some p) → exact_quotient p by ≡ None
quotient_none p by none = at (exact_quotient p by) refl
  where
    at : (r : Option (List ℤ)) → exact_quotient p by ≡ r → r ≡ None
    at (Some q) e = absurd (none q (quotient_found p by q e))
    at None e = refl

-- it is within its sizes, as its products with the lowest coefficient of the divisor are
factor_small : (a b : ℤ) → b ≢ pos 0 → unsigned_abs (a *ℤ b) < 2 ^ 127 → unsigned_abs a < 2 ^ 127
factor_small a b some small =
    let size = unsigned_abs-mul a b in
    let large : unsigned_abs a * 1 ≤ unsigned_abs a * unsigned_abs b = mul-le-mul_left (unsigned_abs a) (size_some b some) in
    omega arith

pub factor_polynomial : (p by q : List ℤ) → IsNonZero by → length q ≡ 33 → sized_product q by ≡ Some p → IsPolynomial q
factor_polynomial p by q some long h = record { count = long; sizes = small }
  where
    small : (k : ℕ) → unsigned_abs (coefficient q k) < 2 ^ 127
    small k = elim (cases_lt (k + order by) 33) [
      | inl l ↦
          let s = next_step p by q q k (order by) h refl (omega arith) (λ i u. refl) in
          let inside = sized_says _ _ s.rest in
          factor_small (coefficient q k) (coefficient by (order by)) (divisor_some by (order by) refl some) (inside.1)
      | inr l ↦
          let w = product_written q by p h in
          let high = degree_at_least by (order by) (divisor_some by (order by) refl some) in
          let degrees = w.degrees in
          rw (coefficient-above_degree q k (omega arith)) (omega (arith, ints))
    ]
