-- How the coefficients of an exact quotient follow from one another.
use Rattle.std.proofs.Common.{◌≡◌, ◌≢◌, ℕ, zero, suc, ◌+◌, ◌-◌, ◌<◌, ◌≤◌, List, refl, sym, ◌∙◌, ap, ap₂, arith, ℤ}
use Rattle.std.proofs.Common.{pos, ◌+ℤ◌, ◌*ℤ◌, neg_ℤ, inl, inr, ◌⊎◌, Option, Some, None}
use lib.IntN.{ℤ_discrete, +ℤ_idl, +ℤ_idr, *ℤ-zero, zero-*ℤ}
use Rattle.std.proofs.lemmas.Bool.{cases_lt}
use Rattle.std.proofs.lemmas.Int.{ints}
use Rattle.field_core.specs.Polynomial.{coefficient, Same, IsNonZero}
use Rattle.field_core.specs.Sized.{sized}
use Rattle.field_core.specs.Laws.PolynomialLaws.{product_part, product_nonzero}
use Rattle.eps_poly.specs.Factors.{order}
use Rattle.eps_poly.specs.Written.{degree, written_coefficient, sized_product}
use Rattle.eps_poly.proofs.OrderLaws.{coefficient-below_order, coefficient-order, lowest_from_coefficient}
use Rattle.eps_poly.proofs.DegreeLaws.{coefficient-above_degree, degree_at_least, coefficient-degree}
use Rattle.eps_poly.proofs.ProductLaws.{part_none, coefficient_step, coefficient_is, coefficient_refused, coefficient-same, product_written}
use Rattle.field_core.proofs.Sized.{sized_says}

pub some_or_none : {A : Type 0} (r : Option A) (a : A) → r ≡ Some a → r ≡ None → ⊥
some_or_none r a e f = cc

result_cases : {A : Type 0} (r : Option A) → ((x : A) × (r ≡ Some x)) ⊎ (r ≡ None)
result_cases (Some x) = inl (x, refl)
result_cases None = inr refl

-- the sums on the way to one that isn't refused
coefficient_front : (p q : List ℤ) (k n m : ℕ) (c : ℤ) → n ≤ m → written_coefficient p q k m ≡ Some c → (x : ℤ)
    × (written_coefficient p q k n ≡ Some x)
coefficient_front p q k n m c within e = elim (result_cases (written_coefficient p q k n)) [
  | inl (x, f) ↦ (x, f)
  | inr f ↦ let refused = coefficient_refused p q k n m f within in absurd (some_or_none (written_coefficient p q k m) c e refused)
]

-- products of which one factor is 0 add nothing
pub part_more : (p q : List ℤ) (k n m : ℕ) → ((i : ℕ) → n ≤ i → i < m + n → coefficient p i *ℤ coefficient q (k - i) ≡ pos 0)
    → product_part p q k (m + n) ≡ product_part p q k n
unfolding product_part
part_more p q k n zero h = let none : zero + n ≡ n = omega arith in ap (product_part p q k) none
part_more p q k n (suc m) h =
    let next : suc m + n ≡ suc (m + n) = omega arith in
    ap (product_part p q k) next ∙ ap₂ (λ a b. a +ℤ b) (part_more p q k n m (λ i l u. h i l (omega arith))) (h (m + n) (omega arith) (omega arith))
    ∙ +ℤ_idr (product_part p q k n)

pub part-next : (p q : List ℤ) (k n d : ℕ) → k - n ≡ d → product_part p q k (suc n) ≡ product_part p q k n +ℤ coefficient p n *ℤ coefficient q d
unfolding product_part
part-next p q k n d e = rw e refl

pub zero_product : (a b : ℤ) → a ≡ pos 0 → a *ℤ b ≡ pos 0
zero_product a b e = rw e (zero-*ℤ b)

pub product_zero : (a b : ℤ) → b ≡ pos 0 → a *ℤ b ≡ pos 0
product_zero a b e = rw e (*ℤ-zero a)

difference : (a b c : ℤ) → a ≡ b +ℤ c → a +ℤ neg_ℤ b ≡ c
difference a b c e = omega (arith, ints)

-- what one step of a division finds, where p is the written product of q and by
pub record NextStep (p by q known : List ℤ) (power low : ℕ) : Type 0 where
  pub part : ℤ
  pub known_part : written_coefficient known by (power + low) power ≡ Some part
  pub rest : sized (coefficient p (power + low) +ℤ neg_ℤ part) ≡ Some (coefficient q power *ℤ coefficient by low)

pub next_step : (p by q known : List ℤ) (power low : ℕ) → sized_product q by ≡ Some p → low ≡ order by → power + low ≤ 32
    → ((k : ℕ) → k < power → coefficient known k ≡ coefficient q k) → NextStep p by q known power low
next_step p by q known power low e is_low within same =
    let at = power + low in
    let w = product_written q by p e in
    let all = w.values.each at (omega arith) in
    let front = coefficient_front q by at (suc power) (at + 1) (coefficient p at) (omega arith) all in
    let s = coefficient_step q by at power front.0 front.1 in
    let gap : at - power ≡ low = omega arith in
    let product : sized (coefficient q power *ℤ coefficient by low) ≡ Some (coefficient q power *ℤ coefficient by low) = rw gap at s.product in
    let sum : front.0 ≡ s.before +ℤ coefficient q power *ℤ coefficient by low = rw gap at ((sized_says _ front.0 s.sum).0) in
    let above : product_part q by at (low + suc power) ≡ product_part q by at (suc power) =
    part_more q by at (suc power) low
    (λ i l u. product_zero (coefficient q i) (coefficient by (at - i)) (coefficient-below_order by (at - i) (omega arith))) in
    let count : at + 1 ≡ low + suc power = omega arith in
    let whole : coefficient p at ≡ front.0 = coefficient_is q by at (at + 1) (coefficient p at) all ∙ ap (product_part q by at) count ∙ above
    ∙ sym (coefficient_is q by at (suc power) front.0 front.1) in
    record {
      part = s.before;
      known_part = coefficient-same known q by at power same ∙ s.part;
      rest = ap (sized) (difference (coefficient p at) s.before (coefficient q power *ℤ coefficient by low) (whole ∙ sum)) ∙ product;
    }

-- the lowest coefficient of a divisor that isn't zero
pub divisor_some : (by : List ℤ) (low : ℕ) → low ≡ order by → IsNonZero by → coefficient by low ≢ pos 0
divisor_some by low e some none = some (sym (coefficient-order by) ∙ ap (coefficient by) (sym e) ∙ none)

-- a quotient has a coefficient of power k only where the dividend reaches that power with the divisor's degree
pub quotient_within : (p by q : List ℤ) (k : ℕ) → sized_product q by ≡ Some p → IsNonZero by → coefficient q k ≢ pos 0
    → k + degree by ≤ degree p
quotient_within p by q k e some has =
    let w = product_written q by p e in
    let within = w.degrees in
    let m = degree q in
    let d = degree by in
    let low = degree_at_least q k has in
    let top : coefficient q m ≢ pos 0 = coefficient-degree q (lowest_from_coefficient q k has) in
    let gap : (m + d) - m ≡ d = omega arith in
    let last : product_part q by (m + d) (suc m) ≡ coefficient q m *ℤ coefficient by d =
    part-next q by (m + d) m d gap ∙ ap (λ x. x +ℤ coefficient q m *ℤ coefficient by d)
    (part_none q by (m + d) m
    (λ i l. product_zero (coefficient q i) (coefficient by ((m + d) - i)) (coefficient-above_degree by ((m + d) - i) (omega arith))))
    ∙ +ℤ_idl (coefficient q m *ℤ coefficient by d) in
    let count : (m + d) + 1 ≡ d + suc m = omega arith in
    let whole : coefficient p (m + d) ≡ coefficient q m *ℤ coefficient by d =
    coefficient_is q by (m + d) ((m + d) + 1) (coefficient p (m + d)) (w.values.each (m + d) (omega arith)) ∙ ap (product_part q by (m + d)) count
    ∙ part_more q by (m + d) (suc m) d (λ i l u. zero_product (coefficient q i) (coefficient by ((m + d) - i)) (coefficient-above_degree q i (omega arith)))
    ∙ last in
    let reached = degree_at_least p (m + d)
    (λ none. product_nonzero (coefficient q m) (coefficient by d) top (coefficient-degree by some) (sym whole ∙ none)) in
    omega arith

-- once all coefficients that a quotient can have are known
pub quotient_known : (p by q r : List ℤ) (n : ℕ) → sized_product q by ≡ Some p → IsNonZero by → (degree p + 1) - degree by ≤ n
    → ((k : ℕ) → k < n → coefficient r k ≡ coefficient q k) → ((k : ℕ) → n ≤ k → coefficient r k ≡ pos 0) → Same r q
quotient_known p by q r n e some enough front rest k = elim (cases_lt k n) [
  | inl l ↦ front k l
  | inr l ↦ rest k l ∙ sym (elim (ℤ_discrete (coefficient q k) (pos 0))
      [ yes none ↦ none | no has ↦ let within = quotient_within p by q k e some has in absurd (omega arith) ])
]

-- c is the coefficient of power k of each q whose written product with by is p
abbrev pub IsNextCoefficient : List ℤ → List ℤ → ℕ → ℤ → Type 0
IsNextCoefficient p by k c = (q : List ℤ) → sized_product q by ≡ Some p → c ≡ coefficient q k
