-- The order of entries: epsilon is so small that the lowest coefficient that isn't 0 decides.
use Rattle.std.proofs.Common.{◌≡◌, refl, sym, ap, ap₂, ◌∙◌, ℕ, zero, suc, List, [], ◌∷◌, length, drop, ℤ, pos, negsuc, neg_ℤ}
use Rattle.std.proofs.Common.{◌+ℤ◌, ◌*ℤ◌, ◌<ℤ◌, arith}
use Rattle.std.proofs.lemmas.Int.{ints}
use Rattle.std.specs.Ordering.{ordering_then}
use Rattle.std.specs.declared.cmp.Ordering.{Ordering}
use Rattle.std.specs.declared.cmp.Ordering.TheVariants.{Equal}
use Rattle.field_core.specs.Terms.{Terms}
use Rattle.field_core.specs.View.{terms}
use Rattle.field_core.specs.declared.ratio.Ratio.{Ratio}
use Rattle.field_core.specs.Polynomial.{coefficient, poly_add, poly_scale, poly_multiply, lowest, or_else, int_sign, IsNonZero}
use Rattle.field_core.specs.Number.{Number}
use Rattle.field_core.specs.Arithmetic.{number_zero, number_one, ◌+ε◌, ◌*ε◌, ◌-ε◌, number_sign, number_compare}
use Rattle.field_core.specs.Epsilon.{epsilon}
use Rattle.field_core.specs.Fractions.{quotient, fraction}
use Rattle.field_core.specs.NumberField.{number_field}
use Rattle.field_core.specs.Sums.{sum_below}
use Rattle.field_core.specs.Laws.PolynomialLaws.{lowest-multiply, positive_in, int_sign-scale, nonzero-one}
use Rattle.field_core.specs.Laws.FractionLaws.{quotient-add, quotient-multiply, quotient-pair, quotient-sign, constant_nonzero, constant-multiply}
use Rattle.field_core.specs.Laws.FractionLaws.{lowest-constant, fraction-add, fraction-negate, fraction-sign}
use Rattle.field_core.specs.Laws.Effective.{product_positive, positive_nonzero}
use Rattle.field_core.specs.Laws.Order.{number_laws, number_subtract_is}
use Rattle.field_core.specs.Laws.NumberFieldLaws.{sum_nothing, sum_last}
use Rattle.fraction.specs.View.{number_of}
use Rattle.case_model.specs.Sums.{number, ratio_at, number_at}
use Rattle.case_model.specs.Entries.{power_of_epsilon, entry_value, first_sign}

-- ---- lowest coefficients

-- a product with a polynomial without a constant has none
zero_first : (p q : List ℤ) → coefficient p 0 ≡ pos 0 → coefficient (poly_multiply p q) 0 ≡ pos 0
unfolding coefficient poly_multiply poly_add poly_scale
zero_first [] q h = refl
zero_first (c ∷ p) [] h = refl
zero_first (c ∷ p) (b ∷ q) h = let e : c ≡ pos 0 = h in ap (λ x. (x *ℤ b) +ℤ pos 0) e ∙ none b
  where
    none : (b : ℤ) → (pos 0 *ℤ b) +ℤ pos 0 ≡ pos 0
    none b = omega (arith, ints)

-- a constant goes before a polynomial without one
lowest-constant_add : (a : ℤ) (q : List ℤ) → coefficient q 0 ≡ pos 0 → lowest (poly_add (a ∷ []) q) ≡ or_else a (lowest q)
unfolding coefficient lowest poly_add or_else
lowest-constant_add a [] h = refl
lowest-constant_add a (c ∷ q) h = let e : c ≡ pos 0 = h in ap (λ x. or_else (a +ℤ x) (lowest q)) e ∙ ap (λ x. or_else x (lowest q)) (same a)
    ∙ ap (or_else a) (ap (λ x. or_else x (lowest q)) (sym e))
  where
    same : (a : ℤ) → a +ℤ pos 0 ≡ a
    same a = omega (arith, ints)

int_sign-or_else : (a b : ℤ) → int_sign (or_else a b) ≡ ordering_then (int_sign a) (int_sign b)
unfolding int_sign or_else
int_sign-or_else (pos zero) b = refl
int_sign-or_else (pos (suc n)) b = refl
int_sign-or_else (negsuc n) b = refl

-- ---- polynomials over a whole number

-- `v` is a polynomial over a whole number above 0, and has this sign
record HasSign (v : Number) (s : Ordering) : Type 0 where
  top : List ℤ
  bottom : ℤ
  positive : pos 0 <ℤ bottom
  value : v ≡ quotient top (bottom ∷ [])
  sign : int_sign (lowest top) ≡ s

nonzero : (d : ℤ) → pos 0 <ℤ d → IsNonZero (d ∷ [])
nonzero d h = constant_nonzero d (positive_nonzero d h)

HasSign-sign : (v : Number) (s : Ordering) → HasSign v s → number_sign v ≡ s
HasSign-sign v s h =
    ap number_sign h.value ∙ quotient-sign h.top (h.bottom ∷ []) (nonzero h.bottom h.positive)
    ∙ ap int_sign (lowest-multiply h.top (h.bottom ∷ []) ∙ ap (λ x. lowest h.top *ℤ x) (lowest-constant h.bottom))
    ∙ int_sign-scale (lowest h.top) h.bottom (positive_in h.bottom h.positive) ∙ h.sign

HasSign-zero : HasSign number_zero Equal
unfolding number_zero lowest int_sign
HasSign-zero = record { top = []; bottom = pos 1; positive = omega (arith, ints); value = sym (quotient-pair [] (pos 1 ∷ []) nonzero-one); sign = refl }

epsilon_times : (n : List ℤ) (d : ℤ) → pos 0 <ℤ d
    → epsilon *ε quotient n (d ∷ []) ≡ quotient (poly_multiply (pos 0 ∷ pos 1 ∷ []) n) ((pos 1 *ℤ d) ∷ [])
unfolding epsilon
epsilon_times n d h = quotient-multiply (pos 0 ∷ pos 1 ∷ []) (pos 1 ∷ []) n (d ∷ []) nonzero-one (nonzero d h)
    ∙ ap (quotient (poly_multiply (pos 0 ∷ pos 1 ∷ []) n)) (constant-multiply (pos 1) d)

one_times : (d : ℤ) → pos 0 <ℤ d → pos 0 <ℤ (pos 1 *ℤ d)
one_times d h = product_positive (pos 1) d (omega (arith, ints)) h

lowest_epsilon : lowest (pos 0 ∷ pos 1 ∷ []) ≡ pos 1
unfolding lowest or_else
lowest_epsilon = refl

first_epsilon : coefficient (pos 0 ∷ pos 1 ∷ []) 0 ≡ pos 0
unfolding coefficient
first_epsilon = refl

-- a fraction, and epsilon times a polynomial
HasSign-add : (n d : ℤ) (v : Number) (s : Ordering) → pos 0 <ℤ d → HasSign v s
    → HasSign (fraction n d +ε (epsilon *ε v)) (ordering_then (int_sign n) s)
HasSign-add n d v s h k =
    let e = pos 1 *ℤ k.bottom in
    let positive : pos 0 <ℤ e = one_times k.bottom k.positive in
    let shifted = poly_multiply (pos 0 ∷ pos 1 ∷ []) k.top in
    let rest = poly_multiply shifted (d ∷ []) in
    let rest_first : coefficient rest 0 ≡ pos 0 = zero_first shifted (d ∷ []) (zero_first (pos 0 ∷ pos 1 ∷ []) k.top first_epsilon) in
    let rest_lowest : lowest rest ≡ (pos 1 *ℤ lowest k.top) *ℤ d = lowest-multiply shifted (d ∷ [])
    ∙ ap₂ ◌*ℤ◌ (lowest-multiply (pos 0 ∷ pos 1 ∷ []) k.top ∙ ap (λ x. x *ℤ lowest k.top) lowest_epsilon) (lowest-constant d) in
    let rest_sign : int_sign (lowest rest) ≡ s = ap int_sign rest_lowest ∙ int_sign-scale (pos 1 *ℤ lowest k.top) d (positive_in d h)
    ∙ ap int_sign (same (lowest k.top)) ∙ k.sign in
    record {
      top = poly_add ((n *ℤ e) ∷ []) rest;
      bottom = d *ℤ e;
      positive = product_positive d e h positive;
      value = ap (λ x. fraction n d +ε x) (ap (λ x. epsilon *ε x) k.value ∙ epsilon_times k.top k.bottom k.positive)
          ∙ quotient-add (n ∷ []) (d ∷ []) shifted (e ∷ []) (nonzero d h) (nonzero e positive)
          ∙ ap₂ (λ a b. quotient (poly_add a rest) b) (constant-multiply n e) (constant-multiply d e);
      sign = ap int_sign (lowest-constant_add (n *ℤ e) rest rest_first) ∙ int_sign-or_else (n *ℤ e) (lowest rest)
          ∙ ap₂ ordering_then (int_sign-scale n e (positive_in e positive)) rest_sign;
    }
  where
    same : (x : ℤ) → pos 1 *ℤ x ≡ x
    same x = omega (arith, ints)

-- ---- entries

-- the value of a polynomial by its coefficients, one inside the other
horner : List Ratio → Number
horner [] = number_zero
horner (x ∷ xs) = number_of x +ε (epsilon *ε horner xs)

HasSign-horner : (xs : List Ratio) → HasSign (horner xs) (first_sign xs)
unfolding horner first_sign
HasSign-horner [] = HasSign-zero
HasSign-horner (x ∷ xs) = HasSign-add x.num x.den (horner xs) (first_sign xs) x.valid.positive (HasSign-horner xs)

pub sum_of_five : (f : ℕ → Number) → sum_below number_field 5 f ≡ number_zero +ε f 0 +ε f 1 +ε f 2 +ε f 3 +ε f 4
sum_of_five f = sum_last 4 f ∙ ap (λ x. x +ε f 4)
    (sum_last 3 f ∙ ap (λ x. x +ε f 3)
    (sum_last 2 f ∙ ap (λ x. x +ε f 2) (sum_last 1 f ∙ ap (λ x. x +ε f 1) (sum_last 0 f ∙ ap (λ x. x +ε f 0) (sum_nothing f)))))

one_inside_the_other : (a b c d e x : Number) → number_zero +ε a *ε number_one +ε b *ε (x *ε number_one) +ε c *ε (x *ε (x *ε number_one)) +ε d *ε
    (x *ε (x *ε (x *ε number_one))) +ε e *ε (x *ε (x *ε (x *ε (x *ε number_one))))
    ≡ a +ε x *ε (b +ε x *ε (c +ε x *ε (d +ε x *ε (e +ε x *ε number_zero))))
one_inside_the_other a b c d e x = simp number_laws

value_of_five : (a b c d e : Ratio) → entry_value (a ∷ b ∷ c ∷ d ∷ e ∷ []) ≡ horner (a ∷ b ∷ c ∷ d ∷ e ∷ [])
unfolding entry_value power_of_epsilon ratio_at horner
value_of_five a b c d e =
    sum_of_five (λ k. number_at (a ∷ b ∷ c ∷ d ∷ e ∷ []) k *ε power_of_epsilon k)
    ∙ one_inside_the_other (number_of a) (number_of b) (number_of c) (number_of d) (number_of e) epsilon

entry_value-horner : (xs : List Ratio) → length xs ≡ 5 → entry_value xs ≡ horner xs
entry_value-horner [] h = absurd (omega arith)
entry_value-horner (a ∷ []) h = absurd (omega arith)
entry_value-horner (a ∷ b ∷ []) h = absurd (omega arith)
entry_value-horner (a ∷ b ∷ c ∷ []) h = absurd (omega arith)
entry_value-horner (a ∷ b ∷ c ∷ d ∷ []) h = absurd (omega arith)
entry_value-horner (a ∷ b ∷ c ∷ d ∷ e ∷ []) h = value_of_five a b c d e
entry_value-horner (a ∷ b ∷ c ∷ d ∷ e ∷ f ∷ xs) h = absurd (omega arith)

difference_of_fractions : (t u : Terms) → pos 0 <ℤ t.den → pos 0 <ℤ u.den
    → number t -ε number u ≡ fraction (t.num *ℤ u.den +ℤ neg_ℤ u.num *ℤ t.den) (t.den *ℤ u.den)
difference_of_fractions t u h k =
    number_subtract_is (number t) (number u) ∙ ap (λ x. number t +ε x) (fraction-negate u.num u.den (positive_nonzero u.den k))
    ∙ fraction-add t.num t.den (neg_ℤ u.num) u.den (positive_nonzero t.den h) (positive_nonzero u.den k)

taken_first : (a b c : Number) → (a +ε b) -ε c ≡ (a -ε c) +ε b
taken_first a b c = simp number_laws

-- an entry compares with a fraction as its constant does, and where they are equal as the rest does with 0
horner-compare : (x u : Ratio) (xs : List Ratio) → number_compare (horner (x ∷ xs)) (number_of u) ≡ ordering_then
    (number_compare (number_of x) (number_of u)) (first_sign xs)
unfolding number_compare horner
horner-compare x u xs =
    let top = x.num *ℤ u.den +ℤ neg_ℤ u.num *ℤ x.den in
    let bottom = x.den *ℤ u.den in
    let positive : pos 0 <ℤ bottom = product_positive x.den u.den x.valid.positive u.valid.positive in
    let difference = difference_of_fractions (terms x) (terms u) x.valid.positive u.valid.positive in
    let sign : int_sign top ≡ number_sign (number_of x -ε number_of u) =
    sym (ap number_sign difference ∙ fraction-sign top bottom (positive_nonzero bottom positive)
    ∙ int_sign-scale top bottom (positive_in bottom positive)) in
    ap number_sign (taken_first (number_of x) (epsilon *ε horner xs) (number_of u) ∙ ap (λ x. x +ε (epsilon *ε horner xs)) difference)
    ∙ HasSign-sign _ _ (HasSign-add top bottom (horner xs) (first_sign xs) positive (HasSign-horner xs))
    ∙ ap (λ o. ordering_then o (first_sign xs)) sign

pub entry-compare : (e : List Ratio) (u : Ratio) → length e ≡ 5
    → number_compare (entry_value e) (number_of u) ≡ ordering_then (number_compare (number_of (ratio_at e 0)) (number_of u)) (first_sign (drop 1 e))
unfolding ratio_at
entry-compare [] u n = absurd (omega arith)
entry-compare (x ∷ xs) u n = ap (λ v. number_compare v (number_of u)) (entry_value-horner (x ∷ xs) n) ∙ horner-compare x u xs
