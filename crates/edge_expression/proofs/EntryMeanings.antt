-- An entry is the number that its expression means.
use Rattle.std.proofs.Common.{◌≡◌, ℕ, zero, suc, ◌+◌, ◌-◌, ◌<◌, ◌≤◌, inl, inr, Bool, true, false, cond, List, [], ◌∷◌, map, pos}
use Rattle.std.proofs.Common.{◌<ℤ◌, Option, Some, None, Result, Ok, Err, refl, sym, ap, ap₂, subst, ◌∙◌, arith}
use Rattle.std.specs.Prelude.{nat_lt}
use Rattle.std.proofs.lemmas.Bool.{ltb-false, cases_lt}
use Rattle.std.proofs.lemmas.Int.{ints}
use Rattle.std.proofs.lemmas.Bool.Decides.{Decides-int_eq}
use Rattle.field_core.specs.Terms.{Terms, IsReduced}
use Rattle.field_core.specs.View.{terms}
use Rattle.field_core.specs.declared.ratio.Ratio.{Ratio}
use Rattle.field_core.specs.NumberField.{number_field}
use Rattle.field_core.specs.Sums.{sum_below}
use mathlib.Core.Path.{fun_ext}
use Rattle.case_model.proofs.Same.{terms_at-map}
use Rattle.field_core.specs.Number.{Number as Value}
use Rattle.field_core.specs.Epsilon.{epsilon}
use Rattle.field_core.specs.Arithmetic.{number_zero, number_one, ◌+ε◌, ◌-ε◌, ◌*ε◌, ◌/ε◌}
use Rattle.field_core.specs.Exact.{value_of as stored_value}
use Rattle.field_core.specs.Fractions.{fraction}
use Rattle.field_core.specs.Laws.FractionLaws.{fraction-zero}
use Rattle.field_core.specs.Laws.Effective.{positive_nonzero}
use Rattle.field_core.specs.Laws.Order.{number_laws}
use Rattle.fraction.specs.Laws.PlainLaws.{plain_is_exact}
use Rattle.numerals.specs.Numeral.{value_of}
use Rattle.fraction.specs.Plain.{zero_reduced, one_reduced}
use Rattle.case_model.specs.Entries.{power_of_epsilon, entry_value}
use Rattle.fraction.specs.Tests.{is_zero}
use Rattle.edge_expression.specs.EntryValues.{zero_coefficients, plain_entry, short, sum, difference, product, quotient, coefficients, joined, degree_within}
use Rattle.edge_expression.specs.EntryValues.{degree, product_sum, times, over, short_of, decimal_entry, unit_at, power_value, epsilon_value, sign_or_plus}
use Rattle.edge_expression.specs.EntryValues.{value, with_terms, term_value, with_factors, factor_value, further_value}
use Rattle.case_model.specs.Sums.{number, terms_at, zero_terms}
use Rattle.case_model.proofs.EntryOrder.{sum_of_five}
use Rattle.edge_expression.specs.declared.value_fault.ValueFault.{ValueFault}
use Rattle.edge_expression.specs.declared.value_fault.ValueFault.TheVariants.{DivisorNotNumber, ZeroDivisor, Degree}
use Rattle.edge_expression.specs.Expressions.{Power, Sign, Plus, Minus, Expression, Sum, MoreTerms, NoTerm, AndTerm, Term, Product, MoreFactors, NoFactor}
use Rattle.edge_expression.specs.Expressions.{Times, Over, Beside, Factor, Number, Other, Further, Epsilon, Parens}
use Rattle.field_core.specs.Laws.Prefixes.{bind_ok}
use Rattle.edge_expression.specs.ExpressionStatements.{moved, power_meant, meaning, and_terms, term_meaning, and_factors, factor_meaning, further_meaning}
use Rattle.edge_expression.proofs.UnitEntries.{tabled}
use Rattle.edge_expression.proofs.ShortNumbers.{IsNumber, short_number, sum_number, product_number, difference_number, quotient_number}
use Rattle.edge_expression.proofs.ShortOperations.{some_number}
use Rattle.numerals.specs.Lowest.{lowest_terms}
use Rattle.numerals.specs.Decimals.{Decimal, has_too_many_digits, decimal_value}
use Rattle.fraction.proofs.DecimalValues.{decimal_some}
use Rattle.field_core.proofs.Results.{same_value}

-- ---- identities of numbers

-- the value of five coefficients, with the powers of a number
unfoldable pub by_powers : (a b c d e x : Value) → Value
by_powers a b c d e x =
    number_zero +ε a *ε number_one +ε b *ε (x *ε number_one) +ε c *ε (x *ε (x *ε number_one)) +ε d *ε (x *ε (x *ε (x *ε number_one)))
    +ε e *ε (x *ε (x *ε (x *ε (x *ε number_one))))

-- the sum of the first n products of coefficients that make power k
unfoldable pub products : (ℕ → Value) → (ℕ → Value) → ℕ → ℕ → Value
products f g k zero = number_zero
products f g k (suc i) = products f g k i +ε f i *ε g (k - i)

unfoldable pub all_products : (ℕ → Value) → (ℕ → Value) → Value → Value
all_products f g x = by_powers (products f g 0 1) (products f g 1 2) (products f g 2 3) (products f g 3 4) (products f g 4 5) x

-- what the products of coefficients past power 4 add
unfoldable pub past : (a b c d e f g h i j x : Value) → Value
past a b c d e f g h i j x =
    number_zero +ε (b *ε j) *ε (x *ε (x *ε (x *ε (x *ε (x *ε number_one))))) +ε (c *ε i) *ε
    (x *ε (x *ε (x *ε (x *ε (x *ε number_one))))) +ε (c *ε j) *ε (x *ε (x *ε (x *ε (x *ε (x *ε (x *ε number_one)))))) +ε
    (d *ε h) *ε (x *ε (x *ε (x *ε (x *ε (x *ε number_one))))) +ε (d *ε i) *ε
    (x *ε (x *ε (x *ε (x *ε (x *ε (x *ε number_one)))))) +ε (d *ε j) *ε
    (x *ε (x *ε (x *ε (x *ε (x *ε (x *ε (x *ε number_one))))))) +ε (e *ε g) *ε (x *ε (x *ε (x *ε (x *ε (x *ε number_one))))) +ε
    (e *ε h) *ε (x *ε (x *ε (x *ε (x *ε (x *ε (x *ε number_one)))))) +ε (e *ε i) *ε
    (x *ε (x *ε (x *ε (x *ε (x *ε (x *ε (x *ε number_one))))))) +ε (e *ε j) *ε
    (x *ε (x *ε (x *ε (x *ε (x *ε (x *ε (x *ε (x *ε number_one))))))))

unfoldable pub low_products : (a b c d e f g h i j x : Value) → Value
low_products a b c d e f g h i j x =
    number_zero +ε (number_zero +ε a *ε f) *ε number_one +ε ((number_zero +ε a *ε g) +ε b *ε f) *ε (x *ε number_one) +ε
    (((number_zero +ε a *ε h) +ε b *ε g) +ε c *ε f) *ε (x *ε (x *ε number_one)) +ε
    ((((number_zero +ε a *ε i) +ε b *ε h) +ε c *ε g) +ε d *ε f) *ε (x *ε (x *ε (x *ε number_one))) +ε
    (((((number_zero +ε a *ε j) +ε b *ε i) +ε c *ε h) +ε d *ε g) +ε e *ε f) *ε (x *ε (x *ε (x *ε (x *ε number_one))))

product_by : (a b c d e f g h i j x : Value)
    → (number_zero +ε (number_zero +ε a *ε f) *ε number_one +ε ((number_zero +ε a *ε g) +ε b *ε f) *ε (x *ε number_one) +ε
    (((number_zero +ε a *ε h) +ε b *ε g) +ε c *ε f) *ε (x *ε (x *ε number_one)) +ε
    ((((number_zero +ε a *ε i) +ε b *ε h) +ε c *ε g) +ε d *ε f) *ε (x *ε (x *ε (x *ε number_one))) +ε
    (((((number_zero +ε a *ε j) +ε b *ε i) +ε c *ε h) +ε d *ε g) +ε e *ε f) *ε (x *ε (x *ε (x *ε (x *ε number_one))))) +ε
    (number_zero +ε (b *ε j) *ε (x *ε (x *ε (x *ε (x *ε (x *ε number_one))))) +ε (c *ε i) *ε
    (x *ε (x *ε (x *ε (x *ε (x *ε number_one))))) +ε (c *ε j) *ε (x *ε (x *ε (x *ε (x *ε (x *ε (x *ε number_one)))))) +ε (d *ε h) *ε
    (x *ε (x *ε (x *ε (x *ε (x *ε number_one))))) +ε (d *ε i) *ε (x *ε (x *ε (x *ε (x *ε (x *ε (x *ε number_one)))))) +ε (d *ε j) *ε
    (x *ε (x *ε (x *ε (x *ε (x *ε (x *ε (x *ε number_one))))))) +ε (e *ε g) *ε (x *ε (x *ε (x *ε (x *ε (x *ε number_one))))) +ε
    (e *ε h) *ε (x *ε (x *ε (x *ε (x *ε (x *ε (x *ε number_one)))))) +ε (e *ε i) *ε
    (x *ε (x *ε (x *ε (x *ε (x *ε (x *ε (x *ε number_one))))))) +ε (e *ε j) *ε
    (x *ε (x *ε (x *ε (x *ε (x *ε (x *ε (x *ε (x *ε number_one))))))))) ≡ (number_zero +ε a *ε number_one +ε b *ε (x *ε number_one) +ε c *ε
    (x *ε (x *ε number_one)) +ε d *ε (x *ε (x *ε (x *ε number_one))) +ε e *ε (x *ε (x *ε (x *ε (x *ε number_one))))) *ε
    (number_zero +ε f *ε number_one +ε g *ε (x *ε number_one) +ε h *ε (x *ε (x *ε number_one)) +ε i *ε
    (x *ε (x *ε (x *ε number_one))) +ε j *ε (x *ε (x *ε (x *ε (x *ε number_one)))))
product_by a b c d e f g h i j x = simp number_laws

pub product_of : (a b c d e f g h i j x : Value)
    → low_products a b c d e f g h i j x +ε past a b c d e f g h i j x ≡ by_powers a b c d e x *ε by_powers f g h i j x
unfolding low_products past by_powers
product_of a b c d e f g h i j x = product_by a b c d e f g h i j x

zeros : (p q r s t u v w x y : Value)
    → number_zero +ε number_zero *ε p +ε number_zero *ε q +ε number_zero *ε r +ε number_zero *ε s +ε number_zero *ε t +ε number_zero *ε u +ε
    number_zero *ε v +ε number_zero *ε w +ε number_zero *ε x +ε number_zero *ε y ≡ number_zero
zeros p q r s t u v w x y = simp number_laws

past_none : (a b c d e f g h i j x : Value) → b *ε j ≡ number_zero → c *ε i ≡ number_zero → c *ε j ≡ number_zero
    → d *ε h ≡ number_zero → d *ε i ≡ number_zero → d *ε j ≡ number_zero → e *ε g ≡ number_zero → e *ε h ≡ number_zero
    → e *ε i ≡ number_zero → e *ε j ≡ number_zero → past a b c d e f g h i j x ≡ number_zero
unfolding past
past_none a b c d e f g h i j x e1 e2 e3 e4 e5 e6 e7 e8 e9 e10 = rw (e1, e2, e3, e4, e5, e6, e7, e8, e9, e10) (zeros _ _ _ _ _ _ _ _ _ _)

-- ---- entries by their coefficients

-- the number at a place
abbrev pub value_at : List Terms → ℕ → Value
value_at x k = number (terms_at x k)

-- the value of coefficients by their terms
unfoldable pub terms_value : List Terms → Value
terms_value x = sum_below number_field 5 (λ k. value_at x k *ε power_of_epsilon k)

-- an entry of coefficients in lowest terms that is this number
pub record IsMeant (x : List Terms) (v : Value) : Type 0 where
  pub reduced : (k : ℕ) → IsReduced (terms_at x k)
  pub is : terms_value x ≡ v

value_by_powers : (x : List Terms) → terms_value x ≡ by_powers (value_at x 0) (value_at x 1) (value_at x 2) (value_at x 3) (value_at x 4) epsilon
unfolding terms_value power_of_epsilon by_powers
value_by_powers x = sum_of_five (λ k. value_at x k *ε power_of_epsilon k)

as_meant : (x : List Terms) (v w : Value) → v ≡ w → IsMeant x v → IsMeant x w
as_meant x v w e h = record { reduced = h.reduced; is = h.is ∙ e }

reduced_by : (a b c d e : Terms) → IsReduced a → IsReduced b → IsReduced c → IsReduced d → IsReduced e → (k : ℕ)
    → IsReduced (terms_at (a ∷ b ∷ c ∷ d ∷ e ∷ []) k)
unfolding terms_at
reduced_by a b c d e p q r s t zero = p
reduced_by a b c d e p q r s t (suc zero) = q
reduced_by a b c d e p q r s t (suc (suc zero)) = r
reduced_by a b c d e p q r s t (suc (suc (suc zero))) = s
reduced_by a b c d e p q r s t (suc (suc (suc (suc zero)))) = t
reduced_by a b c d e p q r s t (suc (suc (suc (suc (suc k))))) = zero_reduced

value_of_list : (a b c d e : Terms)
    → terms_value (a ∷ b ∷ c ∷ d ∷ e ∷ []) ≡ by_powers (number a) (number b) (number c) (number d) (number e) epsilon
unfolding terms_at
value_of_list a b c d e = value_by_powers (a ∷ b ∷ c ∷ d ∷ e ∷ [])

of_five : (a b c d e : Terms) (u v w x y : Value) → IsNumber a u → IsNumber b v → IsNumber c w → IsNumber d x → IsNumber e y
    → IsMeant (a ∷ b ∷ c ∷ d ∷ e ∷ []) (by_powers u v w x y epsilon)
of_five a b c d e u v w x y p q r s t =
    record {
      reduced = reduced_by a b c d e p.reduced q.reduced r.reduced s.reduced t.reduced;
      is = value_of_list a b c d e
          ∙ rw (p.is, q.is, r.is, s.is, t.is) refl;
    }

-- ---- results

-- coefficients that are these numbers, where all are made
all_meant : (f : ℕ → Result Terms ValueFault) (g : ℕ → Value) (z : List Terms) → coefficients f ≡ Ok z
    → ((k : ℕ) (t : Terms) → f k ≡ Ok t → IsNumber t (g k)) → IsMeant z (by_powers (g 0) (g 1) (g 2) (g 3) (g 4) epsilon)
unfolding coefficients
all_meant f g z h is =
    let a = bind_ok (f 0) _ z h in
    let b = bind_ok (f 1) _ z a.1.1 in
    let c = bind_ok (f 2) _ z b.1.1 in
    let d = bind_ok (f 3) _ z c.1.1 in
    let e = bind_ok (f 4) _ z d.1.1 in
    let n = of_five a.0 b.0 c.0 d.0 e.0 (g 0) (g 1) (g 2) (g 3) (g 4) (is 0 a.0 a.1.0) (is 1 b.0 b.1.0) (is 2 c.0 c.1.0) (is 3 d.0 d.1.0) (is 4 e.0 e.1.0) in
    subst (λ l. IsMeant l (by_powers (g 0) (g 1) (g 2) (g 3) (g 4) epsilon)) (same_value (a.0 ∷ b.0 ∷ c.0 ∷ d.0 ∷ e.0 ∷ []) z e.1.1) n

-- ---- sums and differences

plus_powers : (a b c d e f g h i j x : Value)
    → by_powers (a +ε f) (b +ε g) (c +ε h) (d +ε i) (e +ε j) x ≡ by_powers a b c d e x +ε by_powers f g h i j x
unfolding by_powers
plus_powers a b c d e f g h i j x = simp number_laws

minus_powers : (a b c d e f g h i j x : Value)
    → by_powers (a -ε f) (b -ε g) (c -ε h) (d -ε i) (e -ε j) x ≡ by_powers a b c d e x -ε by_powers f g h i j x
unfolding by_powers
minus_powers a b c d e f g h i j x = simp number_laws

over_powers : (a b c d e y x : Value) → by_powers (a /ε y) (b /ε y) (c /ε y) (d /ε y) (e /ε y) x ≡ by_powers a b c d e x /ε y
unfolding by_powers
over_powers a b c d e y x = simp number_laws

constant_powers : (a x : Value) → by_powers a number_zero number_zero number_zero number_zero x ≡ a
unfolding by_powers
constant_powers a x = simp number_laws

joined_meant : (sign : Sign) (x y z : List Terms) (v w : Value) → IsMeant x v → IsMeant y w → joined sign x y ≡ Ok z → IsMeant z (moved sign v w)
unfolding joined
joined_meant Plus x y z v w p q h =
    let n = all_meant (λ k. sum (terms_at x k) (terms_at y k)) (λ k. value_at x k +ε value_at y k) z h
    (λ k t e. sum_number (terms_at x k) (terms_at y k) t (p.reduced k).positive (q.reduced k).positive e) in
    as_meant z _ (v +ε w) (plus_powers _ _ _ _ _ _ _ _ _ _ epsilon
    ∙ ap₂ (λ a b. a +ε b) (sym (value_by_powers x) ∙ p.is) (sym (value_by_powers y) ∙ q.is)) n
joined_meant Minus x y z v w p q h =
    let n = all_meant (λ k. difference (terms_at x k) (terms_at y k)) (λ k. value_at x k -ε value_at y k) z h
    (λ k t e. difference_number (terms_at x k) (terms_at y k) t (p.reduced k).positive (q.reduced k).positive e) in
    as_meant z _ (v -ε w) (minus_powers _ _ _ _ _ _ _ _ _ _ epsilon
    ∙ ap₂ (λ a b. a -ε b) (sym (value_by_powers x) ∙ p.is) (sym (value_by_powers y) ∙ q.is)) n

-- ---- coefficients above the degree

zero_by : (b : Bool) (n k m : ℕ) → cond b m (suc n) < k → k ≤ suc n → (b ≡ true) × (m < k)
zero_by true n k m h l = (refl, h)
zero_by false n k m h l = absurd (omega (arith, h, l))

above : (n k : ℕ) (x : List Terms) → degree_within n x < k → k ≤ n → is_zero (terms_at x k) ≡ true
unfolding degree_within
above zero k x h l = absurd (omega (arith, h, l))
above (suc n) k x h l =
    let z = zero_by (is_zero (terms_at x (suc n))) n k (degree_within n x) h l in
    elim (cases_lt k (suc n)) [
      | inl lt ↦ above n k x z.1 (omega (arith, lt))
      | inr ge ↦ let same : k ≡ suc n = omega (arith, l, ge) in ap (λ j. is_zero (terms_at x j)) same ∙ z.0
    ]

number_none : (t : Terms) → pos 0 <ℤ t.den → is_zero t ≡ true → number t ≡ number_zero
number_none t p h = ap (λ n. fraction n t.den) ((Decides-int_eq t.num (pos 0)).0 h) ∙ fraction-zero t.den (positive_nonzero t.den p)

none_above : (x : List Terms) (k : ℕ) → ((j : ℕ) → IsReduced (terms_at x j)) → degree x < k → k ≤ 4 → value_at x k ≡ number_zero
none_above x k p h l = number_none (terms_at x k) (p k).positive (above 4 k x h l)

zero_times : (x : Value) → number_zero *ε x ≡ number_zero
zero_times x = simp number_laws

times_zero : (x : Value) → x *ε number_zero ≡ number_zero
times_zero x = simp number_laws

pair_none : (x y : List Terms) (i j : ℕ) → ((k : ℕ) → IsReduced (terms_at x k)) → ((k : ℕ) → IsReduced (terms_at y k))
    → degree x + degree y ≤ 4 → 4 < i + j → i ≤ 4 → j ≤ 4 → value_at x i *ε value_at y j ≡ number_zero
pair_none x y i j p q d s h k = elim (cases_lt (degree x) i) [
  | inl lt ↦ ap (λ v. v *ε value_at y j) (none_above x i p lt h) ∙ zero_times (value_at y j)
  | inr ge ↦ ap (λ v. value_at x i *ε v) (none_above y j q (omega (arith, d, s, ge)) k) ∙ times_zero (value_at x i)
]

-- ---- products

zero_is : IsNumber zero_terms number_zero
zero_is = record { reduced = zero_reduced; is = fraction-zero (pos 1) (λ e. omega (arith, ints)) }

pub products_at : (x y : List Terms) (k n : ℕ) (t : Terms) → ((j : ℕ) → IsReduced (terms_at x j)) → ((j : ℕ) → IsReduced (terms_at y j))
    → product_sum x y k n ≡ Ok t → IsNumber t (products (value_at x) (value_at y) k n)
unfolding product_sum products
products_at x y k zero t p q h = subst (λ u. IsNumber u number_zero) (same_value zero_terms t h) zero_is
products_at x y k (suc n) t p q h =
    let s = bind_ok (product_sum x y k n) _ t h in
    let u = bind_ok (product (terms_at x n) (terms_at y (k - n))) _ t s.1.1 in
    let before = products_at x y k n s.0 p q s.1.0 in
    let next = product_number (terms_at x n) (terms_at y (k - n)) u.0 (p n).positive (q (k - n)).positive u.1.0 in
    let both = sum_number s.0 u.0 t before.reduced.positive next.reduced.positive u.1.1 in
    record { reduced = both.reduced; is = both.is ∙ ap₂ (λ a b. a +ε b) before.is next.is }

all_are_low : (f g : ℕ → Value) (x : Value) → all_products f g x ≡ low_products (f 0) (f 1) (f 2) (f 3) (f 4) (g 0) (g 1) (g 2) (g 3) (g 4) x
unfolding all_products products low_products by_powers
all_are_low f g x = refl

add_none : (x : Value) → x +ε number_zero ≡ x
add_none x = simp number_laws

all_of : (x y : List Terms) → ((j : ℕ) → IsReduced (terms_at x j)) → ((j : ℕ) → IsReduced (terms_at y j)) → degree x + degree y ≤ 4
    → all_products (value_at x) (value_at y) epsilon ≡ terms_value x *ε terms_value y
all_of x y p q d =
    let a = value_at x 0 in
    let b = value_at x 1 in
    let c = value_at x 2 in
    let e = value_at x 3 in
    let f = value_at x 4 in
    let g = value_at y 0 in
    let h = value_at y 1 in
    let i = value_at y 2 in
    let j = value_at y 3 in
    let k = value_at y 4 in
    let low = low_products a b c e f g h i j k epsilon in
    let none : past a b c e f g h i j k epsilon ≡ number_zero =
    past_none a b c e f g h i j k epsilon (pair_none x y 1 4 p q d (omega arith) (omega arith) (omega arith))
    (pair_none x y 2 3 p q d (omega arith) (omega arith) (omega arith)) (pair_none x y 2 4 p q d (omega arith) (omega arith) (omega arith))
    (pair_none x y 3 2 p q d (omega arith) (omega arith) (omega arith)) (pair_none x y 3 3 p q d (omega arith) (omega arith) (omega arith))
    (pair_none x y 3 4 p q d (omega arith) (omega arith) (omega arith))
    (pair_none x y 4 1 p q d (omega arith) (omega arith) (omega arith)) (pair_none x y 4 2 p q d (omega arith) (omega arith) (omega arith))
    (pair_none x y 4 3 p q d (omega arith) (omega arith) (omega arith)) (pair_none x y 4 4 p q d (omega arith) (omega arith) (omega arith)) in
    all_are_low (value_at x) (value_at y) epsilon ∙ sym (ap (λ v. low +ε v) none ∙ add_none low) ∙ product_of a b c e f g h i j k epsilon
    ∙ ap₂ (λ v w. v *ε w) (sym (value_by_powers x)) (sym (value_by_powers y))

low_degree : (b : Bool) (n : ℕ) (r : Result (List Terms) ValueFault) (z : List Terms) → nat_lt 4 n ≡ b → cond b (Err Degree) r ≡ Ok z
    → (n ≤ 4) × (r ≡ Ok z)
low_degree true n r z e h = absurd cc
low_degree false n r z e h = (ltb-false 4 n e, h)

times_meant : (x y z : List Terms) (v w : Value) → IsMeant x v → IsMeant y w → times x y ≡ Ok z → IsMeant z (v *ε w)
unfolding times all_products
times_meant x y z v w p q h =
    let l = low_degree (nat_lt 4 (degree x + degree y)) (degree x + degree y) (coefficients (λ k. product_sum x y k (suc k))) z refl h in
    let n = all_meant (λ k. product_sum x y k (suc k)) (λ k. products (value_at x) (value_at y) k (suc k)) z l.1
    (λ k t e. products_at x y k (suc k) t p.reduced q.reduced e) in
    as_meant z _ (v *ε w) (all_of x y p.reduced q.reduced l.0 ∙ ap₂ (λ a b. a *ε b) p.is q.is) n

-- ---- quotients

number_divisor : (b c : Bool) (n : ℕ) (r : Result (List Terms) ValueFault) (z : List Terms) → nat_lt 0 n ≡ b
    → cond b (Err DivisorNotNumber) (cond c (Err ZeroDivisor) r) ≡ Ok z → (n ≤ 0) × ((c ≡ false) × (r ≡ Ok z))
number_divisor true c n r z e h = absurd cc
number_divisor false true n r z e h = absurd cc
number_divisor false false n r z e h = (ltb-false 0 n e, (refl, h))

divisor_is : (y : List Terms) → ((j : ℕ) → IsReduced (terms_at y j)) → degree y ≤ 0 → terms_value y ≡ value_at y 0
divisor_is y q d =
    value_by_powers y ∙ rw (
      none_above y 1 q (omega (arith, d)) (omega arith),
      none_above y 2 q (omega (arith, d)) (omega arith),
      none_above y 3 q (omega (arith, d)) (omega arith),
      none_above y 4 q (omega (arith, d)) (omega arith),
    ) (constant_powers (value_at y 0) epsilon)

over_meant : (x y z : List Terms) (v w : Value) → IsMeant x v → IsMeant y w → over x y ≡ Ok z → IsMeant z (v /ε w)
unfolding over
over_meant x y z v w p q h =
    let l = number_divisor (nat_lt 0 (degree y)) (is_zero (terms_at y 0)) (degree y) (coefficients (λ k. quotient (terms_at x k) (terms_at y 0))) z refl h in
    let n = all_meant (λ k. quotient (terms_at x k) (terms_at y 0)) (λ k. value_at x k /ε value_at y 0) z l.1.1
    (λ k t e. quotient_number (terms_at x k) (terms_at y 0) t (p.reduced k).positive (q.reduced 0).positive (some_number (terms_at y 0).num l.1.0) e) in
    as_meant z _ (v /ε w) (over_powers _ _ _ _ _ (value_at y 0) epsilon
    ∙ ap₂ (λ a b. a /ε b) (sym (value_by_powers x) ∙ p.is) (sym (divisor_is y q.reduced l.0) ∙ q.is)) n

-- ---- literals

plain_meant : (t : Terms) (v : Value) → IsNumber t v → IsMeant (plain_entry t) v
plain_meant t v h =
    as_meant (plain_entry t) _ v (constant_powers v epsilon)
    (of_five t zero_terms zero_terms zero_terms zero_terms v number_zero number_zero number_zero number_zero h zero_is zero_is zero_is zero_is)

decimal_by : (b : Bool) (l : Terms) (x : List Terms) → decimal_entry (cond b None (Some l)) ≡ Ok x
    → (t : Terms) × ((short_of l ≡ Ok t) × (plain_entry t ≡ x))
decimal_by true l x h = absurd cc
decimal_by false l x h = let b = bind_ok (short_of l) (λ t. Ok (plain_entry t)) x h in (b.0, (b.1.0, same_value (plain_entry b.0) x b.1.1))

decimal_meant : (d : Decimal) (x : List Terms) → decimal_entry (decimal_value d) ≡ Ok x
    → IsMeant x (fraction (value_of None d.body).num (value_of None d.body).den)
unfolding decimal_value short
decimal_meant d x h =
    let v = value_of None d.body in
    let t = decimal_by (has_too_many_digits d.body) (lowest_terms v.num v.den) x h in
    subst (λ l. IsMeant l (fraction v.num v.den)) t.1.1 (plain_meant t.0 (fraction v.num v.den) (short_number v.num v.den t.0 (decimal_some d) t.1.0))

one_is : IsNumber (record { num = pos 1; den = pos 1 }) number_one
unfolding stored_value
one_is = record { reduced = one_reduced; is = plain_is_exact.one_value }

zero_entry : IsMeant zero_coefficients number_zero
zero_entry = plain_meant zero_terms number_zero zero_is

epsilon_0 : (x : Value) → by_powers number_one number_zero number_zero number_zero number_zero x ≡ number_one
epsilon_0 x = constant_powers number_one x

power_1 : (p q r s t : Value) → number_zero +ε number_zero *ε p +ε number_one *ε q +ε number_zero *ε r +ε number_zero *ε s +ε number_zero *ε t ≡ q
power_1 p q r s t = simp number_laws

power_2 : (p q r s t : Value) → number_zero +ε number_zero *ε p +ε number_zero *ε q +ε number_one *ε r +ε number_zero *ε s +ε number_zero *ε t ≡ r
power_2 p q r s t = simp number_laws

power_3 : (p q r s t : Value) → number_zero +ε number_zero *ε p +ε number_zero *ε q +ε number_zero *ε r +ε number_one *ε s +ε number_zero *ε t ≡ s
power_3 p q r s t = simp number_laws

power_4 : (p q r s t : Value) → number_zero +ε number_zero *ε p +ε number_zero *ε q +ε number_zero *ε r +ε number_zero *ε s +ε number_one *ε t ≡ t
power_4 p q r s t = simp number_laws

unit_meant : (p : ℕ) → p ≤ 4 → IsMeant (tabled (unit_at p)) (power_of_epsilon p)
unfolding power_of_epsilon by_powers
unit_meant zero h =
    as_meant _ _ number_one (epsilon_0 epsilon)
    (of_five _ _ _ _ _ number_one number_zero number_zero number_zero number_zero one_is zero_is zero_is zero_is zero_is)
unit_meant (suc zero) h =
    as_meant _ _ _ (power_1 _ _ _ _ _) (of_five _ _ _ _ _ number_zero number_one number_zero number_zero number_zero zero_is one_is zero_is zero_is zero_is)
unit_meant (suc (suc zero)) h =
    as_meant _ _ _ (power_2 _ _ _ _ _) (of_five _ _ _ _ _ number_zero number_zero number_one number_zero number_zero zero_is zero_is one_is zero_is zero_is)
unit_meant (suc (suc (suc zero))) h =
    as_meant _ _ _ (power_3 _ _ _ _ _) (of_five _ _ _ _ _ number_zero number_zero number_zero number_one number_zero zero_is zero_is zero_is one_is zero_is)
unit_meant (suc (suc (suc (suc zero)))) h =
    as_meant _ _ _ (power_4 _ _ _ _ _) (of_five _ _ _ _ _ number_zero number_zero number_zero number_zero number_one zero_is zero_is zero_is zero_is one_is)
unit_meant (suc (suc (suc (suc (suc p))))) h = absurd (omega arith)

power_meaning : (p : ℕ) (x : List Terms) → power_value p ≡ Ok x → IsMeant x (power_of_epsilon p)
unfolding power_value coefficients
power_meaning p x h =
    let l = low_degree (nat_lt 4 p) p (Ok (tabled (unit_at p))) x refl h in
    subst (λ t. IsMeant t (power_of_epsilon p)) (same_value (tabled (unit_at p)) x l.1) (unit_meant p l.0)

epsilon_meaning : (power : Option Power) (x : List Terms) → epsilon_value power ≡ Ok x → IsMeant x (power_meant power)
epsilon_meaning None x h = power_meaning 1 x h
epsilon_meaning (Some power) x h = power_meaning power.power x h

-- ---- expressions

mutual
  unfolding value meaning

  expression_meant : (e : Expression) (x : List Terms) → value e ≡ Ok x → IsMeant x (meaning e)
  expression_meant (Sum sign first others) x h =
      let t = bind_ok (term_value first) _ x h in
      let s = bind_ok (joined (sign_or_plus sign) zero_coefficients t.0) _ x t.1.1 in
      terms_meant others s.0 (moved (sign_or_plus sign) number_zero (term_meaning first)) x
      (joined_meant (sign_or_plus sign) zero_coefficients t.0 s.0 number_zero (term_meaning first) zero_entry (term_meant first t.0 t.1.0) s.1.0) s.1.1

  terms_meant : (ts : MoreTerms) (s : List Terms) (v : Value) (x : List Terms) → IsMeant s v → with_terms s ts ≡ Ok x → IsMeant x (and_terms v ts)
  terms_meant NoTerm s v x m h = subst (λ l. IsMeant l v) (same_value s x h) m
  terms_meant (AndTerm sign term others) s v x m h =
      let t = bind_ok (term_value term) _ x h in
      let l = bind_ok (joined sign s t.0) _ x t.1.1 in
      terms_meant others l.0 (moved sign v (term_meaning term)) x (joined_meant sign s t.0 l.0 v (term_meaning term) m (term_meant term t.0 t.1.0) l.1.0) l.1.1

  term_meant : (t : Term) (x : List Terms) → term_value t ≡ Ok x → IsMeant x (term_meaning t)
  term_meant (Product first others) x h = let f = bind_ok (factor_value first) _ x h in factors_meant others f.0 (factor_meaning first) x
      (factor_meant first f.0 f.1.0) f.1.1

  factors_meant : (fs : MoreFactors) (p : List Terms) (v : Value) (x : List Terms) → IsMeant p v → with_factors p fs ≡ Ok x
      → IsMeant x (and_factors v fs)
  factors_meant NoFactor p v x m h = subst (λ l. IsMeant l v) (same_value p x h) m
  factors_meant (Times factor others) p v x m h =
      let f = bind_ok (factor_value factor) _ x h in
      let l = bind_ok (times p f.0) _ x f.1.1 in
      factors_meant others l.0 (v *ε factor_meaning factor) x (times_meant p f.0 l.0 v (factor_meaning factor) m (factor_meant factor f.0 f.1.0) l.1.0) l.1.1
  factors_meant (Over divisor others) p v x m h =
      let f = bind_ok (factor_value divisor) _ x h in
      let l = bind_ok (over p f.0) _ x f.1.1 in
      factors_meant others l.0 (v /ε factor_meaning divisor) x (over_meant p f.0 l.0 v (factor_meaning divisor) m (factor_meant divisor f.0 f.1.0) l.1.0) l.1.1
  factors_meant (Beside factor others) p v x m h =
      let f = bind_ok (further_value factor) _ x h in
      let l = bind_ok (times p f.0) _ x f.1.1 in
      factors_meant others l.0 (v *ε further_meaning factor) x
      (times_meant p f.0 l.0 v (further_meaning factor) m (further_meant factor f.0 f.1.0) l.1.0) l.1.1

  factor_meant : (f : Factor) (x : List Terms) → factor_value f ≡ Ok x → IsMeant x (factor_meaning f)
  factor_meant (Number d) x h = decimal_meant d x h
  factor_meant (Other further) x h = further_meant further x h

  further_meant : (f : Further) (x : List Terms) → further_value f ≡ Ok x → IsMeant x (further_meaning f)
  further_meant (Epsilon power) x h = epsilon_meaning power x h
  further_meant (Parens inner) x h = expression_meant inner x h

-- its coefficients are in lowest terms
pub value_reduced : (e : Expression) (x : List Terms) → value e ≡ Ok x → (k : ℕ) → IsReduced (terms_at x k)
value_reduced e x h = (expression_meant e x h).reduced

value_of_ratios : (x : List Ratio) → entry_value x ≡ terms_value (map terms x)
unfolding entry_value terms_value
value_of_ratios x = ap (sum_below number_field 5) (fun_ext (λ k. ap (λ t. number t *ε power_of_epsilon k) (sym (terms_at-map x k))))

-- an entry is the number that its expression means
pub entry_is_meant : (e : Expression) (x : List Ratio) → value e ≡ Ok (map terms x) → entry_value x ≡ meaning e
entry_is_meant e x h = value_of_ratios x ∙ (expression_meant e (map terms x) h).is
