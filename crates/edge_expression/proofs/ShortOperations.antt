-- Operations on fractions with short parts are never too wide, and give the lowest terms.
use Rattle.std.proofs.Common.{◌≡◌, ◌≢◌, zero, suc, ◌^◌, true, false, ℤ, pos, negsuc, neg_ℤ, ◌+ℤ◌, ◌-ℤ◌, ◌*ℤ◌, Option}
use Rattle.std.proofs.Common.{Some, Result, Ok, Err, refl, sym, ap, ◌∙◌, arith, lit<}
use Rattle.std.specs.Option.{option_map}
use Rattle.std.specs.Ordering.{int_eq}
use Rattle.std.proofs.lemmas.Bool.Decides.{Decides-int_eq}
use Rattle.std.proofs.lemmas.Int.{ints}
use Rattle.field_core.specs.declared.place.Op.{Op}
use Rattle.field_core.specs.declared.place.Op.TheVariants.{Add, Sub, Mul, Div}
use Rattle.field_core.specs.declared.place.TooWide.{TooWide}
use Rattle.field_core.specs.declared.ratio.Ratio.{Ratio}
use Rattle.field_core.specs.Kind.{ok_map, or_wide, is_zero as is_zero_stored}
use Rattle.field_core.specs.Terms.{Terms, IsReduced}
use Rattle.field_core.specs.View.{terms}
use Rattle.field_core.specs.Laws.Integers.{int_negate_multiply, int_multiply_negate, int_negate_negate}
use Rattle.field_core.specs.Laws.PolynomialLaws.{product_nonzero}
use Rattle.field_core.specs.Laws.Effective.{positive_nonzero}
use Rattle.numerals.specs.Lowest.{lowest_terms}
use Rattle.numerals.specs.Numeral.{Same}
use Rattle.fraction.specs.Plain.{single, pair_of, fraction_parts}
use Rattle.fraction.specs.Tests.{is_zero}
use Rattle.fraction.specs.Within.{IsWithin}
use Rattle.fraction.proofs.ShortTerms.{operation_within, opposite_within, inverse_within}
use Rattle.fraction.specs.Written.{written_add, written_mul, opposite, inverse, inverse_of}
use Rattle.fraction.specs.Laws.CrossProducts.{product_of}
use Rattle.fraction.specs.Laws.Turned.{opposite_reduced, inverse_reduced}
use Rattle.fraction.specs.Laws.WrittenLaws.{add_says, mul_says}
use Rattle.edge_expression.specs.EntryValues.{is_short, short, short_of, sum, difference, product, quotient}
use Rattle.edge_expression.specs.EntryView.{made_short}
use Rattle.numerals.proofs.LowestTerms.{lowest_any}
use Rattle.edge_expression.proofs.ShortNumbers.{short_parts}

-- in lowest terms, with short parts
record IsShort (x : Terms) : Type 0 where
  reduced : IsReduced x
  parts : IsWithin (10 ^ 18) x

is_short_of : (x : Ratio) → is_short (terms x) ≡ true → IsShort (terms x)
is_short_of x s = record { reduced = x.valid; parts = short_parts (terms x) s }

some_product : (x y : Terms) → IsShort x → IsShort y → (x.den *ℤ y.den) ≢ pos 0
some_product x y p q = product_nonzero x.den y.den (positive_nonzero x.den p.reduced.positive) (positive_nonzero y.den q.reduced.positive)

sum_lowest : (x y : Terms) → IsShort x → IsShort y → written_add x y ≡ Some (lowest_terms (x.num *ℤ y.den +ℤ y.num *ℤ x.den) (x.den *ℤ y.den))
sum_lowest x y p q =
    let w = operation_within Add x y (10 ^ 18) (10 ^ 18) p.parts q.parts (lit< tt) in
    let m = add_says x y w.0 p.reduced q.reduced w.1 in
    w.1 ∙ ap Some (sym (lowest_any w.0 (x.num *ℤ y.den +ℤ y.num *ℤ x.den) (x.den *ℤ y.den) m.reduced (some_product x y p q) m.same))

product_lowest : (x y : Terms) → IsShort x → IsShort y → written_mul x y ≡ Some (lowest_terms (x.num *ℤ y.num) (x.den *ℤ y.den))
product_lowest x y p q =
    let w = operation_within Mul x y (10 ^ 18) (10 ^ 18) p.parts q.parts (lit< tt) in
    let m = mul_says x y w.0 p.reduced q.reduced w.1 in
    w.1 ∙ ap Some (sym (lowest_any w.0 (x.num *ℤ y.num) (x.den *ℤ y.den) m.reduced (some_product x y p q) m.same))

opposite_short : (y : Terms) → IsShort y → IsShort (opposite y)
opposite_short y q = record { reduced = opposite_reduced y q.reduced; parts = opposite_within (10 ^ 18) y q.parts }

minus : (a b : ℤ) → a +ℤ neg_ℤ b ≡ a -ℤ b
minus a b = omega (arith, ints)

difference_lowest : (x y : Terms) → IsShort x → IsShort y
    → written_add x (opposite y) ≡ Some (lowest_terms (x.num *ℤ y.den -ℤ y.num *ℤ x.den) (x.den *ℤ y.den))
unfolding opposite
difference_lowest x y p q =
    sum_lowest x (opposite y) p (opposite_short y q) ∙ ap (λ n. Some (lowest_terms n (x.den *ℤ y.den)))
    (ap (λ z. x.num *ℤ y.den +ℤ z) (int_negate_multiply y.num x.den) ∙ minus (x.num *ℤ y.den) (y.num *ℤ x.den))

inverse_short : (y : Terms) → y.num ≢ pos 0 → IsShort y → IsShort (inverse y)
inverse_short y some q = record { reduced = inverse_reduced y q.reduced some; parts = inverse_within (10 ^ 18) y q.parts }

-- a product with an inverse has the value of the quotient
over_inverse : (z : Terms) (n d m e : ℤ) → Same z (product_of (record { num = n; den = d }) (inverse_of m e))
    → Same z (record { num = n *ℤ e; den = d *ℤ m })
over_inverse z n d (pos m) e h = h
over_inverse z n d (negsuc m) e h =
    ap (λ k. z.num *ℤ k) (int_multiply_negate d (pos (suc m)))
    ∙ int_multiply_negate z.num (d *ℤ pos (suc m))
    ∙ ap neg_ℤ (h ∙ ap (λ k. k *ℤ z.den) (int_multiply_negate n e) ∙ int_negate_multiply (n *ℤ e) z.den)
    ∙ int_negate_negate ((n *ℤ e) *ℤ z.den)

quotient_lowest : (x y : Terms) → y.num ≢ pos 0 → IsShort x → IsShort y
    → written_mul x (inverse y) ≡ Some (lowest_terms (x.num *ℤ y.den) (x.den *ℤ y.num))
unfolding inverse
quotient_lowest x y some p q =
    let i = inverse_short y some q in
    let w = operation_within Mul x (inverse y) (10 ^ 18) (10 ^ 18) p.parts i.parts (lit< tt) in
    let m = mul_says x (inverse y) w.0 p.reduced i.reduced w.1 in
    w.1 ∙ ap Some (sym (lowest_any w.0 (x.num *ℤ y.den) (x.den *ℤ y.num) m.reduced
    (product_nonzero x.den y.num (positive_nonzero x.den p.reduced.positive) some) (over_inverse w.0 x.num x.den y.num y.den m.same)))

-- ---- what the operations of the program answer

answered : (op : Op) (r : Result Ratio TooWide) (w : Option Terms) (t : Terms) → ok_map fraction_parts r ≡ or_wide op (option_map single w)
    → w ≡ Some t → made_short (ok_map terms r) ≡ short_of t
answered op (Ok x) w t e h = let g : fraction_parts x ≡ single t =
    (let k : Path (Result _ TooWide) (Ok (fraction_parts x)) (Ok (single t)) = e ∙ ap (λ v. or_wide op (option_map single v)) h in cc) in ap
    (λ p. short_of (pair_of p)) g
answered op (Err f) w t e h = let k : Path (Result _ TooWide) (Err f) (Ok (single t)) = e ∙ ap (λ v. or_wide op (option_map single v)) h in absurd (cc)

pub sum_made : (x y : Ratio) (r : Result Ratio TooWide) → is_short (terms x) ≡ true → is_short (terms y) ≡ true
    → ok_map fraction_parts r ≡ or_wide Add (option_map single (written_add (terms x) (terms y)))
    → made_short (ok_map terms r) ≡ sum (terms x) (terms y)
unfolding short
sum_made x y r s t e = answered Add r _ _ e (sum_lowest (terms x) (terms y) (is_short_of x s) (is_short_of y t))

pub difference_made : (x y : Ratio) (r : Result Ratio TooWide) → is_short (terms x) ≡ true → is_short (terms y) ≡ true
    → ok_map fraction_parts r ≡ or_wide Sub (option_map single (written_add (terms x) (opposite (terms y))))
    → made_short (ok_map terms r) ≡ difference (terms x) (terms y)
unfolding short
difference_made x y r s t e = answered Sub r _ _ e (difference_lowest (terms x) (terms y) (is_short_of x s) (is_short_of y t))

pub product_made : (x y : Ratio) (r : Result Ratio TooWide) → is_short (terms x) ≡ true → is_short (terms y) ≡ true
    → ok_map fraction_parts r ≡ or_wide Mul (option_map single (written_mul (terms x) (terms y)))
    → made_short (ok_map terms r) ≡ product (terms x) (terms y)
unfolding short
product_made x y r s t e = answered Mul r _ _ e (product_lowest (terms x) (terms y) (is_short_of x s) (is_short_of y t))

pub some_number : (z : ℤ) → int_eq z (pos 0) ≡ false → z ≢ pos 0
some_number z h e = let k : int_eq z (pos 0) ≡ true = (Decides-int_eq z (pos 0)).1 e in cc

-- a divisor isn't stored as 0
pub stored_some : (n d : ℤ) → int_eq n (pos 0) ≡ false → is_zero_stored (single (record { num = n; den = d })) ≡ false
unfolding is_zero_stored
stored_some (pos zero) d h = absurd (cc)
stored_some (pos (suc n)) d h = refl
stored_some (negsuc n) d h = refl

pub quotient_made : (x y : Ratio) (r : Result Ratio TooWide) → is_short (terms x) ≡ true → is_short (terms y) ≡ true
    → is_zero (terms y) ≡ false → ok_map fraction_parts r ≡ or_wide Div (option_map single (written_mul (terms x) (inverse (terms y))))
    → made_short (ok_map terms r) ≡ quotient (terms x) (terms y)
unfolding short
quotient_made x y r s t some e = answered Div r _ _ e (quotient_lowest (terms x) (terms y) (some_number y.num some) (is_short_of x s) (is_short_of y t))
