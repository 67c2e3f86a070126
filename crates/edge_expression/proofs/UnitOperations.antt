-- Operations of fractions with 0 and 1.
use Rattle.std.proofs.Common.{◌≡◌, true, ℤ, pos, negsuc, neg_ℤ, ◌+ℤ◌, ◌-ℤ◌, ◌*ℤ◌, ◌<ℤ◌, Ok, refl, sym, ap₂, ◌∙◌}
use Rattle.std.proofs.Common.{arith}
use Rattle.std.proofs.lemmas.Int.{ints}
use Rattle.field_core.specs.Terms.{Terms, IsReduced}
use Rattle.field_core.specs.Laws.Effective.{positive_nonzero}
use Rattle.numerals.specs.Laws.Unique.{reduced_unique}
use Rattle.std.proofs.lemmas.Bool.Decides.{Decides-int_eq}
use Rattle.numerals.specs.Numeral.{Same}
use Rattle.numerals.specs.Lowest.{lowest_terms}
use Rattle.fraction.specs.Plain.{zero_reduced, one_reduced}
use Rattle.fraction.specs.Tests.{is_zero}
use Rattle.case_model.specs.Sums.{zero_terms}
use Rattle.edge_expression.specs.EntryValues.{is_short, short_of, short, sum, difference, product, quotient}
use Rattle.numerals.proofs.LowestTerms.{lowest_any}
use Rattle.field_core.specs.Laws.Integers.{int_multiply_one}
use lib.IntN.{zero-*ℤ}
use Rattle.field_core.proofs.Wholes.{less_nothing}

-- in lowest terms, with parts of at most 10^18
abbrev pub IsShortTerms : Terms → Type 0
IsShortTerms t = IsReduced t × (is_short t ≡ true)

abbrev pub one_terms : Terms
one_terms = record { num = pos 1; den = pos 1 }

one_left : (x : ℤ) → pos 1 *ℤ x ≡ x
one_left x = omega (arith, ints)

zero_right : (x : ℤ) → x *ℤ pos 0 ≡ pos 0
zero_right x = omega (arith, ints)

plus_zero : (x : ℤ) → x +ℤ pos 0 ≡ x
plus_zero x = omega (arith, ints)

zero_plus : (x : ℤ) → pos 0 +ℤ x ≡ x
zero_plus x = omega (arith, ints)

short_by : (t : Terms) (n d : ℤ) → IsShortTerms t → lowest_terms n d ≡ t → short n d ≡ Ok t
unfolding short short_of
short_by t n d s e = rw (e, s.1) refl

pub short_is : (t : Terms) (n d : ℤ) → IsShortTerms t → pos 0 <ℤ d → Same t (record { num = n; den = d }) → short n d ≡ Ok t
short_is t n d s p h = short_by t n d s (lowest_any t n d s.0 (positive_nonzero d p) h)

pub short_self : (t : Terms) → IsShortTerms t → short t.num t.den ≡ Ok t
short_self t s = short_is t t.num t.den s s.0.positive refl

pub zero_short : IsShortTerms zero_terms
zero_short = (zero_reduced, refl)

pub one_short : IsShortTerms one_terms
one_short = (one_reduced, refl)

-- 0 over any number above 0
nothing : (d : ℤ) → pos 0 <ℤ d → short (pos 0) d ≡ Ok zero_terms
nothing d p = short_is zero_terms (pos 0) d zero_short p (zero-*ℤ d ∙ sym (zero-*ℤ (pos 1)))

pub sum_zero_left : (t : Terms) → IsShortTerms t → sum zero_terms t ≡ Ok t
sum_zero_left t s = ap₂ short (ap₂ ◌+ℤ◌ (zero-*ℤ t.den) (int_multiply_one t.num) ∙ zero_plus t.num) (one_left t.den) ∙ short_self t s

pub sum_zero_right : (t : Terms) → IsShortTerms t → sum t zero_terms ≡ Ok t
sum_zero_right t s = ap₂ short (ap₂ ◌+ℤ◌ (int_multiply_one t.num) (zero-*ℤ t.den) ∙ plus_zero t.num) (int_multiply_one t.den) ∙ short_self t s

pub difference_zero_right : (t : Terms) → IsShortTerms t → difference t zero_terms ≡ Ok t
difference_zero_right t s = ap₂ short (ap₂ ◌-ℤ◌ (int_multiply_one t.num) (zero-*ℤ t.den) ∙ less_nothing t.num) (int_multiply_one t.den) ∙ short_self t s

zero_minus : (x : ℤ) → pos 0 -ℤ x ≡ neg_ℤ x
zero_minus (pos n) = omega (arith, ints)
zero_minus (negsuc n) = omega (arith, ints)

-- 0 less a fraction is its opposite
pub difference_zero_left : (t c : Terms) → IsShortTerms c → c.num ≡ neg_ℤ t.num → c.den ≡ t.den → difference zero_terms t ≡ Ok c
difference_zero_left t c s n d =
    ap₂ short (ap₂ ◌-ℤ◌ (zero-*ℤ t.den) (int_multiply_one t.num) ∙ zero_minus t.num ∙ sym n) (one_left t.den ∙ sym d) ∙ short_self c s

pub product_one_right : (t : Terms) → IsShortTerms t → product t one_terms ≡ Ok t
product_one_right t s = ap₂ short (int_multiply_one t.num) (int_multiply_one t.den) ∙ short_self t s

pub product_zero_left : (t : Terms) → IsShortTerms t → product zero_terms t ≡ Ok zero_terms
product_zero_left t s = ap₂ short (zero-*ℤ t.num) (one_left t.den) ∙ nothing t.den s.0.positive

pub product_zero_right : (t : Terms) → IsShortTerms t → product t zero_terms ≡ Ok zero_terms
product_zero_right t s = ap₂ short (zero_right t.num) (int_multiply_one t.den) ∙ nothing t.den s.0.positive

-- the quotient of the parts of a fraction
pub quotient_parts : (t : Terms) → IsShortTerms t → quotient (record { num = t.num; den = pos 1 }) (record { num = t.den; den = pos 1 }) ≡ Ok t
quotient_parts t s = ap₂ short (int_multiply_one t.num) (one_left t.den) ∙ short_self t s

pub quotient_zero : (d : ℤ) → pos 0 <ℤ d → quotient zero_terms (record { num = d; den = pos 1 }) ≡ Ok zero_terms
quotient_zero d p = ap₂ short (int_multiply_one (pos 0)) (one_left d) ∙ nothing d p

-- ---- a fraction that is 0

pub zero_is : (t : Terms) → IsReduced t → is_zero t ≡ true → t ≡ zero_terms
zero_is t r h = let n : t.num ≡ pos 0 = (Decides-int_eq t.num (pos 0)).0 h in reduced_unique t zero_terms r zero_reduced
    (int_multiply_one t.num ∙ n ∙ sym (zero-*ℤ t.den))
