-- How many bytes of a text begin a decimal.
use Rattle.std.proofs.Common.{◌≡◌, ℕ, suc, ◌+◌, ◌<◌, ◌≤◌, true, List, [], ◌∷◌, ◌++◌, length, get_or, drop, Option, Some, None}
use Rattle.std.proofs.Common.{sym, ap, ◌∙◌, arith}
use Rattle.std.proofs.lemmas.List.{drop_more, drop_all}
use Rattle.field_core.proofs.Longest.{accepts_then, count, count_then, count_nil, count_cons, IsLongest, stops_behind}
use Rattle.numerals.specs.Numeral.{body_text}
use Rattle.numerals.specs.declared.decimal_machine.DecimalPart.{DecimalPart}
use Rattle.numerals.specs.declared.decimal_machine.DecimalPart.TheVariants as parts
use Rattle.numerals.specs.DecimalMachine.{class_of, decimal_step, decimal_byte, may_end, decimal_length}
use Rattle.numerals.specs.Decimals.{Decimal, IsDecimal}
use Rattle.numerals.proofs.DecimalTexts.{takes, takes_nil, takes_cons, decimal_taken, is_decimal_text}

abbrev pub counted : List ℕ → DecimalPart → ℕ
counted t p = count decimal_byte t p

pub counted_nil : (p : DecimalPart) → counted [] p ≡ 0
counted_nil p = count_nil decimal_byte may_end p

pub counted_cons : (b : ℕ) (t : List ℕ) (p : DecimalPart) → counted (b ∷ t) p ≡ count_then (count decimal_byte t) (decimal_step p (class_of b))
counted_cons b t p = count_cons decimal_byte may_end b t p

pub counted_on : (text : List ℕ) (i : ℕ) (p q : DecimalPart) → i < length text → decimal_step p (class_of (get_or text i 0)) ≡ Some q
    → counted (drop i text) p ≡ 1 + counted (drop (i + 1) text) q
counted_on text i p q lt e = ap (λ (x : List ℕ). counted x p) (drop_more text i 0 lt) ∙ counted_cons (get_or text i 0) (drop (i + 1) text) p
    ∙ ap (count_then (count decimal_byte (drop (i + 1) text))) e

pub counted_off : (text : List ℕ) (i : ℕ) (p : DecimalPart) → i < length text → decimal_step p (class_of (get_or text i 0)) ≡ None
    → counted (drop i text) p ≡ 0
counted_off text i p lt e = ap (λ (x : List ℕ). counted x p) (drop_more text i 0 lt) ∙ counted_cons (get_or text i 0) (drop (i + 1) text) p
    ∙ ap (count_then (count decimal_byte (drop (i + 1) text))) e

pub counted_end : (text : List ℕ) (i : ℕ) (p : DecimalPart) → length text ≤ i → counted (drop i text) p ≡ 0
counted_end text i p h = ap (λ (x : List ℕ). counted x p) (drop_all i text h) ∙ counted_nil p

-- ---- a decimal before what can't belong to it

-- no decimal continues with this text
abbrev pub Stops : List ℕ → Type 0
Stops [] = Unit {0}
Stops (b ∷ t) = (p : DecimalPart) → may_end p ≡ true → decimal_step p (class_of b) ≡ None

stops_at : (t : List ℕ) (p : DecimalPart) → Stops t → may_end p ≡ true → counted t p ≡ 0
stops_at [] p h e = counted_nil p
stops_at (b ∷ t) p h e = counted_cons b t p ∙ ap (count_then (count decimal_byte t)) (h p e)

length_by : (x t : List ℕ) (o : Option DecimalPart) → ((q : DecimalPart) → takes x q ≡ true → counted (x ++ t) q ≡ length x)
    → accepts_then (takes x) o ≡ true → count_then (count decimal_byte (x ++ t)) o ≡ suc (length x)
length_by x t None r h = absurd cc
length_by x t (Some q) r h = omega (arith, r q h)

counted_length : (x t : List ℕ) (p : DecimalPart) → Stops t → takes x p ≡ true → counted (x ++ t) p ≡ length x
counted_length [] t p s h = stops_at t p s (sym (takes_nil p) ∙ h)
counted_length (b ∷ x) t p s h = counted_cons b (x ++ t) p
    ∙ length_by x t (decimal_step p (class_of b)) (λ q e. counted_length x t q s e) (sym (takes_cons b x p) ∙ h)

pub decimal_front : (d : Decimal) (t : List ℕ) → Stops t → decimal_length (body_text d.body ++ t) ≡ length (body_text d.body)
unfolding decimal_length
decimal_front d t s = counted_length (body_text d.body) t parts.Start s (decimal_taken d)

-- ---- the longest prefix with which a decimal begins

-- how a decimal may end of which so much was read
pub completion : DecimalPart → List ℕ
completion parts.Whole = []
completion parts.Fraction = []
completion parts.Exponent = []
completion part = 48 ∷ []

digit_completes : (p : DecimalPart) → accepts_then (takes []) (decimal_step p (class_of 48)) ≡ true → takes (48 ∷ []) p ≡ true
digit_completes p h = takes_cons 48 [] p ∙ h

pub completes : (p : DecimalPart) → takes (completion p) p ≡ true
unfolding completion class_of
completes parts.Start = digit_completes parts.Start (takes_nil parts.Whole)
completes parts.Whole = takes_nil parts.Whole
completes parts.Point = digit_completes parts.Point (takes_nil parts.Fraction)
completes parts.Fraction = takes_nil parts.Fraction
completes parts.Mark = digit_completes parts.Mark (takes_nil parts.Exponent)
completes parts.MarkSigned = digit_completes parts.MarkSigned (takes_nil parts.Exponent)
completes parts.Exponent = takes_nil parts.Exponent

taken : (t : List ℕ) → IsDecimal t → takes t parts.Start ≡ true
taken t d = ap (λ (x : List ℕ). takes x parts.Start) d.spelt ∙ decimal_taken d.decimal

pub is_longest : (t : List ℕ) (n : ℕ) → n ≡ decimal_length t → IsLongest IsDecimal t n
unfolding decimal_length
is_longest t n e = rw e (stops_behind decimal_byte may_end completion completes IsDecimal parts.Start taken is_decimal_text t)
