-- A text has at most one reading.
use Rattle.std.proofs.Common.{◌≡◌, ℕ, ◌⊎◌, inl, inr, List, [], ◌∷◌, ◌++◌, length, ℤ, pos, negsuc, ◌-ℤ◌, ◌<ℤ◌, Option}
use Rattle.std.proofs.Common.{Some, None, refl, sym, ap, ap₂, subst, ◌∙◌, arith}
use Rattle.std.specs.Str.Parse.{digits_value}
use Rattle.std.proofs.lemmas.Int.{ints}
use Rattle.field_core.specs.Terms.{Terms}
use Rattle.field_core.specs.Laws.Effective.{positive_nonzero}
use Rattle.numerals.specs.declared.fault.NumberFault.{NumberFault}
use Rattle.numerals.specs.declared.fault.NumberFault.TheVariants.{Empty, BadByte, ZeroDenominator, TooManyDigits}
use Rattle.numerals.specs.Numeral.{AreDigits, sign_text, IsSign, is_minus, Exponent, exponent_text, IsExponent, exponent_of, Body, Plain, Pointed, Pair}
use Rattle.numerals.specs.Numeral.{body_text, IsBody, IsNumeral, over_power, value_of, HasZeroDenominator, HasTooManyDigits, IsNumeralOf, IsParseFault, Same}
use Rattle.field_core.proofs.Heads.{heads}
use Rattle.numerals.specs.Laws.Unique.{reduced_unique, same_through}
use Rattle.numerals.specs.Prefixes.{IsBadByte}
use Rattle.numerals.proofs.Cut.{front_of, rest_of, cut_at, body_cut, exponent_no_digit, exponent_apart}
use Rattle.numerals.proofs.DigitNumbers.{power_some}
use Rattle.numerals.proofs.SignedTexts.{numeral_split}

-- ---- the parts of a text

-- a sign is not a digit
sign_no_digit : (b : ℕ) (ds es : List ℕ) → (b ≡ 43) ⊎ (b ≡ 45) → AreDigits ds → ds ≡ b ∷ es → ⊥
sign_no_digit b [] es s h e = cc
sign_no_digit b (d ∷ ds) es (inl f) h e = let k = (heads d b ds es e).0 in omega (arith, h.0)
sign_no_digit b (d ∷ ds) es (inr f) h e = let k = (heads d b ds es e).0 in omega (arith, h.0)

signs_unique : (s t : Option ℕ) (ds es : List ℕ) → IsSign s → IsSign t → AreDigits ds → AreDigits es → sign_text s ++ ds ≡ sign_text t ++ es
    → (s ≡ t) × (ds ≡ es)
signs_unique None None ds es h k d e q = (refl, q)
signs_unique None (Some b) ds es h k d e q = absurd (sign_no_digit b ds es k d q)
signs_unique (Some b) None ds es h k d e q = absurd (sign_no_digit b es ds h e (sym q))
signs_unique (Some b) (Some c) ds es h k d e q = (ap Some (heads b c ds es q).0, (heads b c ds es q).1)

exponent_same : (e f : Exponent) → e.mark ≡ f.mark → e.sign ≡ f.sign → e.digits ≡ f.digits → e ≡ f
exponent_same e f p q r = λ i. record { mark = p i; sign = q i; digits = r i }

exponents_unique : (e f : Option Exponent) → IsExponent e → IsExponent f → exponent_text e ≡ exponent_text f → e ≡ f
exponents_unique None None h k q = refl
exponents_unique None (Some f) h k q = absurd cc
exponents_unique (Some e) None h k q = absurd cc
exponents_unique (Some e) (Some f) h k q =
    let mark = (heads e.mark f.mark _ _ q).0 in
    let rest = signs_unique e.sign f.sign e.digits f.digits h.1 k.1 h.2 k.2 (heads e.mark f.mark _ _ q).1 in
    ap Some (exponent_same e f mark rest.0 rest.1)

bodies_by : (b c : Body) → IsBody b → IsBody c → front_of b ≡ front_of c → rest_of b ≡ rest_of c → b ≡ c
bodies_by (Plain a e) (Plain b f) h k p q = ap₂ Plain p (exponents_unique e f h.2 k.2 q)
bodies_by (Plain a e) (Pointed b c f) h k p q = absurd (exponent_apart e 46 _ h.2 (omega arith) (sym q))
bodies_by (Plain a e) (Pair b c) h k p q = absurd (exponent_apart e 47 _ h.2 (omega arith) (sym q))
bodies_by (Pointed a b e) (Plain c f) h k p q = absurd (exponent_apart f 46 _ k.2 (omega arith) q)
bodies_by (Pointed a b e) (Pointed c d f) h k p q =
    let behind = (heads 46 46 _ _ q).1 in
    let x = cut_at b (exponent_text e) (b ++ exponent_text e) h.1 (exponent_no_digit e h.3) refl in
    let y = cut_at d (exponent_text f) (b ++ exponent_text e) k.1 (exponent_no_digit f k.3) behind in
    let digits : b ≡ d = sym x.front_is ∙ y.front_is in
    let exponent : e ≡ f = exponents_unique e f h.3 k.3 (sym x.rest_is ∙ y.rest_is) in
    ap₂ (λ w g. Pointed w g e) p digits ∙ ap (λ g. Pointed c d g) exponent
bodies_by (Pointed a b e) (Pair c d) h k p q = let n = (heads 46 47 _ _ q).0 in absurd (omega arith)
bodies_by (Pair a b) (Plain c f) h k p q = absurd (exponent_apart f 47 _ k.2 (omega arith) q)
bodies_by (Pair a b) (Pointed c d f) h k p q = let n = (heads 47 46 _ _ q).0 in absurd (omega arith)
bodies_by (Pair a b) (Pair c d) h k p q = ap₂ Pair p (heads 47 47 b d q).1

bodies_unique : (b c : Body) → IsBody b → IsBody c → body_text b ≡ body_text c → b ≡ c
bodies_unique b c h k q =
    let x = body_cut b (body_text b) h refl in
    let y = body_cut c (body_text b) k q in
    bodies_by b c h k (sym x.front_is ∙ y.front_is) (sym x.rest_is ∙ y.rest_is)

pub body_unique : (text : List ℕ) (n m : IsNumeral text) → n.body ≡ m.body
body_unique text n m = bodies_unique n.body m.body n.is_body m.is_body (sym (numeral_split text n).behind ∙ (numeral_split text m).behind)

pub minus_unique : (text : List ℕ) (n m : IsNumeral text) → is_minus n.sign ≡ is_minus m.sign
minus_unique text n m = sym (numeral_split text n).minus ∙ (numeral_split text m).minus

value_by_minus : (s t : Option ℕ) (b : Body) → is_minus s ≡ is_minus t → value_of s b ≡ value_of t b
unfolding value_of
value_by_minus s t (Plain a e) h = rw h refl
value_by_minus s t (Pointed a b e) h = rw h refl
value_by_minus s t (Pair a b) h = rw h refl

pub value_unique : (text : List ℕ) (n m : IsNumeral text) → value_of n.sign n.body ≡ value_of m.sign m.body
value_unique text n m = value_by_minus n.sign m.sign n.body (minus_unique text n m) ∙ ap (value_of m.sign) (body_unique text n m)

-- ---- one value, and one fault

power_positive : (n : ℤ) (s : ℤ) → pos 0 <ℤ (over_power n s).den
power_positive n (pos s) = let p = power_some s in omega (arith, ints)
power_positive n (negsuc s) = omega (arith, ints)

pub value_positive : (s : Option ℕ) (b : Body) → ¬ HasZeroDenominator b → pos 0 <ℤ (value_of s b).den
unfolding value_of HasZeroDenominator
value_positive s (Plain a e) h = power_positive _ (pos 0 -ℤ exponent_of e)
value_positive s (Pointed a b e) h = power_positive _ (pos (length b) -ℤ exponent_of e)
value_positive s (Pair a b) h = let some : ¬ (digits_value 10 b ≡ 0) = h in omega (arith, ints)

pub one_value : (text : List ℕ) (t u : Terms) → IsNumeralOf text t → IsNumeralOf text u → t ≡ u
one_value text t u h k =
    let other : Same u (value_of h.numeral.sign h.numeral.body) = subst (λ v. Same u v) (value_unique text k.numeral h.numeral) k.same in
    reduced_unique t u h.lowest k.lowest (same_through t u (value_of h.numeral.sign h.numeral.body)
    (positive_nonzero _ (value_positive h.numeral.sign h.numeral.body h.defined)) h.same other)

body_some : (body : Body) → IsBody body → ¬ (body_text body ≡ [])
body_some (Plain [] e) h q = omega (arith, h.1)
body_some (Plain (d ∷ ds) e) h q = cc
body_some (Pointed [] b e) h q = cc
body_some (Pointed (d ∷ ds) b e) h q = cc
body_some (Pair [] b) h q = omega (arith, h.1)
body_some (Pair (d ∷ ds) b) h q = cc

spelt_some : (s : Option ℕ) (rest : List ℕ) → ¬ (rest ≡ []) → ¬ (sign_text s ++ rest ≡ [])
spelt_some None rest h q = h q
spelt_some (Some b) rest h q = cc

not_empty : (text : List ℕ) → IsNumeral text → ¬ (text ≡ [])
not_empty text n q = spelt_some n.sign (body_text n.body) (body_some n.body n.is_body) (sym n.spelt ∙ q)

pub value_or_fault : (text : List ℕ) (t : Terms) (f : NumberFault) → IsNumeralOf text t → ¬ IsParseFault text f
unfolding IsParseFault
value_or_fault text t Empty h f = not_empty text h.numeral f
value_or_fault text t (BadByte n) h f = f.1.refused h.numeral
value_or_fault text t ZeroDenominator h f = h.defined (subst HasZeroDenominator (body_unique text f.0 h.numeral) f.1)
value_or_fault text t TooManyDigits h f = h.within (subst HasTooManyDigits (body_unique text f.0 h.numeral) f.1.1)

one_place : (text : List ℕ) (m n : ℕ) → IsBadByte IsNumeral text m → IsBadByte IsNumeral text n → m ≡ n
one_place text m n h k = omega (arith, h.longest n k.within k.begins, k.longest m h.within h.begins)

pub one_fault : (text : List ℕ) (f g : NumberFault) → IsParseFault text f → IsParseFault text g → f ≡ g
unfolding IsParseFault
one_fault text Empty Empty h k = refl
one_fault text Empty (BadByte n) h k = absurd (k.0 h)
one_fault text Empty ZeroDenominator h k = absurd (not_empty text k.0 h)
one_fault text Empty TooManyDigits h k = absurd (not_empty text k.0 h)
one_fault text (BadByte m) Empty h k = absurd (h.0 k)
one_fault text (BadByte m) (BadByte n) h k = ap BadByte (one_place text m n h.1 k.1)
one_fault text (BadByte m) ZeroDenominator h k = absurd (h.1.refused k.0)
one_fault text (BadByte m) TooManyDigits h k = absurd (h.1.refused k.0)
one_fault text ZeroDenominator Empty h k = absurd (not_empty text h.0 k)
one_fault text ZeroDenominator (BadByte n) h k = absurd (k.1.refused h.0)
one_fault text ZeroDenominator ZeroDenominator h k = refl
one_fault text ZeroDenominator TooManyDigits h k = absurd (k.1.0 (subst HasZeroDenominator (body_unique text h.0 k.0) h.1))
one_fault text TooManyDigits Empty h k = absurd (not_empty text h.0 k)
one_fault text TooManyDigits (BadByte n) h k = absurd (k.1.refused h.0)
one_fault text TooManyDigits ZeroDenominator h k = absurd (h.1.0 (subst HasZeroDenominator (body_unique text k.0 h.0) k.1))
one_fault text TooManyDigits TooManyDigits h k = refl
