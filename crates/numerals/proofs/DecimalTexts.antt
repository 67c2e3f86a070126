-- The machine of decimals takes the decimals and no other text.
use Rattle.std.proofs.Common.{◌≡◌, ℕ, ◌+◌, ◌<◌, ◌≤◌, ◌⊎◌, Bool, true, false, List, [], ◌∷◌, ◌++◌, length, Option, Some}
use Rattle.std.proofs.Common.{None, refl, sym, ap, ap₂, ◌∙◌, append_assoc, length-append, arith}
use Rattle.std.proofs.lemmas.List.{append-nil}
use Rattle.field_core.proofs.Longest.{accepts, accepts_then, accepts_nil, accepts_cons}
use Rattle.numerals.specs.Numeral.{AreDigits, sign_text, IsSign, Exponent, exponent_text, IsExponent, Body, Plain, Pointed, Pair, body_text, IsBody}
use Rattle.numerals.specs.declared.byte_class.Class.{Class}
use Rattle.numerals.specs.declared.byte_class.Class.TheVariants as classes
use Rattle.numerals.specs.declared.decimal_machine.DecimalPart.{DecimalPart}
use Rattle.numerals.specs.declared.decimal_machine.DecimalPart.TheVariants as parts
use Rattle.numerals.specs.DecimalMachine.{class_of, decimal_step, decimal_byte, may_end}
use Rattle.numerals.specs.Decimals.{IsPair, Decimal, IsDecimal}
use Rattle.numerals.proofs.Classes.{IsOf, class_is, class_digit, class_sign, class_mark, class_point}

-- the bytes t may follow a part of a decimal, and end it
abbrev pub takes : List ℕ → DecimalPart → Bool
takes t p = accepts decimal_byte may_end t p

pub takes_nil : (p : DecimalPart) → takes [] p ≡ may_end p
takes_nil p = accepts_nil decimal_byte may_end p

pub takes_cons : (b : ℕ) (t : List ℕ) (p : DecimalPart) → takes (b ∷ t) p ≡ accepts_then (takes t) (decimal_step p (class_of b))
takes_cons b t p = accepts_cons decimal_byte may_end b t p

-- ---- each decimal is taken

takes_by : (b : ℕ) (t : List ℕ) (p q : DecimalPart) (c : Class) → class_of b ≡ c → decimal_step p c ≡ Some q → takes (b ∷ t) p ≡ takes t q
takes_by b t p q c e f = takes_cons b t p ∙ rw (e, f) refl

digits_stay : (ds t : List ℕ) (p : DecimalPart) → AreDigits ds → decimal_step p classes.Digit ≡ Some p → takes (ds ++ t) p ≡ takes t p
digits_stay [] t p h e = refl
digits_stay (d ∷ ds) t p h e = takes_by d (ds ++ t) p p classes.Digit (class_digit d h.0 h.1) e ∙ digits_stay ds t p h.2 e

digits_enter : (ds t : List ℕ) (p q : DecimalPart) → AreDigits ds → 0 < length ds → decimal_step p classes.Digit ≡ Some q
    → decimal_step q classes.Digit ≡ Some q → takes (ds ++ t) p ≡ takes t q
digits_enter [] t p q h n e f = absurd (omega arith)
digits_enter (d ∷ ds) t p q h n e f = takes_by d (ds ++ t) p q classes.Digit (class_digit d h.0 h.1) e ∙ digits_stay ds t q h.2 f

all_digits : (ds : List ℕ) (p q : DecimalPart) → AreDigits ds → 0 < length ds → decimal_step p classes.Digit ≡ Some q
    → decimal_step q classes.Digit ≡ Some q → may_end q ≡ true → takes ds p ≡ true
all_digits ds p q h n e f end = ap (λ (x : List ℕ). takes x p) (sym (append-nil ds)) ∙ digits_enter ds [] p q h n e f ∙ takes_nil q ∙ end

signed_taken : (sign : Option ℕ) (ds : List ℕ) → IsSign sign → AreDigits ds → 0 < length ds → takes (sign_text sign ++ ds) parts.Mark ≡ true
signed_taken None ds h d n = all_digits ds parts.Mark parts.Exponent d n refl refl refl
signed_taken (Some b) ds h d n = takes_by b ds parts.Mark parts.MarkSigned classes.Sign (class_sign b h) refl
    ∙ all_digits ds parts.MarkSigned parts.Exponent d n refl refl refl

exponent_taken : (e : Option Exponent) (p : DecimalPart) → IsExponent e → may_end p ≡ true → decimal_step p classes.Mark ≡ Some parts.Mark
    → takes (exponent_text e) p ≡ true
exponent_taken None p h f m = takes_nil p ∙ f
exponent_taken (Some e) p h f m = takes_by e.mark (sign_text e.sign ++ e.digits) p parts.Mark classes.Mark (class_mark e.mark h.0) m
    ∙ signed_taken e.sign e.digits h.1 h.2 h.3

fraction_taken : (ds : List ℕ) (e : Option Exponent) → AreDigits ds → IsExponent e → takes (ds ++ exponent_text e) parts.Fraction ≡ true
fraction_taken ds e h k = digits_stay ds (exponent_text e) parts.Fraction h refl ∙ exponent_taken e parts.Fraction k refl refl

pub body_taken : (body : Body) → IsBody body → ¬ IsPair body → takes (body_text body) parts.Start ≡ true
body_taken (Plain whole e) h n = digits_enter whole (exponent_text e) parts.Start parts.Whole h.0 h.1 refl refl ∙ exponent_taken e parts.Whole h.2 refl refl
body_taken (Pointed [] ds e) h n =
    takes_by 46 (ds ++ exponent_text e) parts.Start parts.Point classes.Point class_point refl
    ∙ digits_enter ds (exponent_text e) parts.Point parts.Fraction h.1 (omega (arith, h.2)) refl refl ∙ exponent_taken e parts.Fraction h.3 refl refl
body_taken (Pointed (b ∷ bs) ds e) h n =
    ap (λ (x : List ℕ). takes x parts.Start) (append_assoc (b ∷ bs) (46 ∷ ds) (exponent_text e))
    ∙ digits_enter (b ∷ bs) (46 ∷ (ds ++ exponent_text e)) parts.Start parts.Whole h.0 (omega arith) refl refl
    ∙ takes_by 46 (ds ++ exponent_text e) parts.Whole parts.Fraction classes.Point class_point refl ∙ fraction_taken ds e h.1 h.3
body_taken (Pair over under) h n = absurd (n tt)

pub decimal_taken : (d : Decimal) → takes (body_text d.body) parts.Start ≡ true
decimal_taken d = body_taken d.body d.is_body d.no_pair

-- ---- what is taken is a decimal

none_taken : (p : DecimalPart) → may_end p ≡ false → takes [] p ≡ true → ⊥
none_taken p f h = let e = sym f ∙ sym (takes_nil p) ∙ h in cc

exponent_by : (b : ℕ) (t : List ℕ) (c : Class) → IsOf c b → (takes t parts.Exponent ≡ true → AreDigits t)
    → accepts_then (takes t) (decimal_step parts.Exponent c) ≡ true → AreDigits (b ∷ t)
exponent_by b t classes.Digit k r h = (k.0, k.1, r h)
exponent_by b t c k r h = absurd cc

exponent : (t : List ℕ) → takes t parts.Exponent ≡ true → AreDigits t
exponent [] h = tt
exponent (b ∷ t) h = exponent_by b t (class_of b) (class_is b) (λ e. exponent t e) (sym (takes_cons b t parts.Exponent) ∙ h)

mark_signed_by : (b : ℕ) (t : List ℕ) (c : Class) → IsOf c b → accepts_then (takes t) (decimal_step parts.MarkSigned c) ≡ true → AreDigits (b ∷ t)
mark_signed_by b t classes.Digit k h = (k.0, k.1, exponent t h)
mark_signed_by b t c k h = absurd cc

mark_signed : (t : List ℕ) → takes t parts.MarkSigned ≡ true → AreDigits t × (0 < length t)
mark_signed [] h = absurd (none_taken parts.MarkSigned refl h)
mark_signed (b ∷ t) h = (mark_signed_by b t (class_of b) (class_is b) (sym (takes_cons b t parts.MarkSigned) ∙ h), omega arith)

record IsTail (t : List ℕ) : Type 0 where
  sign : Option ℕ
  digits : List ℕ
  is_sign : IsSign sign
  are : AreDigits digits
  some : 0 < length digits
  spelt : t ≡ sign_text sign ++ digits

mark_by : (b : ℕ) (t : List ℕ) (c : Class) → IsOf c b → accepts_then (takes t) (decimal_step parts.Mark c) ≡ true → IsTail (b ∷ t)
mark_by b t classes.Digit k h = record { sign = None; digits = b ∷ t; is_sign = tt; are = (k.0, k.1, exponent t h); some = omega arith; spelt = refl }
mark_by b t classes.Sign k h = let m = mark_signed t h in record { sign = Some b; digits = t; is_sign = k; are = m.0; some = m.1; spelt = refl }
mark_by b t c k h = absurd cc

mark : (t : List ℕ) → takes t parts.Mark ≡ true → IsTail t
mark [] h = absurd (none_taken parts.Mark refl h)
mark (b ∷ t) h = mark_by b t (class_of b) (class_is b) (sym (takes_cons b t parts.Mark) ∙ h)

-- digits after a point, and an exponent
record IsBehind (t : List ℕ) : Type 0 where
  digits : List ℕ
  exponent : Option Exponent
  are : AreDigits digits
  is : IsExponent exponent
  spelt : t ≡ digits ++ exponent_text exponent

mark_of : (b : ℕ) (t : List ℕ) → (b ≡ 101) ⊎ (b ≡ 69) → IsTail t → (e : Exponent) × IsExponent (Some e) × (b ∷ t ≡ exponent_text (Some e))
mark_of b t k r = (record { mark = b; sign = r.sign; digits = r.digits }, (k, r.is_sign, r.are, r.some), ap (λ (x : List ℕ). b ∷ x) r.spelt)

fraction_by : (b : ℕ) (t : List ℕ) (c : Class) → IsOf c b → (takes t parts.Fraction ≡ true → IsBehind t)
    → accepts_then (takes t) (decimal_step parts.Fraction c) ≡ true → IsBehind (b ∷ t)
fraction_by b t classes.Digit k r h = let m = r h in
    record { digits = b ∷ m.digits; exponent = m.exponent; are = (k.0, k.1, m.are); is = m.is; spelt = ap (λ (x : List ℕ). b ∷ x) m.spelt }
fraction_by b t classes.Mark k r h = let m = mark_of b t k (mark t h) in record { digits = []; exponent = Some m.0; are = tt; is = m.1; spelt = m.2 }
fraction_by b t c k r h = absurd cc

fraction : (t : List ℕ) → takes t parts.Fraction ≡ true → IsBehind t
fraction [] h = record { digits = []; exponent = None; are = tt; is = tt; spelt = refl }
fraction (b ∷ t) h = fraction_by b t (class_of b) (class_is b) (λ e. fraction t e) (sym (takes_cons b t parts.Fraction) ∙ h)

pointed : (whole ds : List ℕ) (e : Option Exponent) → AreDigits whole → AreDigits ds → 0 < length whole + length ds → IsExponent e → Decimal
pointed whole ds e w d n k = record { body = Pointed whole ds e; is_body = (w, d, n, k); no_pair = λ x. x }

plain : (whole : List ℕ) (e : Option Exponent) → AreDigits whole → 0 < length whole → IsExponent e → Decimal
plain whole e w n k = record { body = Plain whole e; is_body = (w, n, k); no_pair = λ x. x }

point_by : (b : ℕ) (t : List ℕ) (c : Class) → IsOf c b → accepts_then (takes t) (decimal_step parts.Point c) ≡ true → IsDecimal (46 ∷ b ∷ t)
unfolding pointed
point_by b t classes.Digit k h =
    let m = fraction t h in
    record { decimal = pointed [] (b ∷ m.digits) m.exponent tt (k.0, k.1, m.are) (omega arith) m.is; spelt = ap (λ (x : List ℕ). 46 ∷ b ∷ x) m.spelt }
point_by b t c k h = absurd cc

point : (t : List ℕ) → takes t parts.Point ≡ true → IsDecimal (46 ∷ t)
point [] h = absurd (none_taken parts.Point refl h)
point (b ∷ t) h = point_by b t (class_of b) (class_is b) (sym (takes_cons b t parts.Point) ∙ h)

digits_more : (ds : List ℕ) (b : ℕ) → AreDigits ds → 48 ≤ b → b ≤ 57 → AreDigits (ds ++ b ∷ [])
digits_more [] b h k l = (k, l, tt)
digits_more (d ∷ ds) b h k l = (h.0, h.1, digits_more ds b h.2 k l)

-- after the digits ds
whole_by : (b : ℕ) (t ds : List ℕ) (c : Class) → IsOf c b → AreDigits ds → 0 < length ds
    → (AreDigits (ds ++ b ∷ []) → takes t parts.Whole ≡ true → IsDecimal ((ds ++ b ∷ []) ++ t))
    → accepts_then (takes t) (decimal_step parts.Whole c) ≡ true → IsDecimal (ds ++ b ∷ t)
unfolding pointed plain
whole_by b t ds classes.Digit k d n r h = rw (← append_assoc ds (b ∷ []) t) (r (digits_more ds b d k.0 k.1) h)
whole_by b t ds classes.Point k d n r h =
    let m = fraction t h in
    record {
      decimal = pointed ds m.digits m.exponent d m.are (omega arith) m.is;
      spelt = ap₂ (λ (c : ℕ) (x : List ℕ). ds ++ c ∷ x) k m.spelt
          ∙ sym (append_assoc ds (46 ∷ m.digits) (exponent_text m.exponent));
    }
whole_by b t ds classes.Mark k d n r h = let m = mark_of b t k (mark t h) in
    record { decimal = plain ds (Some m.0) d n m.1; spelt = ap (λ (x : List ℕ). ds ++ x) m.2 }
whole_by b t ds c k d n r h = absurd cc

whole : (t ds : List ℕ) → AreDigits ds → 0 < length ds → takes t parts.Whole ≡ true → IsDecimal (ds ++ t)
unfolding plain
whole [] ds d n h = record { decimal = plain ds None d n tt; spelt = refl }
whole (b ∷ t) ds d n h = whole_by b t ds (class_of b) (class_is b) d n (λ d' e. whole t (ds ++ b ∷ []) d' (omega (arith, length-append ds (b ∷ []))) e)
    (sym (takes_cons b t parts.Whole) ∙ h)

start_by : (b : ℕ) (t : List ℕ) (c : Class) → IsOf c b → accepts_then (takes t) (decimal_step parts.Start c) ≡ true → IsDecimal (b ∷ t)
start_by b t classes.Digit k h = whole t (b ∷ []) (k.0, k.1, tt) (omega arith) h
start_by b t classes.Point k h = rw k (point t h)
start_by b t c k h = absurd cc

pub is_decimal_text : (t : List ℕ) → takes t parts.Start ≡ true → IsDecimal t
is_decimal_text [] h = absurd (none_taken parts.Start refl h)
is_decimal_text (b ∷ t) h = start_by b t (class_of b) (class_is b) (sym (takes_cons b t parts.Start) ∙ h)
