-- What is accepted is a numeral.
use Rattle.std.proofs.Common.{◌≡◌, ℕ, ◌<◌, ◌≤◌, ◌⊎◌, inl, inr, true, false, List, [], ◌∷◌, ◌++◌, length, Option, Some, None}
use Rattle.std.proofs.Common.{refl, sym, ap, ◌∙◌, arith}
use Rattle.numerals.specs.declared.byte_class.Class.{Class}
use Rattle.numerals.specs.declared.byte_class.Class.TheVariants as classes
use Rattle.numerals.specs.declared.decimal_machine.DecimalPart.{DecimalPart}
use Rattle.numerals.specs.declared.decimal_machine.DecimalPart.TheVariants as parts
use Rattle.numerals.specs.declared.numeral_machine.State.{State}
use Rattle.numerals.specs.declared.numeral_machine.State.TheVariants.{Start, Decimal, Slash, Under}
use Rattle.field_core.proofs.Longest.{accepts_then}
use Rattle.numerals.specs.DecimalMachine.{class_of, decimal_step}
use Rattle.numerals.specs.NumeralMachine.{step, is_final}
use Rattle.numerals.specs.Numeral.{AreDigits, sign_text, IsSign, Body, Pair, body_text, IsBody, IsNumeral}
use Rattle.numerals.proofs.Classes.{IsOf, class_is}
use Rattle.numerals.proofs.DecimalTexts.{takes, takes_nil, takes_cons, is_decimal_text}
use Rattle.numerals.proofs.Accepted.{reads, reads_nil, reads_cons}

-- ---- after a slash

false_accepted : (s : State) → is_final s ≡ false → reads [] s ≡ true → ⊥
false_accepted s f h = let e = sym f ∙ sym (reads_nil s) ∙ h in cc

under_by : (b : ℕ) (t : List ℕ) (c : Class) → IsOf c b → (reads t Under ≡ true → AreDigits t) → accepts_then (reads t) (step Under c) ≡ true
    → AreDigits (b ∷ t)
under_by b t classes.Digit k r h = (k.0, k.1, r h)
under_by b t c k r h = absurd cc

under : (t : List ℕ) → reads t Under ≡ true → AreDigits t
under [] h = tt
under (b ∷ t) h = under_by b t (class_of b) (class_is b) (λ e. under t e) (sym (reads_cons b t Under) ∙ h)

slash_by : (b : ℕ) (t : List ℕ) (c : Class) → IsOf c b → accepts_then (reads t) (step Slash c) ≡ true → AreDigits (b ∷ t)
slash_by b t classes.Digit k h = (k.0, k.1, under t h)
slash_by b t c k h = absurd cc

slash : (t : List ℕ) → reads t Slash ≡ true → AreDigits t × (0 < length t)
slash [] h = absurd (false_accepted Slash refl h)
slash (b ∷ t) h = (slash_by b t (class_of b) (class_is b) (sym (reads_cons b t Slash) ∙ h), omega arith)

-- ---- a decimal or a pair

-- digits may be there before a slash: at least one where nothing was read
abbrev MayStand : DecimalPart → List ℕ → Type 0
MayStand parts.Start over = 0 < length over
MayStand parts.Whole over = Unit {0}
MayStand part over = ⊥

-- the rest of a pair
record IsRest (p : DecimalPart) (t : List ℕ) : Type 0 where
  over : List ℕ
  under : List ℕ
  are : AreDigits over
  may : MayStand p over
  below : AreDigits under
  some : 0 < length under
  spelt : t ≡ over ++ 47 ∷ under

Ends : DecimalPart → List ℕ → Type 0
Ends p t = (takes t p ≡ true) ⊎ IsRest p t

with_digit : (b : ℕ) (t : List ℕ) (p : DecimalPart) → (48 ≤ b) × (b ≤ 57) → ((over : List ℕ) → MayStand p (b ∷ over))
    → accepts_then (takes t) (decimal_step p (class_of b)) ≡ takes t parts.Whole → Ends parts.Whole t → Ends p (b ∷ t)
unfolding Ends
with_digit b t p k m f (inl e) = inl (takes_cons b t p ∙ f ∙ e)
with_digit b t p k m f (inr r) =
    inr (record {
      over = b ∷ r.over;
      under = r.under;
      are = (k.0, k.1, r.are);
      may = m r.over;
      below = r.below;
      some = r.some;
      spelt = ap (λ (x : List ℕ). b ∷ x) r.spelt;
    })

-- where no slash can follow
no_rest : (b : ℕ) (t : List ℕ) (p q : DecimalPart) → ((over : List ℕ) → ¬ MayStand q over)
    → accepts_then (takes t) (decimal_step p (class_of b)) ≡ takes t q → Ends q t → Ends p (b ∷ t)
unfolding Ends
no_rest b t p q n f (inl e) = inl (takes_cons b t p ∙ f ∙ e)
no_rest b t p q n f (inr r) = absurd (n r.over r.may)

ends_by : (b : ℕ) (t : List ℕ) (p : DecimalPart) (c : Class) → class_of b ≡ c → IsOf c b
    → ((q : DecimalPart) → reads t (Decimal q) ≡ true → Ends q t) → accepts_then (reads t) (step (Decimal p) c) ≡ true → Ends p (b ∷ t)
unfolding Ends
ends_by b t parts.Start classes.Digit e k r h = with_digit b t parts.Start k (λ o. omega arith) (rw e refl) (r parts.Whole h)
ends_by b t parts.Start classes.Point e k r h = no_rest b t parts.Start parts.Point (λ o x. x) (rw e refl) (r parts.Point h)
ends_by b t parts.Whole classes.Digit e k r h = with_digit b t parts.Whole k (λ o. tt) (rw e refl) (r parts.Whole h)
ends_by b t parts.Whole classes.Point e k r h = no_rest b t parts.Whole parts.Fraction (λ o x. x) (rw e refl) (r parts.Fraction h)
ends_by b t parts.Whole classes.Mark e k r h = no_rest b t parts.Whole parts.Mark (λ o x. x) (rw e refl) (r parts.Mark h)
ends_by b t parts.Whole classes.Slash e k r h = let m =
    slash t h in inr (record { over = []; under = t; are = tt; may = tt; below = m.0; some = m.1; spelt = ap (λ (x : ℕ). x ∷ t) k })
ends_by b t parts.Point classes.Digit e k r h = no_rest b t parts.Point parts.Fraction (λ o x. x) (rw e refl) (r parts.Fraction h)
ends_by b t parts.Fraction classes.Digit e k r h = no_rest b t parts.Fraction parts.Fraction (λ o x. x) (rw e refl) (r parts.Fraction h)
ends_by b t parts.Fraction classes.Mark e k r h = no_rest b t parts.Fraction parts.Mark (λ o x. x) (rw e refl) (r parts.Mark h)
ends_by b t parts.Mark classes.Digit e k r h = no_rest b t parts.Mark parts.Exponent (λ o x. x) (rw e refl) (r parts.Exponent h)
ends_by b t parts.Mark classes.Sign e k r h = no_rest b t parts.Mark parts.MarkSigned (λ o x. x) (rw e refl) (r parts.MarkSigned h)
ends_by b t parts.MarkSigned classes.Digit e k r h = no_rest b t parts.MarkSigned parts.Exponent (λ o x. x) (rw e refl) (r parts.Exponent h)
ends_by b t parts.Exponent classes.Digit e k r h = no_rest b t parts.Exponent parts.Exponent (λ o x. x) (rw e refl) (r parts.Exponent h)
ends_by b t p c e k r h = absurd cc

ends : (t : List ℕ) (p : DecimalPart) → reads t (Decimal p) ≡ true → Ends p t
unfolding Ends
ends [] p h = inl (takes_nil p ∙ sym (reads_nil (Decimal p)) ∙ h)
ends (b ∷ t) p h = ends_by b t p (class_of b) refl (class_is b) (λ q. ends t q) (sym (reads_cons b t (Decimal p)) ∙ h)

-- ---- the whole

-- what stands after a sign
record IsBare (t : List ℕ) : Type 0 where
  body : Body
  is : IsBody body
  spelt : t ≡ body_text body

bare_by : (t : List ℕ) → Ends parts.Start t → IsBare t
unfolding Ends
bare_by t (inl e) = let d = is_decimal_text t e in record { body = d.decimal.body; is = d.decimal.is_body; spelt = d.spelt }
bare_by t (inr r) = record { body = Pair r.over r.under; is = (r.are, r.may, r.below, r.some); spelt = r.spelt }

bare : (t : List ℕ) → reads t (Decimal parts.Start) ≡ true → IsBare t
bare t h = bare_by t (ends t parts.Start h)

numeral_of : (sign : Option ℕ) (t text : List ℕ) → IsSign sign → IsBare t → text ≡ sign_text sign ++ t → IsNumeral text
numeral_of sign t text k m e =
    record { sign = sign; body = m.body; is_sign = k; is_body = m.is; spelt = e ∙ ap (λ (x : List ℕ). sign_text sign ++ x) m.spelt }

start_by : (b : ℕ) (t : List ℕ) (c : Class) → class_of b ≡ c → IsOf c b → accepts_then (reads t) (step Start c) ≡ true → IsNumeral (b ∷ t)
start_by b t classes.Digit e k h = numeral_of None (b ∷ t) (b ∷ t) tt (bare (b ∷ t) (reads_cons b t (Decimal parts.Start) ∙ rw e h)) refl
start_by b t classes.Point e k h = numeral_of None (b ∷ t) (b ∷ t) tt (bare (b ∷ t) (reads_cons b t (Decimal parts.Start) ∙ rw e h)) refl
start_by b t classes.Sign e k h = numeral_of (Some b) t (b ∷ t) k (bare t h) refl
start_by b t c e k h = absurd cc

pub is_numeral : (t : List ℕ) → reads t Start ≡ true → IsNumeral t
is_numeral [] h = absurd (false_accepted Start refl h)
is_numeral (b ∷ t) h = start_by b t (class_of b) refl (class_is b) (sym (reads_cons b t Start) ∙ h)
