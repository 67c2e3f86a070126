-- Each numeral is accepted.
use Rattle.std.proofs.Common.{◌≡◌, ℕ, ◌<◌, Bool, true, List, [], ◌∷◌, ◌++◌, length, Option, Some, None, refl, sym, ap, ◌∙◌, arith}
use Rattle.std.specs.Option.{option_map}
use Rattle.std.proofs.lemmas.List.{append-nil}
use Rattle.numerals.specs.declared.byte_class.Class.{Class}
use Rattle.numerals.specs.declared.byte_class.Class.TheVariants as classes
use Rattle.numerals.specs.declared.decimal_machine.DecimalPart.{DecimalPart}
use Rattle.numerals.specs.declared.decimal_machine.DecimalPart.TheVariants as parts
use Rattle.numerals.specs.declared.numeral_machine.State.{State}
use Rattle.numerals.specs.declared.numeral_machine.State.TheVariants.{Start, Decimal, Slash, Under}
use Rattle.field_core.proofs.Longest.{accepts, accepts_then, accepts_nil, accepts_cons}
use Rattle.numerals.specs.DecimalMachine.{class_of, decimal_step}
use Rattle.numerals.specs.NumeralMachine.{step, byte_step, is_final}
use Rattle.numerals.specs.Numeral.{AreDigits, sign_text, IsSign, Body, Plain, Pointed, Pair, body_text, IsBody, IsNumeral}
use Rattle.numerals.proofs.Classes.{class_digit, class_sign, class_slash}
use Rattle.numerals.proofs.DecimalTexts.{takes, takes_nil, takes_cons, body_taken}

-- the bytes t may follow in a state
abbrev pub reads : List ℕ → State → Bool
reads t s = accepts byte_step is_final t s

pub reads_nil : (s : State) → reads [] s ≡ is_final s
reads_nil s = accepts_nil byte_step is_final s

pub reads_cons : (b : ℕ) (t : List ℕ) (s : State) → reads (b ∷ t) s ≡ accepts_then (reads t) (step s (class_of b))
reads_cons b t s = accepts_cons byte_step is_final b t s

-- ---- what follows a decimal as one follows it as a numeral

through : (t : List ℕ) (o : Option DecimalPart) → ((q : DecimalPart) → takes t q ≡ true → reads t (Decimal q) ≡ true)
    → accepts_then (takes t) o ≡ true → accepts_then (reads t) (option_map Decimal o) ≡ true
through t None r h = h
through t (Some q) r h = r q h

by_part : (t : List ℕ) (p : DecimalPart) (c : Class) → ((q : DecimalPart) → takes t q ≡ true → reads t (Decimal q) ≡ true)
    → accepts_then (takes t) (decimal_step p c) ≡ true → accepts_then (reads t) (step (Decimal p) c) ≡ true
by_part t parts.Whole classes.Slash r h = absurd cc
by_part t p c r h = through t (decimal_step p c) r h

pub goes_on : (t : List ℕ) (p : DecimalPart) → takes t p ≡ true → reads t (Decimal p) ≡ true
goes_on [] p h = reads_nil (Decimal p) ∙ sym (takes_nil p) ∙ h
goes_on (b ∷ t) p h = reads_cons b t (Decimal p) ∙ by_part t p (class_of b) (λ q. goes_on t q) (sym (takes_cons b t p) ∙ h)

by_start : (t : List ℕ) (c : Class) → accepts_then (takes t) (decimal_step parts.Start c) ≡ true → accepts_then (reads t) (step Start c) ≡ true
by_start t classes.Sign h = absurd cc
by_start t c h = through t (decimal_step parts.Start c) (λ q. goes_on t q) h

begins : (t : List ℕ) → takes t parts.Start ≡ true → reads t Start ≡ true
begins [] h = absurd (let e = sym (takes_nil parts.Start) ∙ h in cc)
begins (b ∷ t) h = reads_cons b t Start ∙ by_start t (class_of b) (sym (takes_cons b t parts.Start) ∙ h)

-- ---- pairs

reads_by : (b : ℕ) (t : List ℕ) (s u : State) (c : Class) → class_of b ≡ c → step s c ≡ Some u → reads (b ∷ t) s ≡ reads t u
reads_by b t s u c e f = reads_cons b t s ∙ rw (e, f) refl

digits_stay : (ds t : List ℕ) (s : State) → AreDigits ds → step s classes.Digit ≡ Some s → reads (ds ++ t) s ≡ reads t s
digits_stay [] t s h e = refl
digits_stay (d ∷ ds) t s h e = reads_by d (ds ++ t) s s classes.Digit (class_digit d h.0 h.1) e ∙ digits_stay ds t s h.2 e

digits_enter : (ds t : List ℕ) (s u : State) → AreDigits ds → 0 < length ds → step s classes.Digit ≡ Some u → step u classes.Digit ≡ Some u
    → reads (ds ++ t) s ≡ reads t u
digits_enter [] t s u h n e f = absurd (omega arith)
digits_enter (d ∷ ds) t s u h n e f = reads_by d (ds ++ t) s u classes.Digit (class_digit d h.0 h.1) e ∙ digits_stay ds t u h.2 f

under_accepted : (ds : List ℕ) → AreDigits ds → 0 < length ds → reads ds Slash ≡ true
under_accepted ds h n = ap (λ (x : List ℕ). reads x Slash) (sym (append-nil ds)) ∙ digits_enter ds [] Slash Under h n refl refl ∙ reads_nil Under

-- ---- the whole

-- after the sign
body_accepted : (body : Body) (s : State) → IsBody body → step s classes.Digit ≡ Some (Decimal parts.Whole)
    → ((t : List ℕ) → takes t parts.Start ≡ true → reads t s ≡ true) → reads (body_text body) s ≡ true
body_accepted (Plain whole e) s h d r = r _ (body_taken (Plain whole e) h (λ x. x))
body_accepted (Pointed whole ds e) s h d r = r _ (body_taken (Pointed whole ds e) h (λ x. x))
body_accepted (Pair over under) s h d r =
    digits_enter over (47 ∷ under) s (Decimal parts.Whole) h.0 h.1 d refl ∙ reads_by 47 under (Decimal parts.Whole) Slash classes.Slash class_slash refl
    ∙ under_accepted under h.2 h.3

signed_accepted : (sign : Option ℕ) (body : Body) → IsSign sign → IsBody body → reads (sign_text sign ++ body_text body) Start ≡ true
signed_accepted None body h k = body_accepted body Start k refl begins
signed_accepted (Some b) body h k = reads_by b (body_text body) Start (Decimal parts.Start) classes.Sign (class_sign b h) refl
    ∙ body_accepted body (Decimal parts.Start) k refl (λ t. goes_on t parts.Start)

pub accepted : (t : List ℕ) → IsNumeral t → reads t Start ≡ true
accepted t n = rw n.spelt (signed_accepted n.sign n.body n.is_sign n.is_body)
