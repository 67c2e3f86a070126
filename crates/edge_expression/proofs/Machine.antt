-- The machine of edge expressions, state by state.
use Rattle.std.proofs.Common.{◌≡◌, ℕ, Bool, true, List, [], ◌∷◌, Option, Some, None, inl, inr, refl, ap, ◌∙◌}
use Rattle.field_core.proofs.Longest.{accepts, accepts_then, accepts_nil, accepts_cons}
use Rattle.numerals.specs.declared.byte_class.Class.{Class as DecimalClass}
use Rattle.numerals.specs.declared.byte_class.Class.TheVariants as decimals
use Rattle.numerals.specs.declared.decimal_machine.DecimalPart.{DecimalPart}
use Rattle.numerals.specs.declared.decimal_machine.DecimalPart.TheVariants as parts
use Rattle.numerals.specs.DecimalMachine.{class_of as decimal_class, decimal_step, decimal_byte, may_end as ends_decimal}
use Rattle.numerals.proofs.Classes.{IsOf as IsDecimalByte, class_is as decimal_class_is, digit_test}
use Rattle.edge_expression.specs.declared.byte_machine.Letter.{Letter}
use Rattle.edge_expression.specs.declared.byte_machine.Letter.TheVariants as letters
use Rattle.edge_expression.specs.declared.byte_machine.State.{State}
use Rattle.edge_expression.specs.declared.byte_machine.Reached.{Reached}
use Rattle.edge_expression.specs.ByteMachine.{class_of, next_letter, behind_factor, next, opened, reached, step, is_whole, ends, may_end}
use Rattle.edge_expression.proofs.ByteClasses.{class_digit, class_sign}

abbrev pub at : State → ℕ → Reached
at s n = record { state = s; depth = n }

-- the bytes t may follow, and end an expression
abbrev pub reads : List ℕ → State → ℕ → Bool
reads t s n = accepts step may_end t (at s n)

pub reads_nil : (s : State) (n : ℕ) → reads [] s n ≡ ends (is_whole s) n
unfolding may_end
reads_nil s n = accepts_nil step may_end (at s n)

pub reads_cons : (b : ℕ) (t : List ℕ) (s : State) (n : ℕ)
    → reads (b ∷ t) s n ≡ accepts_then (accepts step may_end t) (reached (next s b) (opened (class_of b) n))
unfolding step
reads_cons b t s n = accepts_cons step may_end b t (at s n)

-- a byte of a class is read, and may open or close
pub reads_by : (b : ℕ) (t : List ℕ) (s u : State) (n m : ℕ) → next s b ≡ Some u → opened (class_of b) n ≡ Some m
    → reads (b ∷ t) s n ≡ reads t u m
reads_by b t s u n m e f = reads_cons b t s n ∙ rw (e, f) refl

-- the letters of `\epsilon` that follow
abbrev pub behind : Letter → List ℕ
behind letters.Backslash = 101 ∷ 112 ∷ 115 ∷ 105 ∷ 108 ∷ 111 ∷ 110 ∷ []
behind letters.E = 112 ∷ 115 ∷ 105 ∷ 108 ∷ 111 ∷ 110 ∷ []
behind letters.P = 115 ∷ 105 ∷ 108 ∷ 111 ∷ 110 ∷ []
behind letters.S = 105 ∷ 108 ∷ 111 ∷ 110 ∷ []
behind letters.I = 108 ∷ 111 ∷ 110 ∷ []
behind letters.L = 111 ∷ 110 ∷ []
behind letters.O = 110 ∷ []

-- a letter is not a parenthesis
pub letter_opens : (l : Letter) (n : ℕ) → opened (class_of (next_letter l)) n ≡ Some n
unfolding class_of
letter_opens letters.Backslash n = refl
letter_opens letters.E n = refl
letter_opens letters.P n = refl
letter_opens letters.S n = refl
letter_opens letters.I n = refl
letter_opens letters.L n = refl
letter_opens letters.O n = refl

-- nor is a byte with which a decimal continues
opens_by : (p q : DecimalPart) (b n : ℕ) (c : DecimalClass) → IsDecimalByte c b → decimal_step p c ≡ Some q → opened (class_of b) n ≡ Some n
unfolding class_of
opens_by p q b n decimals.Digit k e = ap (λ d. opened d n) (class_digit b (digit_test b k.0 k.1))
opens_by p q b n decimals.Sign k e = ap (λ d. opened d n) (class_sign b k)
opens_by p q b n decimals.Point k e = rw k refl
opens_by p q b n decimals.Mark (inl k) e = rw k refl
opens_by p q b n decimals.Mark (inr k) e = rw k refl
opens_by parts.Start q b n c k e = absurd cc
opens_by parts.Whole q b n c k e = absurd cc
opens_by parts.Point q b n c k e = absurd cc
opens_by parts.Fraction q b n c k e = absurd cc
opens_by parts.Mark q b n c k e = absurd cc
opens_by parts.MarkSigned q b n c k e = absurd cc
opens_by parts.Exponent q b n c k e = absurd cc

pub part_opens : (p q : DecimalPart) (b n : ℕ) → decimal_byte p b ≡ Some q → opened (class_of b) n ≡ Some n
part_opens p q b n e = opens_by p q b n (decimal_class b) (decimal_class_is b) e

-- a byte with which a decimal continues that may end doesn't stand after a factor
none_behind : (p q : DecimalPart) (b : ℕ) (c : DecimalClass) → IsDecimalByte c b → ends_decimal p ≡ true → decimal_step p c ≡ Some q
    → behind_factor (class_of b) ≡ None
unfolding class_of
none_behind p q b decimals.Digit k e f = ap behind_factor (class_digit b (digit_test b k.0 k.1))
none_behind p q b decimals.Point k e f = rw k refl
none_behind p q b decimals.Mark (inl k) e f = rw k refl
none_behind p q b decimals.Mark (inr k) e f = rw k refl
none_behind parts.Whole q b c k e f = absurd cc
none_behind parts.Fraction q b c k e f = absurd cc
none_behind parts.Exponent q b c k e f = absurd cc
none_behind p q b c k e f = absurd cc

ends_by : (b : ℕ) (u : State) (p : DecimalPart) (o : Option DecimalPart) → behind_factor (class_of b) ≡ Some u → ends_decimal p ≡ true
    → decimal_byte p b ≡ o → o ≡ None
ends_by b u p None e k f = refl
ends_by b u p (Some q) e k f = let g = none_behind p q b (decimal_class b) (decimal_class_is b) k f in absurd cc

-- a decimal ends before what may be after a factor
pub ends_before : (b : ℕ) (u : State) → behind_factor (class_of b) ≡ Some u → (p : DecimalPart) → ends_decimal p ≡ true
    → decimal_byte p b ≡ None
ends_before b u e p k = ends_by b u p (decimal_byte p b) e k refl
