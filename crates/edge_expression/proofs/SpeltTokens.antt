-- The bytes with which spelt tokens begin.
use Rattle.std.proofs.Common.{◌≡◌, ◌≢◌, ℕ, ◌+◌, ◌≤◌, ◌⊎◌, true, false, inl, inr, List, [], ◌∷◌, ◌++◌, length}
use Rattle.std.proofs.Common.{None, refl, sym, ap, subst, ◌∙◌, arith, length-drop}
use Rattle.std.specs.List.{prefix_len}
use Rattle.std.specs.Prelude.{◌==◌, ◌||◌, if◌then◌else◌}
use Rattle.std.specs.Char.{is_ascii_digit}
use Rattle.std.proofs.lemmas.Bool.Decides.{nat_tests}
use Rattle.std.proofs.lemmas.Bool.{cases_Bool}
use Rattle.field_core.proofs.Longest.{accepts_then}
use Rattle.numerals.specs.Numeral.{body_text}
use Rattle.text_lines.specs.Words.{is_blank, after_blanks}
use Rattle.numerals.specs.declared.byte_class.Class.{Class as DecimalClass}
use Rattle.numerals.specs.declared.byte_class.Class.TheVariants as decimals
use Rattle.numerals.specs.declared.decimal_machine.DecimalPart.{DecimalPart}
use Rattle.numerals.specs.declared.decimal_machine.DecimalPart.TheVariants as parts
use Rattle.numerals.specs.DecimalMachine.{class_of as decimal_class, decimal_step, decimal_byte, may_end as ends_decimal}
use Rattle.numerals.specs.Decimals.{Decimal}
use Rattle.numerals.proofs.Classes.{IsOf as IsDecimalByte, class_is as decimal_class_is, either}
use Rattle.numerals.proofs.DecimalTexts.{takes, takes_nil, takes_cons, decimal_taken}
use Rattle.numerals.proofs.DecimalLengths.{Stops}
use Rattle.edge_expression.specs.declared.byte_machine.State.TheVariants as states
use Rattle.edge_expression.specs.ByteMachine.{class_of, behind_factor}
use Rattle.edge_expression.specs.Expressions.{Sign, Plus, Minus, Term, Product, Factor, Number, Other, Further, Epsilon, Parens, Token, DecimalToken, WordToken}
use Rattle.edge_expression.specs.Expressions.{CaretToken, PowerToken, SignToken, TimesToken, OverToken, OpenToken, CloseToken, term_tokens, factors_tokens}
use Rattle.edge_expression.specs.Expressions.{factor_tokens, further_tokens, sign_byte, token_text, AreBlanks, IsSpelt}
use Rattle.edge_expression.specs.CursorView.{EndsExpression, EndsTerm, EndsFactor}
use Rattle.field_core.proofs.Heads.{heads}
use Rattle.edge_expression.proofs.ByteClasses.{class_blank}
use Rattle.edge_expression.proofs.Machine.{ends_before}
use Rattle.text_lines.proofs.Cut.{drop_past}

-- ---- blanks

pub after_blank : (b : ℕ) (t : List ℕ) → is_blank b ≡ true → after_blanks (b ∷ t) ≡ after_blanks t
unfolding after_blanks
after_blank b t e = rw e (drop_past (prefix_len is_blank t) b t)

pub after_other : (b : ℕ) (t : List ℕ) → is_blank b ≡ false → after_blanks (b ∷ t) ≡ b ∷ t
unfolding after_blanks
after_other b t e = rw e refl

after_nil : after_blanks [] ≡ []
unfolding after_blanks
after_nil = refl

pub after_length : (t : List ℕ) → length (after_blanks t) ≤ length t
unfolding after_blanks
after_length t = omega (arith, length-drop (prefix_len is_blank t) t)

blank_is : (b : ℕ) → (b ≡ 32) ⊎ (b ≡ 9) → is_blank b ≡ true
blank_is b (inl e) = rw e refl
blank_is b (inr e) = rw e refl

is_blank_byte : (b : ℕ) → is_blank b ≡ true → (b ≡ 32) ⊎ (b ≡ 9)
is_blank_byte b h = either b 32 9 h

behind_all : (blanks t : List ℕ) → AreBlanks blanks → after_blanks (blanks ++ t) ≡ after_blanks t
behind_all [] t h = refl
behind_all (b ∷ bs) t h = after_blank b (bs ++ t) (blank_is b h.0) ∙ behind_all bs t h.1

all_blank : (t : List ℕ) → AreBlanks t → after_blanks t ≡ []
all_blank [] h = after_nil
all_blank (b ∷ t) h = after_blank b t (blank_is b h.0) ∙ all_blank t h.1

-- ---- first bytes

abbrev IsFirst : Token → ℕ → Type 0
IsFirst (DecimalToken d) b = ((48 ≤ b) × (b ≤ 57)) ⊎ (b ≡ 46)
IsFirst WordToken b = b ≡ 92
IsFirst CaretToken b = b ≡ 94
IsFirst (PowerToken p) b = (48 ≤ b) × (b ≤ 57)
IsFirst (SignToken sign) b = b ≡ sign_byte sign
IsFirst TimesToken b = b ≡ 42
IsFirst OverToken b = b ≡ 47
IsFirst OpenToken b = b ≡ 40
IsFirst CloseToken b = b ≡ 41

-- a token has a first byte
record HasFirst (k : Token) : Type 0 where
  byte : ℕ
  rest : List ℕ
  spelt : token_text k ≡ byte ∷ rest
  is : IsFirst k byte

first_class : (b : ℕ) (x : List ℕ) (c : DecimalClass) → IsDecimalByte c b → accepts_then (takes x) (decimal_step parts.Start c) ≡ true
    → ((48 ≤ b) × (b ≤ 57)) ⊎ (b ≡ 46)
first_class b x decimals.Digit k h = inl k
first_class b x decimals.Point k h = inr k
first_class b x c k h = absurd cc

decimal_first : (d : Decimal) (text : List ℕ) → body_text d.body ≡ text → takes text parts.Start ≡ true → HasFirst (DecimalToken d)
decimal_first d [] e h = let f : false ≡ true = sym (takes_nil parts.Start) ∙ h in absurd cc
decimal_first d (b ∷ x) e h = record {
  byte = b;
  rest = x;
  spelt = e;
  is = first_class b x (decimal_class b) (decimal_class_is b)
      (sym (takes_cons b x parts.Start) ∙ h);
}

first_of : (k : Token) → HasFirst k
first_of (DecimalToken d) = decimal_first d (body_text d.body) refl (decimal_taken d)
first_of WordToken = record { byte = 92; rest = 101 ∷ 112 ∷ 115 ∷ 105 ∷ 108 ∷ 111 ∷ 110 ∷ []; spelt = refl; is = refl }
first_of CaretToken = record { byte = 94; rest = []; spelt = refl; is = refl }
first_of (PowerToken p) = record { byte = 48 + p.power; rest = []; spelt = refl; is = (omega arith, omega (arith, p.digit)) }
first_of (SignToken sign) = record { byte = sign_byte sign; rest = []; spelt = refl; is = refl }
first_of TimesToken = record { byte = 42; rest = []; spelt = refl; is = refl }
first_of OverToken = record { byte = 47; rest = []; spelt = refl; is = refl }
first_of OpenToken = record { byte = 40; rest = []; spelt = refl; is = refl }
first_of CloseToken = record { byte = 41; rest = []; spelt = refl; is = refl }

other_than_blanks : (b : ℕ) → b ≢ 32 → b ≢ 9 → is_blank b ≡ false
other_than_blanks b h k = grind (arith, nat_tests)

no_blank : (k : Token) (b : ℕ) → IsFirst k b → is_blank b ≡ false
no_blank (DecimalToken d) b (inl h) = other_than_blanks b (λ e. omega (arith, h.0)) (λ e. omega (arith, h.0))
no_blank (DecimalToken d) b (inr h) = rw h refl
no_blank WordToken b h = rw h refl
no_blank CaretToken b h = rw h refl
no_blank (PowerToken p) b h = other_than_blanks b (λ e. omega (arith, h.0)) (λ e. omega (arith, h.0))
no_blank (SignToken Plus) b h = rw h refl
no_blank (SignToken Minus) b h = rw h refl
no_blank TimesToken b h = rw h refl
no_blank OverToken b h = rw h refl
no_blank OpenToken b h = rw h refl
no_blank CloseToken b h = rw h refl

-- ---- spelt tokens

-- the first of these tokens stands after the blanks
pub record IsFront (k : Token) (ks : List Token) (t : List ℕ) : Type 0 where
  pub rest : List ℕ
  pub after : after_blanks t ≡ token_text k ++ rest
  pub spelt : IsSpelt ks rest

pub front : (k : Token) (ks : List Token) (t : List ℕ) → IsSpelt (k ∷ ks) t → IsFront k ks t
front k ks t s =
    let f = first_of k in
    let whole : token_text k ++ s.rest ≡ f.byte ∷ (f.rest ++ s.rest) = ap (λ (x : List ℕ). x ++ s.rest) f.spelt in
    record {
      rest = s.rest;
      after =
          ap after_blanks s.spelt ∙ behind_all s.blanks (token_text k ++ s.rest) s.are_blanks ∙ ap after_blanks whole
          ∙ after_other f.byte (f.rest ++ s.rest) (no_blank k f.byte f.is) ∙ sym whole;
      spelt = s.is_rest;
    }

-- the text after the blanks begins with the token's first byte
record Leads (k : Token) (t : List ℕ) : Type 0 where
  byte : ℕ
  rest : List ℕ
  after : after_blanks t ≡ byte ∷ rest
  is : IsFirst k byte

leads : (k : Token) (ks : List Token) (t : List ℕ) → IsSpelt (k ∷ ks) t → Leads k t
leads k ks t s =
    let g = front k ks t s in
    let f = first_of k in
    record { byte = f.byte; rest = f.rest ++ g.rest; after = g.after ∙ ap (λ (x : List ℕ). x ++ g.rest) f.spelt; is = f.is }

-- ---- what ends a decimal

abbrev pub EndsDecimal : ℕ → Type 0
EndsDecimal b = (p : DecimalPart) → ends_decimal p ≡ true → decimal_byte p b ≡ None

token_ends : (k : Token) (ks : List Token) (b : ℕ) → EndsFactor (k ∷ ks) → IsFirst k b → EndsDecimal b
unfolding class_of
token_ends (DecimalToken d) ks b e h = absurd e
token_ends WordToken ks b e h = subst EndsDecimal (sym h) (ends_before 92 _ refl)
token_ends CaretToken ks b e h = absurd e
token_ends (PowerToken p) ks b e h = absurd e
token_ends (SignToken Plus) ks b e h = subst EndsDecimal (sym h) (ends_before 43 _ refl)
token_ends (SignToken Minus) ks b e h = subst EndsDecimal (sym h) (ends_before 45 _ refl)
token_ends TimesToken ks b e h = subst EndsDecimal (sym h) (ends_before 42 _ refl)
token_ends OverToken ks b e h = subst EndsDecimal (sym h) (ends_before 47 _ refl)
token_ends OpenToken ks b e h = subst EndsDecimal (sym h) (ends_before 40 _ refl)
token_ends CloseToken ks b e h = subst EndsDecimal (sym h) (ends_before 41 _ refl)

blank_byte_ends : (b : ℕ) → is_blank b ≡ true → EndsDecimal b
blank_byte_ends b h = ends_before b states.Factor (ap behind_factor (class_blank b (is_blank_byte b h)))

after_ends : (b : ℕ) (t : List ℕ) (ks : List Token) → EndsFactor ks → IsSpelt ks (b ∷ t) → is_blank b ≡ false → EndsDecimal b
after_ends b t [] e s h = let f : after_blanks (b ∷ t) ≡ [] = all_blank (b ∷ t) s in let g : b ∷ t ≡ [] = sym (after_other b t h) ∙ f in absurd cc
after_ends b t (k ∷ ks) e s h =
    let l = leads k ks (b ∷ t) s in
    let f : b ≡ l.byte = (heads b l.byte t l.rest (sym (after_other b t h) ∙ l.after)).0 in
    subst EndsDecimal (sym f) (token_ends k ks l.byte e l.is)

-- no decimal continues with tokens before which a factor may end
pub stops : (t : List ℕ) (ks : List Token) → EndsFactor ks → IsSpelt ks t → Stops t
stops [] ks e s = tt
stops (b ∷ t) ks e s = elim (cases_Bool (is_blank b)) [ inl h ↦ blank_byte_ends b h | inr h ↦ after_ends b t ks e s h ]

-- ---- first bytes of tokens

-- the first byte of a token, and 48 for each digit and for a point
unfoldable pub mark : Token → ℕ
mark (DecimalToken d) = 48
mark WordToken = 92
mark CaretToken = 94
mark (PowerToken p) = 48
mark (SignToken sign) = sign_byte sign
mark TimesToken = 42
mark OverToken = 47
mark OpenToken = 40
mark CloseToken = 41

-- that of the first token, and 0 where there is none
unfoldable pub begin : List Token → ℕ
begin [] = 0
begin (k ∷ ks) = mark k

-- the first byte of a token that begins with this byte
unfoldable pub byte_mark : ℕ → ℕ
byte_mark b = if is_ascii_digit b || (b == 46) then 48 else b

digit_mark : (b : ℕ) → 48 ≤ b → b ≤ 57 → byte_mark b ≡ 48
unfolding byte_mark
digit_mark b h k = let d : is_ascii_digit b ≡ true = grind (arith, nat_tests) in rw d refl

mark_is : (k : Token) (b : ℕ) → IsFirst k b → byte_mark b ≡ mark k
unfolding mark byte_mark
mark_is (DecimalToken d) b (inl h) = digit_mark b h.0 h.1
mark_is (DecimalToken d) b (inr h) = rw h refl
mark_is WordToken b h = rw h refl
mark_is CaretToken b h = rw h refl
mark_is (PowerToken p) b h = digit_mark b h.0 h.1
mark_is (SignToken Plus) b h = rw h refl
mark_is (SignToken Minus) b h = rw h refl
mark_is TimesToken b h = rw h refl
mark_is OverToken b h = rw h refl
mark_is OpenToken b h = rw h refl
mark_is CloseToken b h = rw h refl

-- that of a text, and 0 where it is empty
unfoldable pub text_mark : List ℕ → ℕ
text_mark [] = 0
text_mark (b ∷ bs) = byte_mark b

pub text_begins : (ks : List Token) (t : List ℕ) → IsSpelt ks t → text_mark (after_blanks t) ≡ begin ks
unfolding text_mark begin
text_begins [] t s = ap text_mark (all_blank t s)
text_begins (k ∷ ks) t s = let l = leads k ks t s in ap text_mark l.after ∙ mark_is k l.byte l.is

-- tokens that one text spells begin with one byte
pub same_begin : (ks js : List Token) (t : List ℕ) → IsSpelt ks t → IsSpelt js t → begin ks ≡ begin js
same_begin ks js t s r = sym (text_begins ks t s) ∙ text_begins js t r

-- a text that begins with this byte
pub begins : (ks : List Token) (t : List ℕ) (b : ℕ) (x : List ℕ) → after_blanks t ≡ b ∷ x → IsSpelt ks t → begin ks ≡ byte_mark b
unfolding text_mark
begins ks t b x a s = sym (text_begins ks t s) ∙ ap text_mark a

-- an expression ends before no sign
pub no_sign : (m : List Token) (sign : Sign) → EndsExpression m → begin m ≡ sign_byte sign → ⊥
unfolding begin mark
no_sign [] Plus h e = omega (arith, e)
no_sign [] Minus h e = omega (arith, e)
no_sign (CloseToken ∷ ks) Plus h e = omega (arith, e)
no_sign (CloseToken ∷ ks) Minus h e = omega (arith, e)
no_sign (k ∷ ks) sign h e = absurd h

-- these bytes begin further factors
abbrev pub IsJoint : ℕ → Type 0
IsJoint b = (b ≡ 42) ⊎ ((b ≡ 47) ⊎ ((b ≡ 92) ⊎ (b ≡ 40)))

joint_is : (b c : ℕ) → IsJoint b → c ≡ b → (c ≢ 0) × (c ≢ 41) × (c ≢ 43) × (c ≢ 45)
joint_is b c (inl h) e = (λ f. omega (arith, h, e, f), λ f. omega (arith, h, e, f), λ f. omega (arith, h, e, f), λ f. omega (arith, h, e, f))
joint_is b c (inr (inl h)) e = (λ f. omega (arith, h, e, f), λ f. omega (arith, h, e, f), λ f. omega (arith, h, e, f), λ f. omega (arith, h, e, f))
joint_is b c (inr (inr (inl h))) e = (λ f. omega (arith, h, e, f), λ f. omega (arith, h, e, f), λ f. omega (arith, h, e, f), λ f. omega (arith, h, e, f))
joint_is b c (inr (inr (inr h))) e = (λ f. omega (arith, h, e, f), λ f. omega (arith, h, e, f), λ f. omega (arith, h, e, f), λ f. omega (arith, h, e, f))

-- a term ends before none of them
pub no_joint : (m : List Token) (b : ℕ) → EndsTerm m → IsJoint b → begin m ≡ b → ⊥
unfolding begin mark
no_joint [] b h j e = (joint_is b 0 j e).0 refl
no_joint (CloseToken ∷ ks) b h j e = (joint_is b 41 j e).1 refl
no_joint (SignToken Plus ∷ ks) b h j e = (joint_is b 43 j e).2 refl
no_joint (SignToken Minus ∷ ks) b h j e = (joint_is b 45 j e).3 refl
no_joint (k ∷ ks) b h j e = absurd h

-- a factor ends before no caret
pub no_caret : (m : List Token) → EndsFactor m → begin m ≡ 94 → ⊥
unfolding begin mark
no_caret [] h e = omega (arith, e)
no_caret (DecimalToken d ∷ ks) h e = h
no_caret (WordToken ∷ ks) h e = omega (arith, e)
no_caret (CaretToken ∷ ks) h e = h
no_caret (PowerToken p ∷ ks) h e = h
no_caret (SignToken Plus ∷ ks) h e = omega (arith, e)
no_caret (SignToken Minus ∷ ks) h e = omega (arith, e)
no_caret (TimesToken ∷ ks) h e = omega (arith, e)
no_caret (OverToken ∷ ks) h e = omega (arith, e)
no_caret (OpenToken ∷ ks) h e = omega (arith, e)
no_caret (CloseToken ∷ ks) h e = omega (arith, e)

-- no term begins with a sign
factor_no_sign : (f : Factor) (more : List Token) (sign : Sign) → begin (factor_tokens f more) ≡ sign_byte sign → ⊥
unfolding begin mark
factor_no_sign (Number d) more Plus e = omega (arith, e)
factor_no_sign (Number d) more Minus e = omega (arith, e)
factor_no_sign (Other (Epsilon power)) more Plus e = omega (arith, e)
factor_no_sign (Other (Epsilon power)) more Minus e = omega (arith, e)
factor_no_sign (Other (Parens inner)) more Plus e = omega (arith, e)
factor_no_sign (Other (Parens inner)) more Minus e = omega (arith, e)

pub term_no_sign : (t : Term) (more : List Token) (sign : Sign) → begin (term_tokens t more) ≡ sign_byte sign → ⊥
term_no_sign (Product first others) more sign e = factor_no_sign first (factors_tokens others more) sign e

-- the bytes of further factors, each other than the next
pub begin_further : (f : Further) (more : List Token) → (begin (further_tokens f more) ≡ 92) ⊎ (begin (further_tokens f more) ≡ 40)
unfolding begin mark
begin_further (Epsilon p) more = inl refl
begin_further (Parens e) more = inr refl

-- none of these bytes begins a further factor that follows nothing
pub not_further : (f : Further) (more : List Token) (b : ℕ) → b ≢ 92 → b ≢ 40 → begin (further_tokens f more) ≡ b → ⊥
not_further f more b h k e = elim (begin_further f more) [ inl x ↦ h (sym e ∙ x) | inr x ↦ k (sym e ∙ x) ]
