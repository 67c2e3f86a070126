-- What the machine accepts is an expression.
use Rattle.std.proofs.Common.{◌≡◌, ℕ, zero, suc, ◌+◌, ◌-◌, ◌≤◌, ◌⊎◌, Bool, true, false, cond, eqb, List, [], ◌∷◌, ◌++◌}
use Rattle.std.proofs.Common.{Option, Some, None, refl, sym, ap, subst, ◌∙◌, inl, inr, arith}
use Rattle.std.proofs.lemmas.Bool.{eqb-true}
use Rattle.field_core.proofs.Longest.{accepts, accepts_then}
use Rattle.numerals.specs.declared.decimal_machine.DecimalPart.{DecimalPart}
use Rattle.numerals.specs.declared.decimal_machine.DecimalPart.TheVariants as parts
use Rattle.numerals.specs.DecimalMachine.{decimal_byte, may_end as ends_decimal}
use Rattle.numerals.specs.Decimals.{Decimal}
use Rattle.numerals.proofs.DecimalTexts.{takes, takes_nil, takes_cons, is_decimal_text}
use Rattle.edge_expression.specs.declared.byte_class.Class.{Class}
use Rattle.edge_expression.specs.declared.byte_class.Class.TheVariants as classes
use Rattle.edge_expression.specs.declared.byte_machine.Letter.{Letter}
use Rattle.edge_expression.specs.declared.byte_machine.Letter.TheVariants as letters
use Rattle.edge_expression.specs.declared.byte_machine.State.{State}
use Rattle.edge_expression.specs.declared.byte_machine.State.TheVariants as states
use Rattle.edge_expression.specs.ByteMachine.{class_of, next_letter, with_letter, operand_parts, at_operand, start_or, behind_factor, behind_parts}
use Rattle.edge_expression.specs.ByteMachine.{behind_epsilon, behind_caret, next, opened, reached, step, is_whole, ends, may_end, start}
use Rattle.edge_expression.specs.Expressions.{Power, Sign, Plus, Minus, Expression, Sum, MoreTerms, NoTerm, AndTerm, Product, MoreFactors, NoFactor, Times}
use Rattle.edge_expression.specs.Expressions.{Over, Beside, Factor, Number, Other, Further, Epsilon, Parens, Token, DecimalToken, WordToken, CaretToken}
use Rattle.edge_expression.specs.Expressions.{PowerToken, SignToken, TimesToken, OverToken, OpenToken, CloseToken, power_tokens, expression_tokens}
use Rattle.edge_expression.specs.Expressions.{terms_tokens, factors_tokens, factor_tokens, further_tokens, token_text, IsSpelt, Spells, IsExpression}
use Rattle.edge_expression.proofs.ByteClasses.{IsOf, class_is}
use Rattle.edge_expression.proofs.Machine.{reads, reads_nil, reads_cons, behind, letter_opens, part_opens}

-- ---- tokens after a place, where a number of parentheses are open

-- nothing, or else the parenthesis that closes, and what stands after it
Closed : ℕ → List Token → Type 0
Closed zero ks = ks ≡ []
Closed (suc n) ks =
    (fs : MoreFactors) × (ts : MoreTerms) × (rest : List Token) × (ks ≡ CloseToken ∷ factors_tokens fs (terms_tokens ts rest)) × Closed n rest

-- further factors and terms
record BehindAt (n : ℕ) (ks : List Token) : Type 0 where
  factors : MoreFactors
  terms : MoreTerms
  rest : List Token
  are : ks ≡ factors_tokens factors (terms_tokens terms rest)
  closed : Closed n rest

-- a factor, and what is after it
record FactorAt (n : ℕ) (ks : List Token) : Type 0 where
  factor : Factor
  more : List Token
  are : ks ≡ factor_tokens factor more
  behind_is : BehindAt n more

-- a factor that is not a decimal, and what is after it
record FurtherAt (n : ℕ) (ks : List Token) : Type 0 where
  further : Further
  more : List Token
  are : ks ≡ further_tokens further more
  behind_is : BehindAt n more

-- an expression, and what is after it
record SumAt (n : ℕ) (ks : List Token) : Type 0 where
  expression : Expression
  more : List Token
  are : ks ≡ expression_tokens expression more
  closed : Closed n more

-- perhaps a caret and a power, and what is after
record EpsilonAt (n : ℕ) (ks : List Token) : Type 0 where
  power : Option Power
  more : List Token
  are : ks ≡ power_tokens power more
  behind_is : BehindAt n more

-- a power, and what is after it
record PowerAt (n : ℕ) (ks : List Token) : Type 0 where
  power : Power
  more : List Token
  are : ks ≡ PowerToken power ∷ more
  behind_is : BehindAt n more

from_factor : (n : ℕ) (ks : List Token) → FactorAt n ks → SumAt n ks
from_factor n ks f = let g =
    f.behind_is in record {
      expression = Sum None (Product f.factor g.factors) g.terms;
      more = g.rest;
      are = f.are
          ∙ ap (factor_tokens f.factor) g.are;
      closed = g.closed;
    }

signed_factor : (sign : Sign) (n : ℕ) (ks : List Token) → FactorAt n ks → SumAt n (SignToken sign ∷ ks)
signed_factor sign n ks f =
    let g = f.behind_is in
    record {
      expression = Sum (Some sign) (Product f.factor g.factors) g.terms;
      more = g.rest;
      are = ap (λ x. SignToken sign ∷ x) (f.are ∙ ap (factor_tokens f.factor) g.are);
      closed = g.closed;
    }

next_term : (sign : Sign) (n : ℕ) (ks : List Token) → FactorAt n ks → BehindAt n (SignToken sign ∷ ks)
next_term sign n ks f =
    let g = f.behind_is in
    record {
      factors = NoFactor;
      terms = AndTerm sign (Product f.factor g.factors) g.terms;
      rest = g.rest;
      are = ap (λ x. SignToken sign ∷ x) (f.are ∙ ap (factor_tokens f.factor) g.are);
      closed = g.closed;
    }

next_times : (n : ℕ) (ks : List Token) → FactorAt n ks → BehindAt n (TimesToken ∷ ks)
next_times n ks f = let g =
    f.behind_is in record {
      factors = Times f.factor g.factors;
      terms = g.terms;
      rest = g.rest;
      are = ap (λ x. TimesToken ∷ x) (f.are ∙ ap (factor_tokens f.factor) g.are);
      closed = g.closed;
    }

next_over : (n : ℕ) (ks : List Token) → FactorAt n ks → BehindAt n (OverToken ∷ ks)
next_over n ks f = let g =
    f.behind_is in record {
      factors = Over f.factor g.factors;
      terms = g.terms;
      rest = g.rest;
      are = ap (λ x. OverToken ∷ x) (f.are ∙ ap (factor_tokens f.factor) g.are);
      closed = g.closed;
    }

next_beside : (n : ℕ) (ks : List Token) → FurtherAt n ks → BehindAt n ks
next_beside n ks f = let g =
    f.behind_is in record {
      factors = Beside f.further g.factors;
      terms = g.terms;
      rest = g.rest;
      are = f.are
          ∙ ap (further_tokens f.further) g.are;
      closed = g.closed;
    }

as_factor : (n : ℕ) (ks : List Token) → FurtherAt n ks → FactorAt n ks
as_factor n ks f = record { factor = Other f.further; more = f.more; are = f.are; behind_is = f.behind_is }

number_first : (d : Decimal) (n : ℕ) (ks : List Token) → BehindAt n ks → FactorAt n (DecimalToken d ∷ ks)
number_first d n ks g = record { factor = Number d; more = ks; are = refl; behind_is = g }

epsilon_first : (n : ℕ) (ks : List Token) → EpsilonAt n ks → FurtherAt n (WordToken ∷ ks)
epsilon_first n ks e = record { further = Epsilon e.power; more = e.more; are = ap (λ x. WordToken ∷ x) e.are; behind_is = e.behind_is }

parens_first : (n : ℕ) (ks : List Token) → SumAt (suc n) ks → FurtherAt n (OpenToken ∷ ks)
unfolding Closed
parens_first n ks s =
    let c = s.closed in
    record {
      further = Parens s.expression;
      more = factors_tokens c.0 (terms_tokens c.1 c.2);
      are = ap (λ x. OpenToken ∷ x) (s.are ∙ ap (expression_tokens s.expression) c.3);
      behind_is = record { factors = c.0; terms = c.1; rest = c.2; are = refl; closed = c.4 };
    }

close_first : (n : ℕ) (ks : List Token) → BehindAt n ks → BehindAt (suc n) (CloseToken ∷ ks)
unfolding Closed
close_first n ks g = record {
  factors = NoFactor;
  terms = NoTerm;
  rest = CloseToken ∷ ks;
  are = refl;
  closed = (g.factors, g.terms, g.rest, ap (λ x. CloseToken ∷ x) g.are, g.closed);
}

caret_first : (n : ℕ) (ks : List Token) → PowerAt n ks → EpsilonAt n (CaretToken ∷ ks)
caret_first n ks p = record { power = Some p.power; more = p.more; are = ap (λ x. CaretToken ∷ x) p.are; behind_is = p.behind_is }

no_caret : (n : ℕ) (ks : List Token) → BehindAt n ks → EpsilonAt n ks
no_caret n ks g = record { power = None; more = ks; are = refl; behind_is = g }

power_first : (power : Power) (n : ℕ) (ks : List Token) → BehindAt n ks → PowerAt n (PowerToken power ∷ ks)
power_first power n ks g = record { power = power; more = ks; are = refl; behind_is = g }

all_closed : BehindAt 0 []
unfolding Closed
all_closed = record { factors = NoFactor; terms = NoTerm; rest = []; are = refl; closed = refl }

-- ---- texts of such tokens

record TextOf (P : List Token → Type 0) (t : List ℕ) : Type 0 where
  tokens : List Token
  spelt : IsSpelt tokens t
  is : P tokens

-- a text that ends a decimal, and then one of such tokens
record PartOf (p : DecimalPart) (n : ℕ) (t : List ℕ) : Type 0 where
  front : List ℕ
  rest : List ℕ
  spelt : t ≡ front ++ rest
  taken : takes front p ≡ true
  behind_is : TextOf (BehindAt n) rest

-- the letters that end `\epsilon`, and then such a text
record WordOf (l : Letter) (n : ℕ) (t : List ℕ) : Type 0 where
  rest : List ℕ
  spelt : t ≡ behind l ++ rest
  behind_is : TextOf (EpsilonAt n) rest

Means : State → ℕ → List ℕ → Type 0
Means states.Start n t = TextOf (SumAt n) t
Means states.Operand n t = TextOf (FactorAt n) t
Means (states.Decimal p) n t = PartOf p n t
Means (states.Word l) n t = WordOf l n t
Means states.Epsilon n t = TextOf (EpsilonAt n) t
Means states.Caret n t = TextOf (PowerAt n) t
Means states.Factor n t = TextOf (BehindAt n) t

All : List ℕ → Type 0
All t = (s : State) (n : ℕ) → reads t s n ≡ true → Means s n t

changed : (P Q : List Token → Type 0) (t : List ℕ) → ((ks : List Token) → P ks → Q ks) → TextOf P t → TextOf Q t
changed P Q t f x = record { tokens = x.tokens; spelt = x.spelt; is = f x.tokens x.is }

spelt_blank : (ks : List Token) (b : ℕ) (t : List ℕ) → (b ≡ 32) ⊎ (b ≡ 9) → IsSpelt ks t → IsSpelt ks (b ∷ t)
spelt_blank [] b t h s = (h, s)
spelt_blank (k ∷ ks) b t h s =
    record { blanks = b ∷ s.blanks; rest = s.rest; are_blanks = (h, s.are_blanks); spelt = ap (λ x. b ∷ x) s.spelt; is_rest = s.is_rest }

behind_blank : (P : List Token → Type 0) (b : ℕ) (t : List ℕ) → (b ≡ 32) ⊎ (b ≡ 9) → TextOf P t → TextOf P (b ∷ t)
behind_blank P b t h x = record { tokens = x.tokens; spelt = spelt_blank x.tokens b t h x.spelt; is = x.is }

-- a token, and then such a text
token_first : (P Q : List Token → Type 0) (k : Token) (text t : List ℕ) → text ≡ token_text k ++ t
    → ((ks : List Token) → P ks → Q (k ∷ ks)) → TextOf P t → TextOf Q text
token_first P Q k text t e f x =
    record { tokens = k ∷ x.tokens; spelt = record { blanks = []; rest = t; are_blanks = tt; spelt = e; is_rest = x.spelt }; is = f x.tokens x.is }

byte_first : (P Q : List Token → Type 0) (k : Token) (b c : ℕ) (t : List ℕ) → b ≡ c → token_text k ≡ c ∷ []
    → ((ks : List Token) → P ks → Q (k ∷ ks)) → TextOf P t → TextOf Q (b ∷ t)
byte_first P Q k b c t e g f x = token_first P Q k (b ∷ t) t (ap (λ d. d ∷ t) e ∙ ap (λ (y : List ℕ). y ++ t) (sym g)) f x

sign_first : (P Q : List Token → Type 0) (b : ℕ) (t : List ℕ) → (b ≡ 43) ⊎ (b ≡ 45)
    → ((sign : Sign) (ks : List Token) → P ks → Q (SignToken sign ∷ ks)) → TextOf P t → TextOf Q (b ∷ t)
sign_first P Q b t (inl e) f x = byte_first P Q (SignToken Plus) b 43 t e refl (f Plus) x
sign_first P Q b t (inr e) f x = byte_first P Q (SignToken Minus) b 45 t e refl (f Minus) x

joint_first : (n : ℕ) (b : ℕ) (t : List ℕ) → (b ≡ 42) ⊎ (b ≡ 47) → TextOf (FactorAt n) t → TextOf (BehindAt n) (b ∷ t)
joint_first n b t (inl e) x = byte_first (FactorAt n) (BehindAt n) TimesToken b 42 t e refl (next_times n) x
joint_first n b t (inr e) x = byte_first (FactorAt n) (BehindAt n) OverToken b 47 t e refl (next_over n) x

digit_power : (b : ℕ) → 48 ≤ b → b ≤ 57 → Power
digit_power b h k = record { power = b - 48; digit = omega arith }

digit_first : (n b : ℕ) (t : List ℕ) → 48 ≤ b → b ≤ 57 → TextOf (BehindAt n) t → TextOf (PowerAt n) (b ∷ t)
unfolding digit_power
digit_first n b t h k x =
    let e : b ≡ 48 + (b - 48) = omega arith in
    byte_first (BehindAt n) (PowerAt n) (PowerToken (digit_power b h k)) b (48 + (b - 48)) t e refl (power_first (digit_power b h k) n) x

-- a decimal that begins with a byte
decimal_first : (n b : ℕ) (t : List ℕ) (p : DecimalPart) → decimal_byte parts.Start b ≡ Some p → PartOf p n t → TextOf (FactorAt n) (b ∷ t)
decimal_first n b t p e x =
    let taken : takes (b ∷ x.front) parts.Start ≡ true = takes_cons b x.front parts.Start ∙ ap (accepts_then (takes x.front)) e ∙ x.taken in
    let d = is_decimal_text (b ∷ x.front) taken in
    token_first (BehindAt n) (FactorAt n) (DecimalToken d.decimal) (b ∷ t) x.rest (ap (λ y. b ∷ y) x.spelt ∙ ap (λ (y : List ℕ). y ++ x.rest) d.spelt)
    (number_first d.decimal n) x.behind_is

word_first : (n b : ℕ) (t : List ℕ) → b ≡ 92 → WordOf letters.Backslash n t → TextOf (FurtherAt n) (b ∷ t)
word_first n b t e x =
    token_first (EpsilonAt n) (FurtherAt n) WordToken (b ∷ t) x.rest (ap (λ c. c ∷ t) e ∙ ap (λ y. 92 ∷ y) x.spelt) (epsilon_first n) x.behind_is

open_first : (n b : ℕ) (t : List ℕ) → b ≡ 40 → TextOf (SumAt (suc n)) t → TextOf (FurtherAt n) (b ∷ t)
open_first n b t e x = byte_first (SumAt (suc n)) (FurtherAt n) OpenToken b 40 t e refl (parens_first n) x

-- ---- a byte in each state

After : List ℕ → Option State → Option ℕ → Type 0
After t s m = accepts_then (accepts step may_end t) (reached s m) ≡ true

-- with a byte more of a decimal
part_goes : (n b : ℕ) (t : List ℕ) (p q : DecimalPart) → decimal_byte p b ≡ Some q → All t
    → After t (Some (states.Decimal q)) (opened (class_of b) n) → PartOf q n t
unfolding All Means After
part_goes n b t p q e r h = r (states.Decimal q) n (sym (ap (λ m. accepts_then (accepts step may_end t) (reached (Some (states.Decimal q)) m))
    (part_opens p q b n e)) ∙ h)

operand_class : (n b : ℕ) (t : List ℕ) (c : Class) → IsOf c b → All t → After t (operand_parts None c) (opened c n) → TextOf (FactorAt n) (b ∷ t)
unfolding All Means After
operand_class n b t classes.Blank k r h = behind_blank (FactorAt n) b t k (r states.Operand n h)
operand_class n b t classes.Backslash k r h = changed (FurtherAt n) (FactorAt n) (b ∷ t) (as_factor n)
    (word_first n b t k (r (states.Word letters.Backslash) n h))
operand_class n b t classes.Open k r h = changed (FurtherAt n) (FactorAt n) (b ∷ t) (as_factor n) (open_first n b t k (r states.Start (suc n) h))
operand_class n b t c k r h = absurd cc

operand_by : (n b : ℕ) (t : List ℕ) (o : Option DecimalPart) → decimal_byte parts.Start b ≡ o → All t
    → After t (operand_parts o (class_of b)) (opened (class_of b) n) → TextOf (FactorAt n) (b ∷ t)
operand_by n b t (Some p) e r h = decimal_first n b t p e (part_goes n b t parts.Start p e r h)
operand_by n b t None e r h = operand_class n b t (class_of b) (class_is b) r h

operand_is : (n b : ℕ) (t : List ℕ) → All t → After t (at_operand b) (opened (class_of b) n) → TextOf (FactorAt n) (b ∷ t)
operand_is n b t r h = operand_by n b t (decimal_byte parts.Start b) refl r h

start_by : (n b : ℕ) (t : List ℕ) (c : Class) → IsOf c b → All t → (After t (at_operand b) (opened c n) → TextOf (FactorAt n) (b ∷ t))
    → After t (start_or c (at_operand b)) (opened c n) → TextOf (SumAt n) (b ∷ t)
unfolding All Means After
start_by n b t classes.Blank k r f h = behind_blank (SumAt n) b t k (r states.Start n h)
start_by n b t classes.Sign k r f h = sign_first (FactorAt n) (SumAt n) b t k (λ sign. signed_factor sign n) (r states.Operand n h)
start_by n b t c k r f h = changed (FactorAt n) (SumAt n) (b ∷ t) (from_factor n) (f h)

close_by : (n b : ℕ) (t : List ℕ) → b ≡ 41 → All t → After t (Some states.Factor) (opened classes.Close n) → TextOf (BehindAt n) (b ∷ t)
unfolding All Means After
close_by zero b t k r h = absurd cc
close_by (suc n) b t k r h = byte_first (BehindAt n) (BehindAt (suc n)) CloseToken b 41 t k refl (close_first n) (r states.Factor n h)

factor_by : (n b : ℕ) (t : List ℕ) (c : Class) → IsOf c b → All t → After t (behind_factor c) (opened c n) → TextOf (BehindAt n) (b ∷ t)
unfolding All Means After
factor_by n b t classes.Blank k r h = behind_blank (BehindAt n) b t k (r states.Factor n h)
factor_by n b t classes.Sign k r h = sign_first (FactorAt n) (BehindAt n) b t k (λ sign. next_term sign n) (r states.Operand n h)
factor_by n b t classes.Joint k r h = joint_first n b t k (r states.Operand n h)
factor_by n b t classes.Close k r h = close_by n b t k r h
factor_by n b t classes.Backslash k r h =
    changed (FurtherAt n) (BehindAt n) (b ∷ t) (next_beside n) (word_first n b t k (r (states.Word letters.Backslash) n h))
factor_by n b t classes.Open k r h = changed (FurtherAt n) (BehindAt n) (b ∷ t) (next_beside n) (open_first n b t k (r states.Start (suc n) h))
factor_by n b t c k r h = absurd cc

epsilon_by : (n b : ℕ) (t : List ℕ) (c : Class) → IsOf c b → All t → After t (behind_epsilon c) (opened c n) → TextOf (EpsilonAt n) (b ∷ t)
unfolding All Means After
epsilon_by n b t classes.Caret k r h = byte_first (PowerAt n) (EpsilonAt n) CaretToken b 94 t k refl (caret_first n) (r states.Caret n h)
epsilon_by n b t classes.Blank k r h = behind_blank (EpsilonAt n) b t k (r states.Epsilon n h)
epsilon_by n b t c k r h = changed (BehindAt n) (EpsilonAt n) (b ∷ t) (no_caret n) (factor_by n b t c k r h)

caret_by : (n b : ℕ) (t : List ℕ) (c : Class) → IsOf c b → All t → After t (behind_caret c) (opened c n) → TextOf (PowerAt n) (b ∷ t)
unfolding All Means After
caret_by n b t classes.Blank k r h = behind_blank (PowerAt n) b t k (r states.Caret n h)
caret_by n b t classes.Digit k r h = digit_first n b t k.0 k.1 (r states.Factor n h)
caret_by n b t c k r h = absurd cc

part_by : (p : DecimalPart) (n b : ℕ) (t : List ℕ) (o : Option DecimalPart) (e : Bool) → decimal_byte p b ≡ o → ends_decimal p ≡ e → All t
    → After t (behind_parts o e (class_of b)) (opened (class_of b) n) → PartOf p n (b ∷ t)
unfolding After
part_by p n b t (Some q) e f g r h =
    let x = part_goes n b t p q f r h in
    record {
      front = b ∷ x.front;
      rest = x.rest;
      spelt = ap (λ y. b ∷ y) x.spelt;
      taken = takes_cons b x.front p ∙ ap (accepts_then (takes x.front)) f
          ∙ x.taken;
      behind_is = x.behind_is;
    }
part_by p n b t None true f g r h =
    record { front = []; rest = b ∷ t; spelt = refl; taken = takes_nil p ∙ g; behind_is = factor_by n b t (class_of b) (class_is b) r h }
part_by p n b t None false f g r h = absurd cc

letter_by : (l : Letter) (n : ℕ) (t : List ℕ) → All t → reads t (with_letter l) n ≡ true → WordOf l n (next_letter l ∷ t)
unfolding All Means
letter_by letters.Backslash n t r h = let x = r (states.Word letters.E) n h in
    record { rest = x.rest; spelt = ap (λ y. 101 ∷ y) x.spelt; behind_is = x.behind_is }
letter_by letters.E n t r h = let x = r (states.Word letters.P) n h in record { rest = x.rest; spelt = ap (λ y. 112 ∷ y) x.spelt; behind_is = x.behind_is }
letter_by letters.P n t r h = let x = r (states.Word letters.S) n h in record { rest = x.rest; spelt = ap (λ y. 115 ∷ y) x.spelt; behind_is = x.behind_is }
letter_by letters.S n t r h = let x = r (states.Word letters.I) n h in record { rest = x.rest; spelt = ap (λ y. 105 ∷ y) x.spelt; behind_is = x.behind_is }
letter_by letters.I n t r h = let x = r (states.Word letters.L) n h in record { rest = x.rest; spelt = ap (λ y. 108 ∷ y) x.spelt; behind_is = x.behind_is }
letter_by letters.L n t r h = let x = r (states.Word letters.O) n h in record { rest = x.rest; spelt = ap (λ y. 111 ∷ y) x.spelt; behind_is = x.behind_is }
letter_by letters.O n t r h = record { rest = t; spelt = refl; behind_is = r states.Epsilon n h }

word_by : (l : Letter) (n b : ℕ) (t : List ℕ) (x : Bool) → eqb b (next_letter l) ≡ x → All t
    → After t (cond x (Some (with_letter l)) None) (opened (class_of b) n) → WordOf l n (b ∷ t)
unfolding After
word_by l n b t true e r h =
    let is : b ≡ next_letter l = eqb-true b (next_letter l) e in
    let opens : opened (class_of b) n ≡ Some n = ap (λ c. opened (class_of c) n) is ∙ letter_opens l n in
    subst (λ c. WordOf l n (c ∷ t)) (sym is)
    (letter_by l n t r (sym (ap (λ m. accepts_then (accepts step may_end t) (reached (Some (with_letter l)) m)) opens) ∙ h))
word_by l n b t false e r h = absurd cc

byte_by : (s : State) (n b : ℕ) (t : List ℕ) → All t → After t (next s b) (opened (class_of b) n) → Means s n (b ∷ t)
unfolding Means
byte_by states.Start n b t r h = start_by n b t (class_of b) (class_is b) r (operand_is n b t r) h
byte_by states.Operand n b t r h = operand_is n b t r h
byte_by (states.Decimal p) n b t r h = part_by p n b t (decimal_byte p b) (ends_decimal p) refl refl r h
byte_by (states.Word l) n b t r h = word_by l n b t (eqb b (next_letter l)) refl r h
byte_by states.Epsilon n b t r h = epsilon_by n b t (class_of b) (class_is b) r h
byte_by states.Caret n b t r h = caret_by n b t (class_of b) (class_is b) r h
byte_by states.Factor n b t r h = factor_by n b t (class_of b) (class_is b) r h

-- ---- the end

none_open : (P : ℕ → Type 0) (x : Bool) (n : ℕ) → (x ≡ true → P 0) → ends x n ≡ true → P n
none_open P true zero f h = f refl
none_open P true (suc n) f h = absurd cc
none_open P false n f h = absurd cc

nothing_left : TextOf (BehindAt 0) []
nothing_left = record { tokens = []; spelt = tt; is = all_closed }

end_by : (s : State) (n : ℕ) → ends (is_whole s) n ≡ true → Means s n []
unfolding Means
end_by states.Start n h = absurd cc
end_by states.Operand n h = absurd cc
end_by (states.Decimal p) n h = none_open (λ m. PartOf p m []) (ends_decimal p) n
    (λ e. record { front = []; rest = []; spelt = refl; taken = takes_nil p ∙ e; behind_is = nothing_left }) h
end_by (states.Word l) n h = absurd cc
end_by states.Epsilon n h = none_open (λ m. TextOf (EpsilonAt m) []) true n (λ e. changed (BehindAt 0) (EpsilonAt 0) [] (no_caret 0) nothing_left) h
end_by states.Caret n h = absurd cc
end_by states.Factor n h = none_open (λ m. TextOf (BehindAt m) []) true n (λ e. nothing_left) h

means : (t : List ℕ) → All t
unfolding All After
means [] s n h = end_by s n (sym (reads_nil s n) ∙ h)
means (b ∷ t) s n h = byte_by s n b t (means t) (sym (reads_cons b t s n) ∙ h)

from_sum : (t : List ℕ) → TextOf (SumAt 0) t → IsExpression t
unfolding Closed Spells
from_sum t x = record {
  expression = x.is.expression;
  spells = subst (λ ks. IsSpelt ks t) (x.is.are ∙ ap (expression_tokens x.is.expression) x.is.closed) x.spelt;
}

pub is_expression : (t : List ℕ) → accepts step may_end t start ≡ true → IsExpression t
unfolding All Means
is_expression t h = from_sum t (means t states.Start 0 h)
