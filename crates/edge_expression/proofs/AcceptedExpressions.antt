-- The machine accepts each expression, and what it has read can always be completed.
use Rattle.std.proofs.Common.{◌≡◌, ℕ, zero, suc, ◌+◌, Bool, true, false, cond, eqb, List, [], ◌∷◌, ◌++◌, Option, Some, None, refl, sym}
use Rattle.std.proofs.Common.{ap, ap₂, ◌∙◌, ◌⊎◌, arith}
use Rattle.std.proofs.lemmas.Bool.Decides.{nat_tests}
use Rattle.std.proofs.lemmas.List.{append-nil}
use Rattle.field_core.proofs.Longest.{accepts, accepts_then, count, stops_behind}
use Rattle.numerals.specs.Prefixes.{IsBadByte}
use Rattle.numerals.specs.Numeral.{body_text}
use Rattle.numerals.specs.declared.decimal_machine.DecimalPart.{DecimalPart}
use Rattle.numerals.specs.declared.decimal_machine.DecimalPart.TheVariants as parts
use Rattle.numerals.specs.DecimalMachine.{class_of as decimal_class, decimal_byte, may_end as ends_decimal}
use Rattle.numerals.specs.Decimals.{Decimal}
use Rattle.numerals.proofs.Classes.{digit_test}
use Rattle.numerals.proofs.DecimalTexts.{takes, takes_nil, takes_cons, decimal_taken}
use Rattle.numerals.proofs.DecimalLengths.{completion as decimal_end, completes as decimal_ends}
use Rattle.edge_expression.specs.declared.byte_class.Class.{Class}
use Rattle.edge_expression.specs.declared.byte_class.Class.TheVariants as classes
use Rattle.edge_expression.specs.declared.byte_machine.Letter.{Letter}
use Rattle.edge_expression.specs.declared.byte_machine.Letter.TheVariants as letters
use Rattle.edge_expression.specs.declared.byte_machine.State.{State}
use Rattle.edge_expression.specs.declared.byte_machine.State.TheVariants as states
use Rattle.edge_expression.specs.declared.byte_machine.Reached.{Reached}
use Rattle.edge_expression.specs.ByteMachine.{class_of, next_letter, with_letter, further, operand_parts, at_operand, start_or, behind_factor, behind_parts}
use Rattle.edge_expression.specs.ByteMachine.{behind_part, behind_epsilon, behind_caret, next, opened, reached, step, ends, may_end, start}
use Rattle.edge_expression.specs.Expressions.{Power, Sign, Plus, Minus, Expression, Sum, MoreTerms, NoTerm, AndTerm, Term, Product, MoreFactors, NoFactor}
use Rattle.edge_expression.specs.Expressions.{Times, Over, Beside, Factor, Number, Other, Further, Epsilon, Parens, Token, DecimalToken, WordToken, CaretToken}
use Rattle.edge_expression.specs.Expressions.{PowerToken, SignToken, TimesToken, OverToken, OpenToken, CloseToken, sign_tokens, power_tokens, expression_tokens}
use Rattle.edge_expression.specs.Expressions.{terms_tokens, term_tokens, factors_tokens, factor_tokens, further_tokens, sign_byte, token_text, AreBlanks}
use Rattle.edge_expression.specs.Expressions.{IsSpelt, Spells, IsExpression}
use Rattle.edge_expression.proofs.ByteClasses.{IsOf, class_is, either_of, class_digit, class_blank}
use Rattle.edge_expression.proofs.Machine.{reads, reads_nil, reads_cons, reads_by, behind, letter_opens, part_opens, ends_before}
use Rattle.edge_expression.proofs.ReadExpressions.{is_expression}

-- each text of these tokens is accepted from a state on
Accepts : State → ℕ → List Token → Type 0
Accepts s n ks = (t : List ℕ) → IsSpelt ks t → reads t s n ≡ true

-- ---- single bytes

-- a state in which blanks change nothing
Stays : State → Type 0
Stays s = (b : ℕ) → (b ≡ 32) ⊎ (b ≡ 9) → next s b ≡ Some s

blanks_stay : (s : State) (n : ℕ) (blanks t : List ℕ) → Stays s → AreBlanks blanks → reads (blanks ++ t) s n ≡ reads t s n
unfolding Stays
blanks_stay s n [] t h a = refl
blanks_stay s n (b ∷ bs) t h a =
    reads_by b (bs ++ t) s s n n (h b a.0) (ap (λ d. opened d n) (class_blank b a.0)) ∙ blanks_stay s n bs t h a.1

-- a token after blanks
token_by : (s : State) (n : ℕ) (k : Token) (ks : List Token) → Stays s
    → ((t : List ℕ) → IsSpelt ks t → reads (token_text k ++ t) s n ≡ true) → Accepts s n (k ∷ ks)
unfolding Accepts
token_by s n k ks h f t x = ap (λ y. reads y s n) x.spelt ∙ blanks_stay s n x.blanks (token_text k ++ x.rest) h x.are_blanks ∙ f x.rest x.is_rest

operand_stays : Stays states.Operand
unfolding Stays class_of decimal_class
operand_stays b = either_of (λ c. next states.Operand c ≡ Some states.Operand) 32 9 b refl refl

start_stays : Stays states.Start
unfolding Stays class_of
start_stays b = either_of (λ c. next states.Start c ≡ Some states.Start) 32 9 b refl refl

factor_stays : Stays states.Factor
unfolding Stays
factor_stays b e = ap behind_factor (class_blank b e)

epsilon_stays : Stays states.Epsilon
unfolding Stays
epsilon_stays b e = ap behind_epsilon (class_blank b e)

caret_stays : Stays states.Caret
unfolding Stays
caret_stays b e = ap behind_caret (class_blank b e)

-- ---- states that continue at least as another one

After : List ℕ → Option State → Option ℕ → Bool
After t s m = accepts_then (accepts step may_end t) (reached s m)

-- no factor begins with a sign
no_operand : (b : ℕ) → (b ≡ 43) ⊎ (b ≡ 45) → at_operand b ≡ None
unfolding class_of decimal_class
no_operand b = either_of (λ c. at_operand c ≡ None) 43 45 b refl refl

start_by : (b : ℕ) (t : List ℕ) (n : ℕ) (c : Class) → IsOf c b → (reads t states.Operand n ≡ true → reads t states.Start n ≡ true)
    → After t (at_operand b) (opened c n) ≡ true → After t (start_or c (at_operand b)) (opened c n) ≡ true
unfolding After Stays
start_by b t n classes.Blank k r h = r (sym (ap (λ s. After t s (Some n)) (operand_stays b k)) ∙ h)
start_by b t n classes.Sign k r h = let e : false ≡ true = sym (ap (λ s. After t s (Some n)) (no_operand b k)) ∙ h in absurd cc
start_by b t n c k r h = h

as_start : (t : List ℕ) (n : ℕ) → reads t states.Operand n ≡ true → reads t states.Start n ≡ true
unfolding After
as_start [] n h = let e : ends false n ≡ true = sym (reads_nil states.Operand n) ∙ h in absurd cc
as_start (b ∷ t) n h = reads_cons b t states.Start n ∙ start_by b t n (class_of b) (class_is b) (λ e. as_start t n e)
    (sym (reads_cons b t states.Operand n) ∙ h)

epsilon_by : (t : List ℕ) (n : ℕ) (c : Class) → (reads t states.Factor n ≡ true → reads t states.Epsilon n ≡ true)
    → After t (behind_factor c) (opened c n) ≡ true → After t (behind_epsilon c) (opened c n) ≡ true
unfolding After
epsilon_by t n classes.Blank r h = r h
epsilon_by t n classes.Caret r h = absurd cc
epsilon_by t n c r h = h

as_epsilon : (t : List ℕ) (n : ℕ) → reads t states.Factor n ≡ true → reads t states.Epsilon n ≡ true
unfolding After
as_epsilon [] n h = reads_nil states.Epsilon n ∙ sym (reads_nil states.Factor n) ∙ h
as_epsilon (b ∷ t) n h = reads_cons b t states.Epsilon n ∙ epsilon_by t n (class_of b) (λ e. as_epsilon t n e) (sym (reads_cons b t states.Factor n) ∙ h)

part_by : (t : List ℕ) (n : ℕ) (p : DecimalPart) (b : ℕ) (s : Option State) → ends_decimal p ≡ true → behind_factor (class_of b) ≡ s
    → After t s (opened (class_of b) n) ≡ true → After t (behind_part p b) (opened (class_of b) n) ≡ true
unfolding After
part_by t n p b None e f h = absurd cc
part_by t n p b (Some u) e f h =
    let g : behind_part p b ≡ Some u = ap₂ (λ o x. behind_parts o x (class_of b)) (ends_before b u f p e) e ∙ f in
    ap (λ x. After t x (opened (class_of b) n)) g ∙ h

as_part : (t : List ℕ) (n : ℕ) (p : DecimalPart) → ends_decimal p ≡ true → reads t states.Factor n ≡ true → reads t (states.Decimal p) n ≡ true
unfolding After
as_part [] n p e h = reads_nil (states.Decimal p) n ∙ ap (λ x. ends x n) e ∙ sym (reads_nil states.Factor n) ∙ h
as_part (b ∷ t) n p e h = reads_cons b t (states.Decimal p) n
    ∙ part_by t n p b (behind_factor (class_of b)) e refl (sym (reads_cons b t states.Factor n) ∙ h)

-- ---- decimals and the word

-- with a byte more of a decimal
goes_on : (x t : List ℕ) (n b : ℕ) (p : DecimalPart) (o : Option DecimalPart) (state_of : Option DecimalPart → Option State) → decimal_byte p b ≡ o
    → ((q : DecimalPart) → state_of (Some q) ≡ Some (states.Decimal q))
    → ((q : DecimalPart) → takes x q ≡ true → reads (x ++ t) (states.Decimal q) n ≡ true) → accepts_then (takes x) o ≡ true
    → After (x ++ t) (state_of o) (opened (class_of b) n) ≡ true
unfolding After
goes_on x t n b p None state_of e f r h = absurd cc
goes_on x t n b p (Some q) state_of e f r h = ap₂ (After (x ++ t)) (f q) (part_opens p q b n e) ∙ r q h

-- what ends a decimal, and then what may be after a factor
part_on : (x t : List ℕ) (n : ℕ) (p : DecimalPart) → takes x p ≡ true → reads t states.Factor n ≡ true
    → reads (x ++ t) (states.Decimal p) n ≡ true
unfolding After
part_on [] t n p h k = as_part t n p (sym (takes_nil p) ∙ h) k
part_on (b ∷ x) t n p h k =
    reads_cons b (x ++ t) (states.Decimal p) n ∙ goes_on x t n b p (decimal_byte p b) (λ o. behind_parts o (ends_decimal p) (class_of b)) refl (λ q. refl)
    (λ q e. part_on x t n q e k) (sym (takes_cons b x p) ∙ h)

decimal_on : (x t : List ℕ) (n : ℕ) → takes x parts.Start ≡ true → reads t states.Factor n ≡ true → reads (x ++ t) states.Operand n ≡ true
unfolding After
decimal_on [] t n h k = let e : false ≡ true = sym (takes_nil parts.Start) ∙ h in absurd cc
decimal_on (b ∷ x) t n h k =
    reads_cons b (x ++ t) states.Operand n ∙ goes_on x t n b parts.Start (decimal_byte parts.Start b) (λ o. operand_parts o (class_of b)) refl (λ q. refl)
    (λ q e. part_on x t n q e k) (sym (takes_cons b x parts.Start) ∙ h)

same_byte : (n : ℕ) → eqb n n ≡ true
same_byte n = grind (arith, nat_tests)

letter_on : (l : Letter) (t : List ℕ) (n : ℕ) → reads (next_letter l ∷ t) (states.Word l) n ≡ reads t (with_letter l) n
letter_on l t n = reads_by (next_letter l) t (states.Word l) (with_letter l) n n (ap (λ b. cond b (Some (with_letter l)) None) (same_byte (next_letter l)))
    (letter_opens l n)

o_on : (t : List ℕ) (n : ℕ) → reads (behind letters.O ++ t) (states.Word letters.O) n ≡ reads t states.Epsilon n
o_on t n = letter_on letters.O t n

l_on : (t : List ℕ) (n : ℕ) → reads (behind letters.L ++ t) (states.Word letters.L) n ≡ reads t states.Epsilon n
l_on t n = letter_on letters.L (behind letters.O ++ t) n ∙ o_on t n

i_on : (t : List ℕ) (n : ℕ) → reads (behind letters.I ++ t) (states.Word letters.I) n ≡ reads t states.Epsilon n
i_on t n = letter_on letters.I (behind letters.L ++ t) n ∙ l_on t n

s_on : (t : List ℕ) (n : ℕ) → reads (behind letters.S ++ t) (states.Word letters.S) n ≡ reads t states.Epsilon n
s_on t n = letter_on letters.S (behind letters.I ++ t) n ∙ i_on t n

p_on : (t : List ℕ) (n : ℕ) → reads (behind letters.P ++ t) (states.Word letters.P) n ≡ reads t states.Epsilon n
p_on t n = letter_on letters.P (behind letters.S ++ t) n ∙ s_on t n

word_on : (l : Letter) (t : List ℕ) (n : ℕ) → reads (behind l ++ t) (states.Word l) n ≡ reads t states.Epsilon n
word_on letters.O t n = o_on t n
word_on letters.L t n = l_on t n
word_on letters.I t n = i_on t n
word_on letters.S t n = s_on t n
word_on letters.P t n = p_on t n
word_on letters.E t n = letter_on letters.E (behind letters.P ++ t) n ∙ p_on t n
word_on letters.Backslash t n = letter_on letters.Backslash (behind letters.E ++ t) n ∙ letter_on letters.E (behind letters.P ++ t) n ∙ p_on t n

-- ---- tokens

sign_class : (sign : Sign) → class_of (sign_byte sign) ≡ classes.Sign
unfolding class_of
sign_class Plus = refl
sign_class Minus = refl

sign_at_start : (sign : Sign) (n : ℕ) (ks : List Token) → Accepts states.Operand n ks → Accepts states.Start n (SignToken sign ∷ ks)
unfolding Accepts
sign_at_start sign n ks h =
    token_by states.Start n (SignToken sign) ks start_stays (λ t x. reads_by (sign_byte sign) t states.Start states.Operand n n
    (ap (λ c. start_or c (at_operand (sign_byte sign))) (sign_class sign)) (ap (λ c. opened c n) (sign_class sign)) ∙ h t x)

sign_behind : (sign : Sign) (n : ℕ) (ks : List Token) → Accepts states.Operand n ks → Accepts states.Factor n (SignToken sign ∷ ks)
unfolding Accepts
sign_behind sign n ks h = token_by states.Factor n (SignToken sign) ks factor_stays
    (λ t x. reads_by (sign_byte sign) t states.Factor states.Operand n n (ap behind_factor (sign_class sign)) (ap (λ c. opened c n) (sign_class sign))
    ∙ h t x)

times_behind : (n : ℕ) (ks : List Token) → Accepts states.Operand n ks → Accepts states.Factor n (TimesToken ∷ ks)
unfolding Accepts class_of
times_behind n ks h = token_by states.Factor n TimesToken ks factor_stays (λ t x. reads_by 42 t states.Factor states.Operand n n refl refl ∙ h t x)

over_behind : (n : ℕ) (ks : List Token) → Accepts states.Operand n ks → Accepts states.Factor n (OverToken ∷ ks)
unfolding Accepts class_of
over_behind n ks h = token_by states.Factor n OverToken ks factor_stays (λ t x. reads_by 47 t states.Factor states.Operand n n refl refl ∙ h t x)

close_behind : (n : ℕ) (ks : List Token) → Accepts states.Factor n ks → Accepts states.Factor (suc n) (CloseToken ∷ ks)
unfolding Accepts class_of
close_behind n ks h = token_by states.Factor (suc n) CloseToken ks factor_stays
    (λ t x. reads_by 41 t states.Factor states.Factor (suc n) n refl refl ∙ h t x)

-- where a parenthesis may open and the word may begin
record Begins (s : State) : Type 0 where
  stays : Stays s
  opens : next s 40 ≡ Some states.Start
  words : next s 92 ≡ Some (states.Word letters.Backslash)

open_at : (s : State) (n : ℕ) (ks : List Token) → Begins s → Accepts states.Start (suc n) ks → Accepts s n (OpenToken ∷ ks)
unfolding Accepts class_of
open_at s n ks f h = token_by s n OpenToken ks f.stays (λ t x. reads_by 40 t s states.Start n (suc n) f.opens refl ∙ h t x)

word_at : (s : State) (n : ℕ) (ks : List Token) → Begins s → Accepts states.Epsilon n ks → Accepts s n (WordToken ∷ ks)
unfolding Accepts class_of
word_at s n ks f h =
    token_by s n WordToken ks f.stays (λ t x. reads_by 92 (behind letters.Backslash ++ t) s (states.Word letters.Backslash) n n f.words refl
    ∙ word_on letters.Backslash t n ∙ h t x)

operand_begins : Begins states.Operand
unfolding class_of decimal_class
operand_begins = record { stays = operand_stays; opens = refl; words = refl }

factor_begins : Begins states.Factor
unfolding class_of
factor_begins = record { stays = factor_stays; opens = refl; words = refl }

power_at : (power : Power) (n : ℕ) (ks : List Token) → Accepts states.Factor n ks → Accepts states.Caret n (PowerToken power ∷ ks)
unfolding Accepts
power_at power n ks h =
    let c = class_digit (48 + power.power) (digit_test (48 + power.power) (omega arith) (omega (arith, power.digit))) in
    token_by states.Caret n (PowerToken power) ks caret_stays
    (λ t x. reads_by (48 + power.power) t states.Caret states.Factor n n (ap behind_caret c) (ap (λ d. opened d n) c) ∙ h t x)

caret_at : (n : ℕ) (ks : List Token) → Accepts states.Caret n ks → Accepts states.Epsilon n (CaretToken ∷ ks)
unfolding Accepts class_of
caret_at n ks h = token_by states.Epsilon n CaretToken ks epsilon_stays (λ t x. reads_by 94 t states.Epsilon states.Caret n n refl refl ∙ h t x)

powers_at : (power : Option Power) (n : ℕ) (ks : List Token) → Accepts states.Factor n ks → Accepts states.Epsilon n (power_tokens power ks)
unfolding Accepts
powers_at None n ks h = λ t x. as_epsilon t n (h t x)
powers_at (Some power) n ks h = caret_at n (PowerToken power ∷ ks) (power_at power n ks h)

decimal_at : (d : Decimal) (n : ℕ) (ks : List Token) → Accepts states.Factor n ks → Accepts states.Operand n (DecimalToken d ∷ ks)
unfolding Accepts
decimal_at d n ks h = token_by states.Operand n (DecimalToken d) ks operand_stays (λ t x. decimal_on (body_text d.body) t n (decimal_taken d) (h t x))

signs_at : (sign : Option Sign) (n : ℕ) (ks : List Token) → Accepts states.Operand n ks → Accepts states.Start n (sign_tokens sign ks)
unfolding Accepts
signs_at None n ks h = λ t x. as_start t n (h t x)
signs_at (Some sign) n ks h = sign_at_start sign n ks h

-- ---- trees

mutual
  expression_accepted : (e : Expression) (n : ℕ) (more : List Token) → Accepts states.Factor n more → Accepts states.Start n (expression_tokens e more)
  expression_accepted (Sum sign first others) n more h =
      signs_at sign n (term_tokens first (terms_tokens others more)) (term_accepted first n (terms_tokens others more) (terms_accepted others n more h))

  terms_accepted : (ts : MoreTerms) (n : ℕ) (more : List Token) → Accepts states.Factor n more → Accepts states.Factor n (terms_tokens ts more)
  terms_accepted NoTerm n more h = h
  terms_accepted (AndTerm sign term others) n more h =
      sign_behind sign n (term_tokens term (terms_tokens others more)) (term_accepted term n (terms_tokens others more) (terms_accepted others n more h))

  term_accepted : (t : Term) (n : ℕ) (more : List Token) → Accepts states.Factor n more → Accepts states.Operand n (term_tokens t more)
  term_accepted (Product first others) n more h = factor_accepted first n (factors_tokens others more) (factors_accepted others n more h)

  factors_accepted : (fs : MoreFactors) (n : ℕ) (more : List Token) → Accepts states.Factor n more → Accepts states.Factor n (factors_tokens fs more)
  factors_accepted NoFactor n more h = h
  factors_accepted (Times factor others) n more h =
      times_behind n (factor_tokens factor (factors_tokens others more))
      (factor_accepted factor n (factors_tokens others more) (factors_accepted others n more h))
  factors_accepted (Over divisor others) n more h =
      over_behind n (factor_tokens divisor (factors_tokens others more))
      (factor_accepted divisor n (factors_tokens others more) (factors_accepted others n more h))
  factors_accepted (Beside factor others) n more h =
      further_accepted factor states.Factor n (factors_tokens others more) factor_begins (factors_accepted others n more h)

  factor_accepted : (f : Factor) (n : ℕ) (more : List Token) → Accepts states.Factor n more → Accepts states.Operand n (factor_tokens f more)
  factor_accepted (Number decimal) n more h = decimal_at decimal n more h
  factor_accepted (Other further) n more h = further_accepted further states.Operand n more operand_begins h

  further_accepted : (f : Further) (s : State) (n : ℕ) (more : List Token) → Begins s → Accepts states.Factor n more
      → Accepts s n (further_tokens f more)
  further_accepted (Epsilon power) s n more b h = word_at s n (power_tokens power more) b (powers_at power n more h)
  further_accepted (Parens inner) s n more b h =
      open_at s n (expression_tokens inner (CloseToken ∷ more)) b (expression_accepted inner (suc n) (CloseToken ∷ more) (close_behind n more h))

blanks_end : (t : List ℕ) → AreBlanks t → reads t states.Factor 0 ≡ true
blanks_end t h = ap (λ x. reads x states.Factor 0) (sym (append-nil t)) ∙ blanks_stay states.Factor 0 t [] factor_stays h ∙ reads_nil states.Factor 0

pub expression_is_accepted : (t : List ℕ) → IsExpression t → accepts step may_end t start ≡ true
unfolding Accepts Spells
expression_is_accepted t x = expression_accepted x.expression 0 [] (λ u h. blanks_end u h) t x.spells

-- ---- completion

closers : ℕ → List ℕ
closers zero = []
closers (suc n) = 41 ∷ closers n

closes : (n : ℕ) → reads (closers n) states.Factor n ≡ true
unfolding closers class_of
closes zero = reads_nil states.Factor 0
closes (suc n) = reads_by 41 (closers n) states.Factor states.Factor (suc n) n refl refl ∙ closes n

completion_by : State → ℕ → List ℕ
completion_by states.Start n = decimal_end parts.Start ++ closers n
completion_by states.Operand n = decimal_end parts.Start ++ closers n
completion_by (states.Decimal p) n = decimal_end p ++ closers n
completion_by (states.Word l) n = behind l ++ closers n
completion_by states.Epsilon n = closers n
completion_by states.Caret n = 48 ∷ closers n
completion_by states.Factor n = closers n

operand_completes : (n : ℕ) → reads (decimal_end parts.Start ++ closers n) states.Operand n ≡ true
operand_completes n = decimal_on (decimal_end parts.Start) (closers n) n (decimal_ends parts.Start) (closes n)

completed : (s : State) (n : ℕ) → reads (completion_by s n) s n ≡ true
unfolding completion_by class_of
completed states.Start n = as_start (decimal_end parts.Start ++ closers n) n (operand_completes n)
completed states.Operand n = operand_completes n
completed (states.Decimal p) n = part_on (decimal_end p) (closers n) n p (decimal_ends p) (closes n)
completed (states.Word l) n = word_on l (closers n) n ∙ as_epsilon (closers n) n (closes n)
completed states.Epsilon n = as_epsilon (closers n) n (closes n)
completed states.Caret n = reads_by 48 (closers n) states.Caret states.Factor n n refl refl ∙ closes n
completed states.Factor n = closes n

completion : Reached → List ℕ
completion r = completion_by r.state r.depth

completes : (r : Reached) → accepts step may_end (completion r) r ≡ true
unfolding completion
completes r = completed r.state r.depth

pub bad_byte : (t : List ℕ) → accepts step may_end t start ≡ false → IsBadByte IsExpression t (count step t start)
bad_byte t h =
    let l = stops_behind step may_end completion completes IsExpression start expression_is_accepted is_expression t in
    record {
      refused = λ x. let e = sym (expression_is_accepted t x) ∙ h in cc;
      within = l.within;
      begins = record { rest = l.rest; whole = l.whole };
      longest = λ m le b. l.longest m b.rest le b.whole;
    }
