-- What a cursor takes of spelt tokens.
use Rattle.std.proofs.Common.{◌≡◌, ◌≢◌, ℕ, ◌+◌, ◌%◌, ◌<◌, ◌⊎◌, inl, inr, List, [], ◌∷◌, ◌++◌, length, drop, take, min}
use Rattle.std.proofs.Common.{Option, Some, None, refl, sym, ap, subst, ◌∙◌, arith, length-append}
use Rattle.std.proofs.lemmas.List.{take_at, drop_at}
use Rattle.field_core.specs.Terms.{Terms}
use Rattle.numerals.specs.Numeral.{body_text}
use Rattle.numerals.specs.DecimalMachine.{decimal_length}
use Rattle.text_lines.specs.Words.{after_blanks}
use Rattle.edge_expression.specs.declared.polynomial.Operation.{Operation}
use Rattle.edge_expression.specs.declared.polynomial.Operation.TheVariants as operations
use Rattle.edge_expression.specs.declared.cursor.Head.{Head}
use Rattle.edge_expression.specs.declared.cursor.Head.TheVariants as heads
use Rattle.numerals.specs.Decimals.{Decimal}
use Rattle.edge_expression.specs.Expressions.{Power, Sign, Plus, Minus, MoreTerms, NoTerm, AndTerm, Term, MoreFactors, NoFactor, Times, Over, Beside, Factor}
use Rattle.edge_expression.specs.Expressions.{Number, Other, Further, Epsilon, Parens, Token, DecimalToken, WordToken, CaretToken, PowerToken, SignToken}
use Rattle.edge_expression.specs.Expressions.{TimesToken, OverToken, OpenToken, CloseToken, sign_tokens, power_tokens, expression_tokens, terms_tokens}
use Rattle.edge_expression.specs.Expressions.{term_tokens, factors_tokens, factor_tokens, further_tokens, sign_byte, token_text, IsSpelt}
use Rattle.field_core.specs.Steps.{◌>>=◌}
use Rattle.edge_expression.specs.EntryValues.{sign_or_plus, power_value, epsilon_value, with_factors, factor_value}
use Rattle.edge_expression.specs.EntryView.{applied}
use Rattle.edge_expression.specs.CursorView.{IsOtherThan, NoSign, SignTaken, MayBeBeside, NoJoint, JointTaken, BeginsWord, HeadTaken, PowerTaken, CloseTaken}
use Rattle.edge_expression.specs.CursorView.{EndsExpression, EndsTerm, EndsFactor, IsHead}
use Rattle.numerals.proofs.DecimalLengths.{decimal_front}
use Rattle.field_core.proofs.Heads.{heads as heads_same}
use Rattle.edge_expression.proofs.SpeltTokens.{front, stops, mark, begin, byte_mark, text_mark, text_begins, begins, no_sign, IsJoint, no_joint, no_caret}
use Rattle.edge_expression.proofs.SpeltTokens.{term_no_sign, not_further}

-- a token of one byte that was taken
one_taken : (k : Token) (ks : List Token) (t new : List ℕ) (b c : ℕ) → token_text k ≡ c ∷ [] → IsSpelt (k ∷ ks) t
    → after_blanks t ≡ b ∷ new → IsSpelt ks new
one_taken k ks t new b c one s e =
    let f = front k ks t s in
    let g : c ∷ f.rest ≡ b ∷ new = sym (f.after ∙ ap (λ (x : List ℕ). x ++ f.rest) one) ∙ e in
    subst (IsSpelt ks) (heads_same c b f.rest new g).1 f.spelt

-- ---- signs

-- what a sign does
abbrev pub sign_operation : Sign → Operation
sign_operation Plus = operations.Add
sign_operation Minus = operations.Subtract

-- a sign that was taken
record IsSigned (op : Operation) (old new : List ℕ) : Type 0 where
  sign : Sign
  is : op ≡ sign_operation sign
  after : after_blanks old ≡ sign_byte sign ∷ new

signed : (op : Operation) (old new : List ℕ) → SignTaken (Some op) old new → IsSigned op old new
signed operations.Add old new h = record { sign = Plus; is = refl; after = h }
signed operations.Subtract old new h = record { sign = Minus; is = refl; after = h }
signed operations.Multiply old new h = absurd h
signed operations.Divide old new h = absurd h

same_sign : (a b : Sign) → sign_byte b ≡ sign_byte a → a ≡ b
same_sign Plus Plus e = refl
same_sign Plus Minus e = absurd (omega (arith, e))
same_sign Minus Plus e = absurd (omega (arith, e))
same_sign Minus Minus e = refl

sign_mark : (sign : Sign) → byte_mark (sign_byte sign) ≡ sign_byte sign
unfolding byte_mark
sign_mark Plus = refl
sign_mark Minus = refl

sign_begins : (ks : List Token) (sign : Sign) (old new : List ℕ) → after_blanks old ≡ sign_byte sign ∷ new → IsSpelt ks old
    → begin ks ≡ sign_byte sign
sign_begins ks sign old new a s = begins ks old (sign_byte sign) new a s ∙ sign_mark sign

sign_taken : (a b : Sign) (ks : List Token) (old new : List ℕ) → after_blanks old ≡ sign_byte a ∷ new → IsSpelt (SignToken b ∷ ks) old
    → (a ≡ b) × IsSpelt ks new
unfolding begin mark
sign_taken a b ks old new e s = (
  same_sign a b (sign_begins (SignToken b ∷ ks) a old new e s),
  one_taken (SignToken b) ks old new (sign_byte a) (sign_byte b)
      refl s e,
)

no_sign_here : (sign : Sign) (ks : List Token) (old : List ℕ) → NoSign (after_blanks old) → IsSpelt (SignToken sign ∷ ks) old → ⊥
no_sign_here Plus ks old h s = (subst NoSign (front (SignToken Plus) ks old s).after h).0 refl
no_sign_here Minus ks old h s = (subst NoSign (front (SignToken Minus) ks old s).after h).1 refl

-- the operation of the first term
abbrev pub first_operation : Option Operation → Operation
first_operation None = operations.Add
first_operation (Some op) = op

pub first_sign : (taken : Option Operation) (sign : Option Sign) (t : Term) (more : List Token) (old new : List ℕ) → SignTaken taken old new
    → IsSpelt (sign_tokens sign (term_tokens t more)) old → (first_operation taken ≡ sign_operation (sign_or_plus sign))
    × IsSpelt (term_tokens t more) new
first_sign None None t more old new h s = (refl, subst (IsSpelt (term_tokens t more)) (sym h.1) s)
first_sign None (Some sign) t more old new h s = absurd (no_sign_here sign (term_tokens t more) old h.0 s)
first_sign (Some op) None t more old new h s = let g = signed op old new h in absurd
    (term_no_sign t more g.sign (sign_begins (term_tokens t more) g.sign old new g.after s))
first_sign (Some op) (Some sign) t more old new h s =
    let g = signed op old new h in
    let x = sign_taken g.sign sign (term_tokens t more) old new g.after s in
    (g.is ∙ ap sign_operation x.0, x.1)

-- a further term, after a sign that was taken
pub record NextTerm (op : Operation) (ts : MoreTerms) (more : List Token) (new : List ℕ) : Type 0 where
  pub sign : Sign
  pub term : Term
  pub others : MoreTerms
  pub are : ts ≡ AndTerm sign term others
  pub operation : op ≡ sign_operation sign
  pub spelt : IsSpelt (term_tokens term (terms_tokens others more)) new

next_signed : (op : Operation) (ts : MoreTerms) (more : List Token) (old new : List ℕ) → EndsExpression more → IsSigned op old new
    → IsSpelt (terms_tokens ts more) old → NextTerm op ts more new
next_signed op NoTerm more old new e g s = absurd (no_sign more g.sign e (sign_begins more g.sign old new g.after s))
next_signed op (AndTerm sign term others) more old new e g s =
    let x = sign_taken g.sign sign (term_tokens term (terms_tokens others more)) old new g.after s in
    record { sign = sign; term = term; others = others; are = refl; operation = g.is ∙ ap sign_operation x.0; spelt = x.1 }

pub next_term : (op : Operation) (ts : MoreTerms) (more : List Token) (old new : List ℕ) → EndsExpression more → SignTaken (Some op) old new
    → IsSpelt (terms_tokens ts more) old → NextTerm op ts more new
next_term op ts more old new e h s = next_signed op ts more old new e (signed op old new h) s

pub no_term : (ts : MoreTerms) (more : List Token) (old : List ℕ) → NoSign (after_blanks old) → IsSpelt (terms_tokens ts more) old → ts ≡ NoTerm
no_term NoTerm more old h s = refl
no_term (AndTerm sign term others) more old h s = absurd (no_sign_here sign (term_tokens term (terms_tokens others more)) old h s)

-- ---- what may follow

term_end : (more : List Token) → EndsExpression more → EndsTerm more
term_end [] e = tt
term_end (CloseToken ∷ ks) e = tt
term_end (k ∷ ks) e = absurd e

pub terms_end : (ts : MoreTerms) (more : List Token) → EndsExpression more → EndsTerm (terms_tokens ts more)
terms_end NoTerm more e = term_end more e
terms_end (AndTerm sign term others) more e = tt

factor_end : (more : List Token) → EndsTerm more → EndsFactor more
factor_end [] e = tt
factor_end (CloseToken ∷ ks) e = tt
factor_end (SignToken sign ∷ ks) e = tt
factor_end (k ∷ ks) e = absurd e

pub factors_end : (fs : MoreFactors) (more : List Token) → EndsTerm more → EndsFactor (factors_tokens fs more)
factors_end NoFactor more e = factor_end more e
factors_end (Times factor others) more e = tt
factors_end (Over divisor others) more e = tt
factors_end (Beside (Epsilon power) others) more e = tt
factors_end (Beside (Parens inner) others) more e = tt

-- ---- joints

-- a further factor, after what joins it
pub record NextFactor (op : Operation) (fs : MoreFactors) (more : List Token) (new : List ℕ) : Type 0 where
  pub factor : Factor
  pub others : MoreFactors
  pub answer : (p : List Terms) → with_factors p fs ≡ (factor_value factor >>= λ x. applied op p x >>= λ longer. with_factors longer others)
  pub spelt : IsSpelt (factor_tokens factor (factors_tokens others more)) new

times_next : (factor : Factor) (others : MoreFactors) (more : List Token) (new : List ℕ)
    → IsSpelt (factor_tokens factor (factors_tokens others more)) new → NextFactor operations.Multiply (Times factor others) more new
unfolding with_factors applied
times_next factor others more new s = record { factor = factor; others = others; answer = λ p. refl; spelt = s }

over_next : (factor : Factor) (others : MoreFactors) (more : List Token) (new : List ℕ)
    → IsSpelt (factor_tokens factor (factors_tokens others more)) new → NextFactor operations.Divide (Over factor others) more new
unfolding with_factors applied
over_next factor others more new s = record { factor = factor; others = others; answer = λ p. refl; spelt = s }

beside_next : (further : Further) (others : MoreFactors) (more : List Token) (new : List ℕ)
    → IsSpelt (further_tokens further (factors_tokens others more)) new → NextFactor operations.Multiply (Beside further others) more new
unfolding with_factors applied
beside_next further others more new s = record { factor = Other further; others = others; answer = λ p. refl; spelt = s }

star_next : (fs : MoreFactors) (more : List Token) (old new : List ℕ) → EndsTerm more → after_blanks old ≡ 42 ∷ new
    → IsSpelt (factors_tokens fs more) old → NextFactor operations.Multiply fs more new
unfolding begin mark byte_mark
star_next NoFactor more old new e a s = absurd (no_joint more 42 e (inl refl) (begins more old 42 new a s))
star_next (Times factor others) more old new e a s =
    times_next factor others more new (one_taken TimesToken (factor_tokens factor (factors_tokens others more)) old new 42 42 refl s a)
star_next (Over factor others) more old new e a s = absurd (let b : 47 ≡ 42 = begins (OverToken ∷ factor_tokens factor (factors_tokens others more)) old 42
    new a s in omega (arith, b))
star_next (Beside further others) more old new e a s = absurd
    (not_further further (factors_tokens others more) 42 (λ x. omega (arith, x)) (λ x. omega (arith, x))
    (begins (further_tokens further (factors_tokens others more)) old 42 new a s))

slash_next : (fs : MoreFactors) (more : List Token) (old new : List ℕ) → EndsTerm more → after_blanks old ≡ 47 ∷ new
    → IsSpelt (factors_tokens fs more) old → NextFactor operations.Divide fs more new
unfolding begin mark byte_mark
slash_next NoFactor more old new e a s = absurd (no_joint more 47 e (inr (inl refl)) (begins more old 47 new a s))
slash_next (Times factor others) more old new e a s = absurd (let b : 42 ≡ 47 = begins (TimesToken ∷ factor_tokens factor (factors_tokens others more)) old
    47 new a s in omega (arith, b))
slash_next (Over factor others) more old new e a s =
    over_next factor others more new (one_taken OverToken (factor_tokens factor (factors_tokens others more)) old new 47 47 refl s a)
slash_next (Beside further others) more old new e a s = absurd
    (not_further further (factors_tokens others more) 47 (λ x. omega (arith, x)) (λ x. omega (arith, x))
    (begins (further_tokens further (factors_tokens others more)) old 47 new a s))

-- what the first byte of a further factor is and isn't
further_byte : (b : ℕ) → (b ≡ 40) ⊎ (b ≡ 92) → IsJoint (byte_mark b) × (42 ≢ byte_mark b) × (47 ≢ byte_mark b)
unfolding byte_mark
further_byte b (inl h) = rw h (inr (inr (inr refl)), λ e. omega (arith, e), λ e. omega (arith, e))
further_byte b (inr h) = rw h (inr (inr (inl refl)), λ e. omega (arith, e), λ e. omega (arith, e))

beside_by : (fs : MoreFactors) (more : List Token) (old : List ℕ) (b : ℕ) (x : List ℕ) → EndsTerm more → (b ≡ 40) ⊎ (b ≡ 92)
    → after_blanks old ≡ b ∷ x → IsSpelt (factors_tokens fs more) old → NextFactor operations.Multiply fs more old
unfolding begin mark
beside_by NoFactor more old b x e h a s = absurd (no_joint more (byte_mark b) e (further_byte b h).0 (begins more old b x a s))
beside_by (Times factor others) more old b x e h a s = absurd
    ((further_byte b h).1 (begins (TimesToken ∷ factor_tokens factor (factors_tokens others more)) old b x a s))
beside_by (Over factor others) more old b x e h a s = absurd ((further_byte b h).2
    (begins (OverToken ∷ factor_tokens factor (factors_tokens others more)) old b x a s))
beside_by (Beside further others) more old b x e h a s = beside_next further others more old s

may_begin : (old text : List ℕ) → after_blanks old ≡ text → MayBeBeside text → (b : ℕ) × (x : List ℕ) × (after_blanks old ≡ b ∷ x)
    × ((b ≡ 40) ⊎ (b ≡ 92))
may_begin old [] e h = absurd h
may_begin old (b ∷ x) e h = (b, x, e, h)

pub next_factor : (op : Operation) (fs : MoreFactors) (more : List Token) (old new : List ℕ) → EndsTerm more → JointTaken (Some op) old new
    → IsSpelt (factors_tokens fs more) old → NextFactor op fs more new
next_factor operations.Add fs more old new e h s = absurd h
next_factor operations.Subtract fs more old new e h s = absurd h
next_factor operations.Multiply fs more old new e (inl a) s = star_next fs more old new e a s
next_factor operations.Multiply fs more old new e (inr a) s =
    let m = may_begin old (after_blanks old) refl a.0 in
    subst (NextFactor operations.Multiply fs more) (sym a.1) (beside_by fs more old m.0 m.1 e m.3 m.2 s)
next_factor operations.Divide fs more old new e h s = slash_next fs more old new e h s

pub no_factor : (fs : MoreFactors) (more : List Token) (old : List ℕ) → NoJoint (after_blanks old) → IsSpelt (factors_tokens fs more) old
    → fs ≡ NoFactor
no_factor NoFactor more old h s = refl
no_factor (Times factor others) more old h s = absurd ((subst NoJoint (front TimesToken (factor_tokens factor (factors_tokens others more)) old s).after h).0
    refl)
no_factor (Over factor others) more old h s = absurd ((subst NoJoint (front OverToken (factor_tokens factor (factors_tokens others more)) old s).after h).1
    refl)
no_factor (Beside (Epsilon power) others) more old h s = absurd
    ((subst NoJoint (front WordToken (power_tokens power (factors_tokens others more)) old s).after h).3 refl)
no_factor (Beside (Parens inner) others) more old h s = absurd
    ((subst NoJoint (front OpenToken (expression_tokens inner (CloseToken ∷ factors_tokens others more)) old s).after h).2 refl)

-- ---- fronts of factors

word_mark : (text : List ℕ) → BeginsWord text → text_mark text ≡ 92
unfolding text_mark byte_mark
word_mark [] h = absurd h
word_mark (b ∷ x) h = rw h refl

word_begins : (ks : List Token) (t : List ℕ) → BeginsWord (after_blanks t) → IsSpelt ks t → begin ks ≡ 92
word_begins ks t h s = sym (text_begins ks t s) ∙ word_mark (after_blanks t) h

word_drop : (x : List ℕ) → drop (min (length (token_text WordToken ++ x)) 8) (token_text WordToken ++ x) ≡ x
word_drop x = let n : min (length (token_text WordToken ++ x)) 8 ≡ 8 =
    omega (arith, length-append (token_text WordToken) x) in ap (λ k. drop k (token_text WordToken ++ x)) n

open_head : (f : Factor) (more : List Token) (old new : List ℕ) → after_blanks old ≡ 40 ∷ new → IsSpelt (factor_tokens f more) old
    → IsHead heads.Open new f more
unfolding IsHead begin mark byte_mark
open_head (Number d) more old new a s = let b : 48 ≡ 40 = begins (DecimalToken d ∷ more) old 40 new a s in omega (arith, b)
open_head (Other (Epsilon power)) more old new a s = let b : 92 ≡ 40 = begins (WordToken ∷ power_tokens power more) old 40 new a s in omega (arith, b)
open_head (Other (Parens inner)) more old new a s = one_taken OpenToken (expression_tokens inner (CloseToken ∷ more)) old new 40 40 refl s a

word_head : (f : Factor) (more : List Token) (old new : List ℕ) → BeginsWord (after_blanks old)
    → new ≡ drop (min (length (after_blanks old)) 8) (after_blanks old) → IsSpelt (factor_tokens f more) old → IsHead heads.Epsilon new f more
unfolding IsHead begin mark
word_head (Number d) more old new b e s = let c : 48 ≡ 92 = word_begins (DecimalToken d ∷ more) old b s in omega (arith, c)
word_head (Other (Epsilon power)) more old new b e s =
    let f = front WordToken (power_tokens power more) old s in
    subst (IsSpelt (power_tokens power more)) (sym (e ∙ ap (λ (x : List ℕ). drop (min (length x) 8) x) f.after ∙ word_drop f.rest)) f.spelt
word_head (Other (Parens inner)) more old new b e s = let c : 40 ≡ 92 = word_begins (OpenToken ∷ expression_tokens inner (CloseToken ∷ more)) old b s in
    omega (arith, c)

decimal_head : (f : Factor) (more : List Token) (old new text : List ℕ) → EndsFactor more → IsOtherThan 40 (after_blanks old)
    → IsOtherThan 92 (after_blanks old) → text ≡ take (decimal_length (after_blanks old)) (after_blanks old)
    → new ≡ drop (decimal_length (after_blanks old)) (after_blanks old) → IsSpelt (factor_tokens f more) old → (d : Decimal)
    × (f ≡ Number d) × (text ≡ body_text d.body) × IsSpelt more new
decimal_head (Number d) more old new text e h i t n s =
    let f = front (DecimalToken d) more old s in
    let long : decimal_length (after_blanks old) ≡ length (body_text d.body) = ap decimal_length f.after
    ∙ decimal_front d f.rest (stops f.rest more e f.spelt) in (
      d,
      refl,
      t ∙ ap (take (decimal_length (after_blanks old))) f.after
          ∙ take_at (body_text d.body) f.rest _ (sym long),
      subst (IsSpelt more)
          (sym (n ∙ ap (drop (decimal_length (after_blanks old))) f.after ∙ drop_at (body_text d.body) f.rest _ (sym long))) f.spelt,
    )
decimal_head (Other (Epsilon power)) more old new text e h i t n s = absurd
    ((subst (IsOtherThan 92) (front WordToken (power_tokens power more) old s).after i) refl)
decimal_head (Other (Parens inner)) more old new text e h i t n s = absurd
    ((subst (IsOtherThan 40) (front OpenToken (expression_tokens inner (CloseToken ∷ more)) old s).after h) refl)

pub head_is : (head : Head) (f : Factor) (more : List Token) (old new : List ℕ) → EndsFactor more → HeadTaken head (after_blanks old) new
    → IsSpelt (factor_tokens f more) old → IsHead head new f more
unfolding IsHead
head_is heads.Open f more old new e h s = open_head f more old new h s
head_is heads.Epsilon f more old new e h s = word_head f more old new h.0 h.1 s
head_is (heads.Decimal text) f more old new e h s =
    let d = decimal_head f more old new text.now e h.0 h.1 h.2 h.3 s in
    subst (λ g. IsHead (heads.Decimal text) new g more) (sym d.1) (d.2, d.3)

-- ---- powers and closing parentheses

wrapped : (p b : ℕ) → p < 10 → b ≡ 48 + p → (b + 208) % 256 ≡ p
wrapped p b h e = omega (arith, h, e)

digit_taken : (p : Power) (more : List Token) (between new : List ℕ) (digit n : ℕ) → after_blanks between ≡ digit ∷ new
    → n ≡ (digit + 208) % 256 → IsSpelt (PowerToken p ∷ more) between → (n ≡ p.power) × IsSpelt more new
digit_taken p more between new digit n a e s =
    let f = front (PowerToken p) more between s in
    let g : (48 + p.power) ∷ f.rest ≡ digit ∷ new = sym f.after ∙ a in
    let h = heads_same (48 + p.power) digit f.rest new g in
    (e ∙ wrapped p.power digit p.digit (sym h.0), subst (IsSpelt more) h.1 f.spelt)

no_digit : (p : Power) (more : List Token) (between : List ℕ) → after_blanks between ≡ [] → IsSpelt (PowerToken p ∷ more) between → ⊥
no_digit p more between a s = let f = front (PowerToken p) more between s in let e : [] ≡ (48 + p.power) ∷ f.rest = sym a ∙ f.after in absurd cc

caret_begins : (ks : List Token) (t x : List ℕ) → after_blanks t ≡ 94 ∷ x → IsSpelt ks t → begin ks ≡ 94
unfolding byte_mark
caret_begins ks t x a s = begins ks t 94 x a s

pub power_is : (n : ℕ) (power : Option Power) (more : List Token) (old new : List ℕ) → EndsFactor more → PowerTaken n old new
    → IsSpelt (power_tokens power more) old → (power_value n ≡ epsilon_value power) × IsSpelt more new
power_is n None more old new e (inl h) s = (ap power_value h.2, subst (IsSpelt more) (sym h.1) s)
power_is n (Some p) more old new e (inl h) s = absurd ((subst (IsOtherThan 94) (front CaretToken (PowerToken p ∷ more) old s).after h.0) refl)
power_is n None more old new e (inr h) s = absurd (no_caret more e (caret_begins more old h.0 h.1 s))
power_is n (Some p) more old new e (inr h) s =
    let t : IsSpelt (PowerToken p ∷ more) h.0 = one_taken CaretToken (PowerToken p ∷ more) old h.0 94 94 refl s h.1 in
    elim h.2 [
      | inl d ↦ let x = digit_taken p more h.0 new d.0 n d.1 d.2 t in (ap power_value x.0, x.1)
      | inr none ↦ absurd (no_digit p more h.0 none.0 t)
    ]

pub close_is : (more : List Token) (old new : List ℕ) → CloseTaken old new → IsSpelt (CloseToken ∷ more) old → IsSpelt more new
close_is more old new (inl h) s = let f = front CloseToken more old s in let e : [] ≡ 41 ∷ f.rest = sym h.0 ∙ f.after in absurd cc
close_is more old new (inr h) s = one_taken CloseToken more old new h.0 41 refl s h.1
