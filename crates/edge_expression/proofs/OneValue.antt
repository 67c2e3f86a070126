-- All expressions that one text spells have one value.
use mathlib.Core.Path.{fun_ext}
use Rattle.std.proofs.Common.{◌≡◌, ℕ, ◌+◌, inl, inr, List, [], ◌∷◌, ◌++◌, length, Option, Some, None, Result, refl, sym, ap, ap₂, subst}
use Rattle.std.proofs.Common.{◌∙◌, arith}
use Rattle.field_core.specs.Terms.{Terms}
use Rattle.numerals.specs.Numeral.{body_text}
use Rattle.numerals.proofs.Unique.{body_unique}
use Rattle.edge_expression.specs.EntryValues.{zero_coefficients, joined, times, over, sign_or_plus, decimal_entry, epsilon_value, power_value, value}
use Rattle.edge_expression.specs.EntryValues.{with_terms, term_value, with_factors, factor_value, further_value}
use Rattle.numerals.specs.DecimalMachine.{decimal_length}
use Rattle.edge_expression.specs.declared.value_fault.ValueFault.{ValueFault}
use Rattle.numerals.specs.Decimals.{Decimal, decimal_value}
use Rattle.edge_expression.specs.Expressions.{Power, Sign, Plus, Minus, Expression, Sum, MoreTerms, NoTerm, AndTerm, Term, Product, MoreFactors, NoFactor}
use Rattle.edge_expression.specs.Expressions.{Times, Over, Beside, Factor, Number, Other, Further, Epsilon, Parens, Token, DecimalToken, WordToken, CaretToken}
use Rattle.edge_expression.specs.Expressions.{PowerToken, SignToken, TimesToken, OverToken, OpenToken, CloseToken, sign_tokens, power_tokens, expression_tokens}
use Rattle.edge_expression.specs.Expressions.{terms_tokens, term_tokens, factors_tokens, factor_tokens, further_tokens, token_text, IsSpelt, Spells}
use Rattle.field_core.specs.Steps.{◌>>=◌}
use Rattle.edge_expression.specs.CursorView.{EndsExpression, EndsTerm, EndsFactor}
use Rattle.numerals.proofs.DecimalLengths.{decimal_front}
use Rattle.field_core.proofs.Heads.{heads}
use Rattle.edge_expression.proofs.SpeltTokens.{front, stops, mark, begin, same_begin, no_sign, no_joint, no_caret, term_no_sign, begin_further, not_further}
use Rattle.edge_expression.proofs.TakenTokens.{terms_end, factors_end}

-- ---- lists

-- two fronts of one length are the same
fronts_same : (x y a b : List ℕ) → length x ≡ length y → x ++ a ≡ y ++ b → (x ≡ y) × (a ≡ b)
fronts_same [] [] a b n e = (refl, e)
fronts_same [] (d ∷ y) a b n e = absurd (omega (arith, n))
fronts_same (c ∷ x) [] a b n e = absurd (omega (arith, n))
fronts_same (c ∷ x) (d ∷ y) a b n e =
    let h = heads c d (x ++ a) (y ++ b) e in
    let more = fronts_same x y a b (omega (arith, n)) h.1 in
    (ap₂ (λ k (t : List ℕ). k ∷ t) h.0 more.0, more.1)

-- ---- one token

-- one text spells both
record BothSpelt (ks js : List Token) : Type 0 where
  text : List ℕ
  first : IsSpelt ks text
  second : IsSpelt js text

-- after one token
behind_one : (k : Token) (ks js : List Token) (t : List ℕ) → IsSpelt (k ∷ ks) t → IsSpelt (k ∷ js) t → BothSpelt ks js
behind_one k ks js t s r =
    let f = front k ks t s in
    let g = front k js t r in
    let same = fronts_same (token_text k) (token_text k) f.rest g.rest refl (sym f.after ∙ g.after) in
    record { text = f.rest; first = f.spelt; second = subst (IsSpelt js) (sym same.1) g.spelt }

-- a decimal is a numeral, and one text is one numeral
same_body : (text : List ℕ) (d e : Decimal) → text ≡ body_text d.body → text ≡ body_text e.body → d.body ≡ e.body
same_body text d e p q =
    body_unique text (record { sign = None; body = d.body; is_sign = tt; is_body = d.is_body; spelt = p })
    (record { sign = None; body = e.body; is_sign = tt; is_body = e.is_body; spelt = q })

same_decimal : (d e : Decimal) → d.body ≡ e.body → decimal_value d ≡ decimal_value e
unfolding decimal_value
same_decimal d e h = rw h refl

-- two decimals are one
decimals_one : (d e : Decimal) (ks js : List Token) (t : List ℕ) → EndsFactor ks → EndsFactor js → IsSpelt (DecimalToken d ∷ ks) t
    → IsSpelt (DecimalToken e ∷ js) t → (decimal_value d ≡ decimal_value e) × BothSpelt ks js
decimals_one d e ks js t h k s r =
    let f = front (DecimalToken d) ks t s in
    let g = front (DecimalToken e) js t r in
    let long =
    sym (decimal_front d f.rest (stops f.rest ks h f.spelt)) ∙ ap decimal_length (sym f.after ∙ g.after)
    ∙ decimal_front e g.rest (stops g.rest js k g.spelt) in
    let same = fronts_same (body_text d.body) (body_text e.body) f.rest g.rest long (sym f.after ∙ g.after) in (
      same_decimal d e (same_body (body_text d.body) d e refl same.0),
      record { text = f.rest; first = f.spelt; second = subst (IsSpelt js) (sym same.1) g.spelt },
    )

power_by : (p q : Power) → token_text (PowerToken p) ≡ token_text (PowerToken q) → p.power ≡ q.power
power_by p q e = omega (arith, (heads (48 + p.power) (48 + q.power) [] [] e).0)

-- two powers are one
powers_one : (p q : Power) (ks js : List Token) (t : List ℕ) → IsSpelt (PowerToken p ∷ ks) t → IsSpelt (PowerToken q ∷ js) t
    → (p.power ≡ q.power) × BothSpelt ks js
powers_one p q ks js t s r =
    let f = front (PowerToken p) ks t s in
    let g = front (PowerToken q) js t r in
    let same = fronts_same (token_text (PowerToken p)) (token_text (PowerToken q)) f.rest g.rest refl (sym f.after ∙ g.after) in
    (power_by p q same.0, record { text = f.rest; first = f.spelt; second = subst (IsSpelt js) (sym same.1) g.spelt })

-- perhaps a caret and a power
epsilons_one : (p q : Option Power) (m n : List Token) (t : List ℕ) → EndsFactor m → EndsFactor n → IsSpelt (power_tokens p m) t
    → IsSpelt (power_tokens q n) t → (epsilon_value p ≡ epsilon_value q) × BothSpelt m n
unfolding begin mark
epsilons_one None None m n t h k s r = (refl, record { text = t; first = s; second = r })
epsilons_one None (Some q) m n t h k s r = absurd (no_caret m h (same_begin m (CaretToken ∷ PowerToken q ∷ n) t s r))
epsilons_one (Some p) None m n t h k s r = absurd (no_caret n k (same_begin n (CaretToken ∷ PowerToken p ∷ m) t r s))
epsilons_one (Some p) (Some q) m n t h k s r =
    let caret = behind_one CaretToken (PowerToken p ∷ m) (PowerToken q ∷ n) t s r in
    let power = powers_one p q m n caret.text caret.first caret.second in
    (ap power_value power.0, power.1)

-- the sign before a sum
signs_one : (a b : Option Sign) (x y : Term) (m n : List Token) (t : List ℕ) → IsSpelt (sign_tokens a (term_tokens x m)) t
    → IsSpelt (sign_tokens b (term_tokens y n)) t → (sign_or_plus a ≡ sign_or_plus b) × BothSpelt (term_tokens x m) (term_tokens y n)
unfolding begin mark
signs_one None None x y m n t s r = (refl, record { text = t; first = s; second = r })
signs_one None (Some b) x y m n t s r = absurd (term_no_sign x m b (same_begin (term_tokens x m) (SignToken b ∷ term_tokens y n) t s r))
signs_one (Some a) None x y m n t s r = absurd (term_no_sign y n a (same_begin (term_tokens y n) (SignToken a ∷ term_tokens x m) t r s))
signs_one (Some Plus) (Some Plus) x y m n t s r = (refl, behind_one (SignToken Plus) (term_tokens x m) (term_tokens y n) t s r)
signs_one (Some Plus) (Some Minus) x y m n t s r = let e : 43 ≡ 45 =
    same_begin (SignToken Plus ∷ term_tokens x m) (SignToken Minus ∷ term_tokens y n) t s r in absurd (omega (arith, e))
signs_one (Some Minus) (Some Plus) x y m n t s r = let e : 45 ≡ 43 =
    same_begin (SignToken Minus ∷ term_tokens x m) (SignToken Plus ∷ term_tokens y n) t s r in absurd (omega (arith, e))
signs_one (Some Minus) (Some Minus) x y m n t s r = (refl, behind_one (SignToken Minus) (term_tokens x m) (term_tokens y n) t s r)

-- ---- trees

-- what is made of a value, with all further ones
abbrev Then : Type 0
Then = List Terms → Result (List Terms) ValueFault

sums_one : (r w : Result (List Terms) ValueFault) (a b : Sign) (x : List Terms) (f g : Then) → r ≡ w → a ≡ b
    → ((y : List Terms) → f y ≡ g y) → (r >>= λ y. joined a x y >>= λ z. f z) ≡ (w >>= λ y. joined b x y >>= λ z. g z)
sums_one r w a b x f g e h k =
    ap₂ (λ v s. v >>= λ y. joined s x y >>= λ z. f z) e h
    ∙ ap (λ (q : List Terms → Result (List Terms) ValueFault). w >>= λ y. joined b x y >>= λ z. q z) (fun_ext k)

products_one : (r w : Result (List Terms) ValueFault) (f g : Then) → r ≡ w → ((y : List Terms) → f y ≡ g y)
    → (r >>= λ y. f y) ≡ (w >>= λ y. g y)
products_one r w f g e k = ap (λ v. v >>= λ y. f y) e ∙ ap (λ (q : List Terms → Result (List Terms) ValueFault). w >>= λ y. q y) (fun_ext k)

factors_one : (r w : Result (List Terms) ValueFault) (op : List Terms → Then) (x : List Terms) (f g : Then) → r ≡ w
    → ((y : List Terms) → f y ≡ g y) → (r >>= λ y. op x y >>= λ z. f z) ≡ (w >>= λ y. op x y >>= λ z. g z)
factors_one r w op x f g e k =
    ap (λ v. v >>= λ y. op x y >>= λ z. f z) e ∙ ap (λ (q : List Terms → Result (List Terms) ValueFault). w >>= λ y. op x y >>= λ z. q z) (fun_ext k)

-- further terms, from one sum on
SameTerms : MoreTerms → MoreTerms → Type 0
SameTerms ts us = (x : List Terms) → with_terms x ts ≡ with_terms x us

SameFactors : MoreFactors → MoreFactors → Type 0
SameFactors fs gs = (x : List Terms) → with_factors x fs ≡ with_factors x gs

expression_by : (a b : Option Sign) (x y : Term) (ts us : MoreTerms) → sign_or_plus a ≡ sign_or_plus b → term_value x ≡ term_value y
    → SameTerms ts us → value (Sum a x ts) ≡ value (Sum b y us)
unfolding value SameTerms
expression_by a b x y ts us h e k =
    sums_one (term_value x) (term_value y) (sign_or_plus a) (sign_or_plus b) zero_coefficients (λ z. with_terms z ts) (λ z. with_terms z us) e h k

terms_by : (a : Sign) (x y : Term) (ts us : MoreTerms) → term_value x ≡ term_value y → SameTerms ts us → SameTerms (AndTerm a x ts) (AndTerm a y us)
unfolding with_terms SameTerms
terms_by a x y ts us e k s = sums_one (term_value x) (term_value y) a a s (λ z. with_terms z ts) (λ z. with_terms z us) e refl k

term_by : (f g : Factor) (fs gs : MoreFactors) → factor_value f ≡ factor_value g → SameFactors fs gs
    → term_value (Product f fs) ≡ term_value (Product g gs)
unfolding term_value SameFactors
term_by f g fs gs e k = products_one (factor_value f) (factor_value g) (λ z. with_factors z fs) (λ z. with_factors z gs) e k

times_by : (f g : Factor) (fs gs : MoreFactors) → factor_value f ≡ factor_value g → SameFactors fs gs → SameFactors (Times f fs) (Times g gs)
unfolding with_factors SameFactors
times_by f g fs gs e k s = factors_one (factor_value f) (factor_value g) times s (λ z. with_factors z fs) (λ z. with_factors z gs) e k

over_by : (f g : Factor) (fs gs : MoreFactors) → factor_value f ≡ factor_value g → SameFactors fs gs → SameFactors (Over f fs) (Over g gs)
unfolding with_factors SameFactors
over_by f g fs gs e k s = factors_one (factor_value f) (factor_value g) over s (λ z. with_factors z fs) (λ z. with_factors z gs) e k

beside_by : (f g : Further) (fs gs : MoreFactors) → further_value f ≡ further_value g → SameFactors fs gs → SameFactors (Beside f fs) (Beside g gs)
unfolding with_factors SameFactors
beside_by f g fs gs e k s = factors_one (further_value f) (further_value g) times s (λ z. with_factors z fs) (λ z. with_factors z gs) e k

number_by : (d e : Decimal) → decimal_value d ≡ decimal_value e → factor_value (Number d) ≡ factor_value (Number e)
unfolding factor_value
number_by d e h = ap decimal_entry h

other_by : (f g : Further) → further_value f ≡ further_value g → factor_value (Other f) ≡ factor_value (Other g)
unfolding factor_value
other_by f g h = h

epsilon_by : (p q : Option Power) → epsilon_value p ≡ epsilon_value q → further_value (Epsilon p) ≡ further_value (Epsilon q)
unfolding further_value
epsilon_by p q h = h

parens_by : (e f : Expression) → value e ≡ value f → further_value (Parens e) ≡ further_value (Parens f)
unfolding further_value
parens_by e f h = h

same_terms_end : (m : List Token) → SameTerms NoTerm NoTerm
unfolding SameTerms
same_terms_end m x = refl

same_factors_end : (m : List Token) → SameFactors NoFactor NoFactor
unfolding SameFactors
same_factors_end m x = refl

further_joint : (f : Further) (more m : List Token) (t : List ℕ) → EndsTerm m → IsSpelt (further_tokens f more) t → IsSpelt m t → ⊥
further_joint f more m t h s r =
    let e = same_begin m (further_tokens f more) t r s in
    elim (begin_further f more) [ inl x ↦ no_joint m 92 h (inr (inr (inl refl))) (e ∙ x) | inr x ↦ no_joint m 40 h (inr (inr (inr refl))) (e ∙ x) ]

times_joint : (f : Factor) (more m : List Token) (t : List ℕ) → EndsTerm m → IsSpelt (TimesToken ∷ factor_tokens f more) t → IsSpelt m t → ⊥
unfolding begin mark
times_joint f more m t h s r = no_joint m 42 h (inl refl) (same_begin m (TimesToken ∷ factor_tokens f more) t r s)

over_joint : (f : Factor) (more m : List Token) (t : List ℕ) → EndsTerm m → IsSpelt (OverToken ∷ factor_tokens f more) t → IsSpelt m t → ⊥
unfolding begin mark
over_joint f more m t h s r = no_joint m 47 h (inr (inl refl)) (same_begin m (OverToken ∷ factor_tokens f more) t r s)

times_not_over : (f g : Factor) (k j : List Token) (t : List ℕ) → IsSpelt (TimesToken ∷ factor_tokens f k) t
    → IsSpelt (OverToken ∷ factor_tokens g j) t → ⊥
unfolding begin mark
times_not_over f g k j t s r = let e : 42 ≡ 47 = same_begin (TimesToken ∷ factor_tokens f k) (OverToken ∷ factor_tokens g j) t s r in omega (arith, e)

times_not_further : (f : Factor) (g : Further) (k j : List Token) (t : List ℕ) → IsSpelt (TimesToken ∷ factor_tokens f k) t
    → IsSpelt (further_tokens g j) t → ⊥
unfolding begin mark
times_not_further f g k j t s r =
    not_further g j 42 (λ e. omega (arith, e)) (λ e. omega (arith, e)) (same_begin (further_tokens g j) (TimesToken ∷ factor_tokens f k) t r s)

over_not_further : (f : Factor) (g : Further) (k j : List Token) (t : List ℕ) → IsSpelt (OverToken ∷ factor_tokens f k) t
    → IsSpelt (further_tokens g j) t → ⊥
unfolding begin mark
over_not_further f g k j t s r =
    not_further g j 47 (λ e. omega (arith, e)) (λ e. omega (arith, e)) (same_begin (further_tokens g j) (OverToken ∷ factor_tokens f k) t r s)

number_not_further : (d : Decimal) (g : Further) (k j : List Token) (t : List ℕ) → IsSpelt (DecimalToken d ∷ k) t
    → IsSpelt (further_tokens g j) t → ⊥
unfolding begin mark
number_not_further d g k j t s r =
    not_further g j 48 (λ e. omega (arith, e)) (λ e. omega (arith, e)) (same_begin (further_tokens g j) (DecimalToken d ∷ k) t r s)

word_not_open : (k j : List Token) (t : List ℕ) → IsSpelt (WordToken ∷ k) t → IsSpelt (OpenToken ∷ j) t → ⊥
unfolding begin mark
word_not_open k j t s r = let e : 92 ≡ 40 = same_begin (WordToken ∷ k) (OpenToken ∷ j) t s r in omega (arith, e)

sign_ends : (m : List Token) (sign : Sign) (k : List Token) (t : List ℕ) → EndsExpression m → IsSpelt m t → IsSpelt (SignToken sign ∷ k) t → ⊥
unfolding begin mark
sign_ends m sign k t h s r = no_sign m sign h (same_begin m (SignToken sign ∷ k) t s r)

plus_not_minus : (k j : List Token) (t : List ℕ) → IsSpelt (SignToken Plus ∷ k) t → IsSpelt (SignToken Minus ∷ j) t → ⊥
unfolding begin mark
plus_not_minus k j t s r = let e : 43 ≡ 45 = same_begin (SignToken Plus ∷ k) (SignToken Minus ∷ j) t s r in omega (arith, e)

mutual
  expressions_one : (e f : Expression) (m n : List Token) (t : List ℕ) → EndsExpression m → EndsExpression n
      → IsSpelt (expression_tokens e m) t → IsSpelt (expression_tokens f n) t → (value e ≡ value f) × BothSpelt m n
  expressions_one (Sum a x ts) (Sum b y us) m n t h k s r =
      let sign = signs_one a b x y (terms_tokens ts m) (terms_tokens us n) t s r in
      let first = term_one x y (terms_tokens ts m) (terms_tokens us n) sign.1.text (terms_end ts m h) (terms_end us n k) sign.1.first sign.1.second in
      let others = terms_one ts us m n first.1.text h k first.1.first first.1.second in
      (expression_by a b x y ts us sign.0 first.0 others.0, others.1)

  terms_one : (ts us : MoreTerms) (m n : List Token) (t : List ℕ) → EndsExpression m → EndsExpression n → IsSpelt (terms_tokens ts m) t
      → IsSpelt (terms_tokens us n) t → SameTerms ts us × BothSpelt m n
  terms_one NoTerm NoTerm m n t h k s r = (same_terms_end m, record { text = t; first = s; second = r })
  terms_one NoTerm (AndTerm b y us) m n t h k s r = absurd (sign_ends m b (term_tokens y (terms_tokens us n)) t h s r)
  terms_one (AndTerm a x ts) NoTerm m n t h k s r = absurd (sign_ends n a (term_tokens x (terms_tokens ts m)) t k r s)
  terms_one (AndTerm Plus x ts) (AndTerm Plus y us) m n t h k s r =
      let sign = behind_one (SignToken Plus) (term_tokens x (terms_tokens ts m)) (term_tokens y (terms_tokens us n)) t s r in
      let first = term_one x y (terms_tokens ts m) (terms_tokens us n) sign.text (terms_end ts m h) (terms_end us n k) sign.first sign.second in
      let others = terms_one ts us m n first.1.text h k first.1.first first.1.second in
      (terms_by Plus x y ts us first.0 others.0, others.1)
  terms_one (AndTerm Plus x ts) (AndTerm Minus y us) m n t h k s r =
      absurd (plus_not_minus (term_tokens x (terms_tokens ts m)) (term_tokens y (terms_tokens us n)) t s r)
  terms_one (AndTerm Minus x ts) (AndTerm Plus y us) m n t h k s r =
      absurd (plus_not_minus (term_tokens y (terms_tokens us n)) (term_tokens x (terms_tokens ts m)) t r s)
  terms_one (AndTerm Minus x ts) (AndTerm Minus y us) m n t h k s r =
      let sign = behind_one (SignToken Minus) (term_tokens x (terms_tokens ts m)) (term_tokens y (terms_tokens us n)) t s r in
      let first = term_one x y (terms_tokens ts m) (terms_tokens us n) sign.text (terms_end ts m h) (terms_end us n k) sign.first sign.second in
      let others = terms_one ts us m n first.1.text h k first.1.first first.1.second in
      (terms_by Minus x y ts us first.0 others.0, others.1)

  term_one : (x y : Term) (m n : List Token) (t : List ℕ) → EndsTerm m → EndsTerm n → IsSpelt (term_tokens x m) t
      → IsSpelt (term_tokens y n) t → (term_value x ≡ term_value y) × BothSpelt m n
  term_one (Product f fs) (Product g gs) m n t h k s r =
      let first = factor_one f g (factors_tokens fs m) (factors_tokens gs n) t (factors_end fs m h) (factors_end gs n k) s r in
      let others = more_one fs gs m n first.1.text h k first.1.first first.1.second in
      (term_by f g fs gs first.0 others.0, others.1)

  more_one : (fs gs : MoreFactors) (m n : List Token) (t : List ℕ) → EndsTerm m → EndsTerm n → IsSpelt (factors_tokens fs m) t
      → IsSpelt (factors_tokens gs n) t → SameFactors fs gs × BothSpelt m n
  more_one NoFactor NoFactor m n t h k s r = (same_factors_end m, record { text = t; first = s; second = r })
  more_one NoFactor (Times g gs) m n t h k s r = absurd (times_joint g (factors_tokens gs n) m t h r s)
  more_one NoFactor (Over g gs) m n t h k s r = absurd (over_joint g (factors_tokens gs n) m t h r s)
  more_one NoFactor (Beside g gs) m n t h k s r = absurd (further_joint g (factors_tokens gs n) m t h r s)
  more_one (Times f fs) NoFactor m n t h k s r = absurd (times_joint f (factors_tokens fs m) n t k s r)
  more_one (Over f fs) NoFactor m n t h k s r = absurd (over_joint f (factors_tokens fs m) n t k s r)
  more_one (Beside f fs) NoFactor m n t h k s r = absurd (further_joint f (factors_tokens fs m) n t k s r)
  more_one (Times f fs) (Times g gs) m n t h k s r =
      let joint = behind_one TimesToken (factor_tokens f (factors_tokens fs m)) (factor_tokens g (factors_tokens gs n)) t s r in
      let first = factor_one f g (factors_tokens fs m) (factors_tokens gs n) joint.text (factors_end fs m h) (factors_end gs n k) joint.first joint.second in
      let others = more_one fs gs m n first.1.text h k first.1.first first.1.second in
      (times_by f g fs gs first.0 others.0, others.1)
  more_one (Times f fs) (Over g gs) m n t h k s r = absurd (times_not_over f g (factors_tokens fs m) (factors_tokens gs n) t s r)
  more_one (Times f fs) (Beside g gs) m n t h k s r = absurd (times_not_further f g (factors_tokens fs m) (factors_tokens gs n) t s r)
  more_one (Over f fs) (Times g gs) m n t h k s r = absurd (times_not_over g f (factors_tokens gs n) (factors_tokens fs m) t r s)
  more_one (Over f fs) (Over g gs) m n t h k s r =
      let joint = behind_one OverToken (factor_tokens f (factors_tokens fs m)) (factor_tokens g (factors_tokens gs n)) t s r in
      let first = factor_one f g (factors_tokens fs m) (factors_tokens gs n) joint.text (factors_end fs m h) (factors_end gs n k) joint.first joint.second in
      let others = more_one fs gs m n first.1.text h k first.1.first first.1.second in
      (over_by f g fs gs first.0 others.0, others.1)
  more_one (Over f fs) (Beside g gs) m n t h k s r = absurd (over_not_further f g (factors_tokens fs m) (factors_tokens gs n) t s r)
  more_one (Beside f fs) (Times g gs) m n t h k s r = absurd (times_not_further g f (factors_tokens gs n) (factors_tokens fs m) t r s)
  more_one (Beside f fs) (Over g gs) m n t h k s r = absurd (over_not_further g f (factors_tokens gs n) (factors_tokens fs m) t r s)
  more_one (Beside f fs) (Beside g gs) m n t h k s r =
      let first = further_one f g (factors_tokens fs m) (factors_tokens gs n) t (factors_end fs m h) (factors_end gs n k) s r in
      let others = more_one fs gs m n first.1.text h k first.1.first first.1.second in
      (beside_by f g fs gs first.0 others.0, others.1)

  factor_one : (f g : Factor) (m n : List Token) (t : List ℕ) → EndsFactor m → EndsFactor n → IsSpelt (factor_tokens f m) t
      → IsSpelt (factor_tokens g n) t → (factor_value f ≡ factor_value g) × BothSpelt m n
  factor_one (Number d) (Number e) m n t h k s r = let one = decimals_one d e m n t h k s r in (number_by d e one.0, one.1)
  factor_one (Number d) (Other g) m n t h k s r = absurd (number_not_further d g m n t s r)
  factor_one (Other f) (Number e) m n t h k s r = absurd (number_not_further e f n m t r s)
  factor_one (Other f) (Other g) m n t h k s r = let one = further_one f g m n t h k s r in (other_by f g one.0, one.1)

  further_one : (f g : Further) (m n : List Token) (t : List ℕ) → EndsFactor m → EndsFactor n → IsSpelt (further_tokens f m) t
      → IsSpelt (further_tokens g n) t → (further_value f ≡ further_value g) × BothSpelt m n
  further_one (Epsilon p) (Epsilon q) m n t h k s r =
      let word = behind_one WordToken (power_tokens p m) (power_tokens q n) t s r in
      let power = epsilons_one p q m n word.text h k word.first word.second in
      (epsilon_by p q power.0, power.1)
  further_one (Epsilon p) (Parens f) m n t h k s r = absurd (word_not_open (power_tokens p m) (expression_tokens f (CloseToken ∷ n)) t s r)
  further_one (Parens e) (Epsilon q) m n t h k s r = absurd (word_not_open (power_tokens q n) (expression_tokens e (CloseToken ∷ m)) t r s)
  further_one (Parens e) (Parens f) m n t h k s r =
      let opened = behind_one OpenToken (expression_tokens e (CloseToken ∷ m)) (expression_tokens f (CloseToken ∷ n)) t s r in
      let inner = expressions_one e f (CloseToken ∷ m) (CloseToken ∷ n) opened.text tt tt opened.first opened.second in
      (parens_by e f inner.0, behind_one CloseToken m n inner.1.text inner.1.first inner.1.second)

pub one_value : (text : List ℕ) (e f : Expression) → Spells text e → Spells text f → value e ≡ value f
unfolding Spells
one_value text e f s r = (expressions_one e f [] [] text tt tt s r).0
