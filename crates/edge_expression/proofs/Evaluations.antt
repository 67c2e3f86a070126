-- Sums and products, term by term and factor by factor.
use Rattle.std.proofs.Common.{◌≡◌, ℕ, true, List, [], ◌∷◌, Option, Some, None, Result, Ok, Err, refl, sym, ap, subst, ◌∙◌}
use Rattle.std.specs.Prelude.{is_ok, IfOk}
use Rattle.std.specs.Option.{unwrap_or}
use Rattle.edge_expression.specs.declared.polynomial.Operation.TheVariants as operations
use Rattle.std.specs.Borrow.{Bor}
use Rattle.field_core.specs.Terms.{Terms}
use Rattle.edge_expression.specs.EntryValues.{zero_coefficients, joined, sign_or_plus, value, with_terms, term_value, with_factors, factor_value, decimal_entry}
use Rattle.edge_expression.specs.EntryValues.{power_value}
use Rattle.edge_expression.specs.declared.value_fault.ValueFault.{ValueFault}
use Rattle.edge_expression.specs.declared.polynomial.Polynomial.{Polynomial}
use Rattle.edge_expression.specs.declared.polynomial.Operation.{Operation}
use Rattle.edge_expression.specs.declared.cursor.Head.{Head}
use Rattle.edge_expression.specs.declared.cursor.Head.TheVariants as heads
use Rattle.numerals.specs.Numeral.{body_text}
use Rattle.numerals.specs.Decimals.{Decimal, decimal_value}
use Rattle.edge_expression.specs.Expressions.{Sign, Plus, Minus, Expression, Sum, MoreTerms, NoTerm, AndTerm, Term, Product, MoreFactors, NoFactor, Number}
use Rattle.edge_expression.specs.Expressions.{Other, Epsilon, Parens, Token, CloseToken, expression_tokens, terms_tokens, term_tokens, factors_tokens, IsSpelt}
use Rattle.edge_expression.specs.Expressions.{Spells}
use Rattle.field_core.specs.Steps.{◌>>=◌}
use Rattle.edge_expression.specs.EntryView.{map_value, polynomial_terms, applied}
use Rattle.edge_expression.specs.CursorView.{SignTaken, JointTaken, HeadTaken, PowerTaken, CloseTaken, EndsExpression, EndsTerm, Evaluates, IsHead, SumGives}
use Rattle.edge_expression.specs.CursorView.{ProductGives, FactorGives}
use Rattle.text_lines.specs.Words.{after_blanks}
use Rattle.edge_expression.proofs.TakenTokens.{sign_operation, first_operation, first_sign, next_term, no_term, terms_end, factors_end, next_factor, no_factor}
use Rattle.edge_expression.proofs.TakenTokens.{head_is, power_is, close_is}
use Rattle.edge_expression.proofs.DecimalValues.{decimal_factor, epsilon_factor}

-- ---- faults

failing : ValueFault → Result Polynomial ValueFault
failing f = Err f

no_ok : (f : ValueFault) → is_ok (failing f) ≡ true → ⊥
unfolding failing
no_ok f e = cc

not_ok : (f : ValueFault) (r : Result Polynomial ValueFault) → r ≡ Err f → is_ok r ≡ true → ⊥
unfolding failing
not_ok f r e o = no_ok f (ap is_ok (sym e) ∙ o)

-- the answer is a fault, and so is the result
pub err_gives : (f : ValueFault) (left : List ℕ) (more : List Token) (w : Result (List Terms) ValueFault) (r : Result Polynomial ValueFault)
    → r ≡ Err f → w ≡ Err f → Evaluates r left w more
err_gives f left more w r e k = (ap (map_value polynomial_terms) e ∙ sym k, λ o. absurd (not_ok f r e o))

pub err_as : (r : Result Polynomial ValueFault) (x f : ValueFault) → r ≡ Err x → x ≡ f → r ≡ Err f
err_as r x f e g = rw e (ap (λ y. Err y) g)

-- ---- sums

sign_applied : (sign : Sign) (x y : List Terms) → applied (sign_operation sign) x y ≡ joined sign x y
unfolding applied
sign_applied Plus x y = refl
sign_applied Minus x y = refl

-- with this sum, these terms are left
record SumLeft (rest : List ℕ) (sum : List Terms) (answer : Result (List Terms) ValueFault) (more : List Token) : Type 0 where
  others : MoreTerms
  spelt : IsSpelt (terms_tokens others more) rest
  value_is : answer ≡ with_terms sum others

-- on each expression, what was taken makes this sum
pub SumGoes : List ℕ → List ℕ → List Terms → Type 0
SumGoes entry rest sum =
    (e : Expression) (more : List Token) → EndsExpression more → IsSpelt (expression_tokens e more) entry → SumLeft rest sum (value e) more

sum_on : (w : Result (List Terms) ValueFault) (sign : Sign) (sum p s : List Terms) (others : MoreTerms) → Ok p ≡ w → joined sign sum p ≡ Ok s
    → (w >>= λ x. joined sign sum x >>= λ longer. with_terms longer others) ≡ with_terms s others
sum_on w sign sum p s others e f = rw (← e, f) refl

sum_off : (w : Result (List Terms) ValueFault) (sign : Sign) (sum p : List Terms) (others : MoreTerms) (f : ValueFault) → Ok p ≡ w
    → joined sign sum p ≡ Err f → (w >>= λ x. joined sign sum x >>= λ longer. with_terms longer others) ≡ Err f
sum_off w sign sum p others f e g = rw (← e, g) refl

sum_stop : (w : Result (List Terms) ValueFault) (sign : Sign) (sum : List Terms) (others : MoreTerms) (f : ValueFault) → Err f ≡ w
    → (w >>= λ x. joined sign sum x >>= λ longer. with_terms longer others) ≡ Err f
sum_stop w sign sum others f e = rw (← e) refl

by_sign : (op : Operation) (sign : Sign) (x y : List Terms) (r : Result (List Terms) ValueFault) → op ≡ sign_operation sign
    → r ≡ applied op x y → joined sign x y ≡ r
by_sign op sign x y r e f = sym (f ∙ ap (λ o. applied o x y) e ∙ sign_applied sign x y)

-- the first term
pub first_goes : (taken : Option Operation) (entry mid rest : List ℕ) (p : Polynomial) (s : List Terms) → SignTaken taken entry mid
    → ProductGives mid (Ok p) rest → Ok s ≡ applied (first_operation taken) zero_coefficients (polynomial_terms p) → SumGoes entry rest s
unfolding SumGoes ProductGives value
first_goes taken entry mid rest p s h gives a (Sum sign first others) more ends t =
    let x = first_sign taken sign first (terms_tokens others more) entry mid h t in
    let g = gives first (terms_tokens others more) (terms_end others more ends) x.1 in
    record {
      others = others;
      spelt = g.1 refl;
      value_is =
          sum_on (term_value first) (sign_or_plus sign) zero_coefficients (polynomial_terms p) s others g.0
          (by_sign (first_operation taken) (sign_or_plus sign) zero_coefficients (polynomial_terms p) (Ok s) x.0 a);
    }

pub first_refused : (taken : Option Operation) (entry mid rest new : List ℕ) (p : Polynomial) (f : ValueFault) (r : Result Polynomial ValueFault)
    → r ≡ Err f → SignTaken taken entry mid → ProductGives mid (Ok p) rest
    → Err f ≡ applied (first_operation taken) zero_coefficients (polynomial_terms p) → SumGives entry r new
unfolding SumGives ProductGives value
first_refused taken entry mid rest new p f r is h gives a (Sum sign first others) more ends t =
    let x = first_sign taken sign first (terms_tokens others more) entry mid h t in
    let g = gives first (terms_tokens others more) (terms_end others more ends) x.1 in
    err_gives f new more _ r is
    (sum_off (term_value first) (sign_or_plus sign) zero_coefficients (polynomial_terms p) others f g.0
    (by_sign (first_operation taken) (sign_or_plus sign) zero_coefficients (polynomial_terms p) (Err f) x.0 a))

pub first_fails : (taken : Option Operation) (entry mid rest new : List ℕ) (f : ValueFault) (r : Result Polynomial ValueFault) → r ≡ Err f
    → SignTaken taken entry mid → ProductGives mid (Err f) rest → SumGives entry r new
unfolding SumGives ProductGives value
first_fails taken entry mid rest new f r is h gives (Sum sign first others) more ends t =
    let x = first_sign taken sign first (terms_tokens others more) entry mid h t in
    let g = gives first (terms_tokens others more) (terms_end others more ends) x.1 in
    err_gives f new more _ r is (sum_stop (term_value first) (sign_or_plus sign) zero_coefficients others f g.0)

-- a further term
pub with_next : (sum : List Terms) (sign : Sign) (term : Term) (others : MoreTerms)
    → with_terms sum (AndTerm sign term others) ≡ (term_value term >>= λ x. joined sign sum x >>= λ longer. with_terms longer others)
unfolding with_terms
with_next sum sign term others = refl

pub next_goes : (op : Operation) (entry old mid rest : List ℕ) (sum s : List Terms) (p : Polynomial) → SumGoes entry old sum
    → SignTaken (Some op) old mid → ProductGives mid (Ok p) rest → Ok s ≡ applied op sum (polynomial_terms p) → SumGoes entry rest s
unfolding SumGoes ProductGives
next_goes op entry old mid rest sum s p goes h gives a e more ends t =
    let l = goes e more ends t in
    let n = next_term op l.others more old mid ends h l.spelt in
    let g = gives n.term (terms_tokens n.others more) (terms_end n.others more ends) n.spelt in
    record {
      others = n.others;
      spelt = g.1 refl;
      value_is =
          l.value_is ∙ ap (with_terms sum) n.are ∙ with_next sum n.sign n.term n.others
          ∙ sum_on (term_value n.term) n.sign sum (polynomial_terms p) s n.others g.0 (by_sign op n.sign sum (polynomial_terms p) (Ok s) n.operation a);
    }

pub next_refused : (op : Operation) (entry old mid rest new : List ℕ) (sum : List Terms) (p : Polynomial) (f : ValueFault) (r : Result Polynomial ValueFault)
    → r ≡ Err f → SumGoes entry old sum → SignTaken (Some op) old mid → ProductGives mid (Ok p) rest
    → Err f ≡ applied op sum (polynomial_terms p) → SumGives entry r new
unfolding SumGoes SumGives ProductGives
next_refused op entry old mid rest new sum p f r is goes h gives a e more ends t =
    let l = goes e more ends t in
    let n = next_term op l.others more old mid ends h l.spelt in
    let g = gives n.term (terms_tokens n.others more) (terms_end n.others more ends) n.spelt in
    err_gives f new more (value e) r is
    (l.value_is ∙ ap (with_terms sum) n.are ∙ with_next sum n.sign n.term n.others
    ∙ sum_off (term_value n.term) n.sign sum (polynomial_terms p) n.others f g.0 (by_sign op n.sign sum (polynomial_terms p) (Err f) n.operation a))

pub next_fails : (op : Operation) (entry old mid rest new : List ℕ) (sum : List Terms) (f : ValueFault) (r : Result Polynomial ValueFault)
    → r ≡ Err f → SumGoes entry old sum → SignTaken (Some op) old mid → ProductGives mid (Err f) rest → SumGives entry r new
unfolding SumGoes SumGives ProductGives
next_fails op entry old mid rest new sum f r is goes h gives e more ends t =
    let l = goes e more ends t in
    let n = next_term op l.others more old mid ends h l.spelt in
    let g = gives n.term (terms_tokens n.others more) (terms_end n.others more ends) n.spelt in
    err_gives f new more (value e) r is
    (l.value_is ∙ ap (with_terms sum) n.are ∙ with_next sum n.sign n.term n.others ∙ sum_stop (term_value n.term) n.sign sum n.others f g.0)

pub with_none : (sum : List Terms) → with_terms sum NoTerm ≡ Ok sum
unfolding with_terms
with_none sum = refl

-- no further term
pub sum_done : (entry old new : List ℕ) (sum : Polynomial) → SumGoes entry old (polynomial_terms sum) → SignTaken None old new
    → SumGives entry (Ok sum) new
unfolding SumGoes SumGives
sum_done entry old new sum goes h e more ends t =
    let l = goes e more ends t in
    let n = no_term l.others more old h.0 l.spelt in (
      sym (l.value_is ∙ ap (with_terms (polynomial_terms sum)) n ∙ with_none (polynomial_terms sum)),
      λ _. subst (IsSpelt more) (sym h.1) (subst (λ ts. IsSpelt (terms_tokens ts more) old) n l.spelt),
    )

-- ---- products

-- with this product, these factors are left
record ProductLeft (rest : List ℕ) (product : List Terms) (answer : Result (List Terms) ValueFault) (more : List Token) : Type 0 where
  others : MoreFactors
  spelt : IsSpelt (factors_tokens others more) rest
  value_is : answer ≡ with_factors product others

pub ProductGoes : List ℕ → List ℕ → List Terms → Type 0
ProductGoes entry rest product =
    (t : Term) (more : List Token) → EndsTerm more → IsSpelt (term_tokens t more) entry → ProductLeft rest product (term_value t) more

product_on : (w : Result (List Terms) ValueFault) (p : List Terms) (others : MoreFactors) → Ok p ≡ w
    → (w >>= λ x. with_factors x others) ≡ with_factors p others
product_on w p others e = rw (← e) refl

product_stop : (w : Result (List Terms) ValueFault) (others : MoreFactors) (f : ValueFault) → Err f ≡ w → (w >>= λ x. with_factors x others) ≡ Err f
product_stop w others f e = rw (← e) refl

pub first_factor : (head : Head) (entry mid rest : List ℕ) (p : Polynomial) → HeadTaken head (after_blanks entry) mid
    → FactorGives head mid (Ok p) rest → ProductGoes entry rest (polynomial_terms p)
unfolding ProductGoes FactorGives term_value
first_factor head entry mid rest p h gives (Product first others) more ends t =
    let e = factors_end others more ends in
    let g = gives first (factors_tokens others more) e (head_is head first (factors_tokens others more) entry mid e h t) in
    record { others = others; spelt = g.1 refl; value_is = product_on (factor_value first) (polynomial_terms p) others g.0 }

pub first_factor_fails : (head : Head) (entry mid rest new : List ℕ) (f : ValueFault) (r : Result Polynomial ValueFault) → r ≡ Err f
    → HeadTaken head (after_blanks entry) mid → FactorGives head mid (Err f) rest → ProductGives entry r new
unfolding ProductGives FactorGives term_value
first_factor_fails head entry mid rest new f r is h gives (Product first others) more ends t =
    let e = factors_end others more ends in
    let g = gives first (factors_tokens others more) e (head_is head first (factors_tokens others more) entry mid e h t) in
    err_gives f new more _ r is (product_stop (factor_value first) others f g.0)

factor_on : (w : Result (List Terms) ValueFault) (op : Operation) (q p s : List Terms) (others : MoreFactors) → Ok p ≡ w
    → Ok s ≡ applied op q p → (w >>= λ x. applied op q x >>= λ longer. with_factors longer others) ≡ with_factors s others
factor_on w op q p s others e f = rw (← e, ← f) refl

factor_off : (w : Result (List Terms) ValueFault) (op : Operation) (q p : List Terms) (others : MoreFactors) (f : ValueFault) → Ok p ≡ w
    → Err f ≡ applied op q p → (w >>= λ x. applied op q x >>= λ longer. with_factors longer others) ≡ Err f
factor_off w op q p others f e g = rw (← e, ← g) refl

factor_stop : (w : Result (List Terms) ValueFault) (op : Operation) (q : List Terms) (others : MoreFactors) (f : ValueFault) → Err f ≡ w
    → (w >>= λ x. applied op q x >>= λ longer. with_factors longer others) ≡ Err f
factor_stop w op q others f e = rw (← e) refl

pub factor_goes : (op : Operation) (head : Head) (entry old mid front rest : List ℕ) (q s : List Terms) (p : Polynomial) → ProductGoes entry old q
    → JointTaken (Some op) old mid → HeadTaken head (after_blanks mid) front → FactorGives head front (Ok p) rest
    → Ok s ≡ applied op q (polynomial_terms p) → ProductGoes entry rest s
unfolding ProductGoes FactorGives
factor_goes op head entry old mid front rest q s p goes j h gives a t more ends x =
    let l = goes t more ends x in
    let n = next_factor op l.others more old mid ends j l.spelt in
    let e = factors_end n.others more ends in
    let g = gives n.factor (factors_tokens n.others more) e (head_is head n.factor (factors_tokens n.others more) mid front e h n.spelt) in
    record {
      others = n.others;
      spelt = g.1 refl;
      value_is = l.value_is ∙ n.answer q
          ∙ factor_on (factor_value n.factor) op q (polynomial_terms p) s n.others g.0 a;
    }

pub factor_refused : (op : Operation) (head : Head) (entry old mid front rest new : List ℕ) (q : List Terms) (p : Polynomial) (f : ValueFault)
    (r : Result Polynomial ValueFault)
    → r ≡ Err f → ProductGoes entry old q → JointTaken (Some op) old mid → HeadTaken head (after_blanks mid) front
    → FactorGives head front (Ok p) rest → Err f ≡ applied op q (polynomial_terms p) → ProductGives entry r new
unfolding ProductGoes ProductGives FactorGives
factor_refused op head entry old mid front rest new q p f r is goes j h gives a t more ends x =
    let l = goes t more ends x in
    let n = next_factor op l.others more old mid ends j l.spelt in
    let e = factors_end n.others more ends in
    let g = gives n.factor (factors_tokens n.others more) e (head_is head n.factor (factors_tokens n.others more) mid front e h n.spelt) in
    err_gives f new more (term_value t) r is (l.value_is ∙ n.answer q ∙ factor_off (factor_value n.factor) op q (polynomial_terms p) n.others f g.0 a)

pub factor_fails : (op : Operation) (head : Head) (entry old mid front rest new : List ℕ) (q : List Terms) (f : ValueFault) (r : Result Polynomial ValueFault)
    → r ≡ Err f → ProductGoes entry old q → JointTaken (Some op) old mid → HeadTaken head (after_blanks mid) front
    → FactorGives head front (Err f) rest → ProductGives entry r new
unfolding ProductGoes ProductGives FactorGives
factor_fails op head entry old mid front rest new q f r is goes j h gives t more ends x =
    let l = goes t more ends x in
    let n = next_factor op l.others more old mid ends j l.spelt in
    let e = factors_end n.others more ends in
    let g = gives n.factor (factors_tokens n.others more) e (head_is head n.factor (factors_tokens n.others more) mid front e h n.spelt) in
    err_gives f new more (term_value t) r is (l.value_is ∙ n.answer q ∙ factor_stop (factor_value n.factor) op q n.others f g.0)

pub with_no_factor : (p : List Terms) → with_factors p NoFactor ≡ Ok p
unfolding with_factors
with_no_factor p = refl

pub product_done : (entry old new : List ℕ) (product : Polynomial) → ProductGoes entry old (polynomial_terms product) → JointTaken None old new
    → ProductGives entry (Ok product) new
unfolding ProductGoes ProductGives
product_done entry old new product goes h t more ends x =
    let l = goes t more ends x in
    let n = no_factor l.others more old h.0 l.spelt in (
      sym (l.value_is ∙ ap (with_factors (polynomial_terms product)) n ∙ with_no_factor (polynomial_terms product)),
      λ _. subst (IsSpelt more) (sym h.1) (subst (λ fs. IsSpelt (factors_tokens fs more) old) n l.spelt),
    )

-- ---- factors

pub decimal_gives : (text : Bor (List ℕ)) (old : List ℕ) (r : Result Polynomial ValueFault)
    → ((d : Decimal) → text.now ≡ body_text d.body → map_value polynomial_terms r ≡ decimal_entry (decimal_value d))
    → FactorGives (heads.Decimal text) old r old
unfolding FactorGives IsHead
decimal_gives text old r v (Number d) more ends h = (v d h.0 ∙ sym (decimal_factor d), λ _. h.1)
decimal_gives text old r v (Other (Epsilon power)) more ends h = absurd h
decimal_gives text old r v (Other (Parens inner)) more ends h = absurd h

pub epsilon_gives : (n : ℕ) (old new : List ℕ) (r : Result Polynomial ValueFault) → PowerTaken n old new
    → map_value polynomial_terms r ≡ power_value n → FactorGives heads.Epsilon old r new
unfolding FactorGives IsHead
epsilon_gives n old new r taken v (Number d) more ends h = absurd h
epsilon_gives n old new r taken v (Other (Epsilon power)) more ends h = let p =
    power_is n power more old new ends taken h in (v ∙ p.0 ∙ sym (epsilon_factor power), λ _. p.1)
epsilon_gives n old new r taken v (Other (Parens inner)) more ends h = absurd h

parens_value_is : (inner : Expression) → factor_value (Other (Parens inner)) ≡ value inner
unfolding factor_value
parens_value_is inner = refl

pub parens_give : (old mid new : List ℕ) (p : Polynomial) → SumGives old (Ok p) mid → CloseTaken mid new → FactorGives heads.Open old (Ok p) new
unfolding FactorGives SumGives IsHead
parens_give old mid new p gives taken (Number d) more ends h = absurd h
parens_give old mid new p gives taken (Other (Epsilon power)) more ends h = absurd h
parens_give old mid new p gives taken (Other (Parens inner)) more ends h =
    let g = gives inner (CloseToken ∷ more) tt h in
    (g.0 ∙ sym (parens_value_is inner), λ _. close_is more mid new taken (g.1 refl))

pub parens_fail : (old mid new : List ℕ) (f : ValueFault) (r : Result Polynomial ValueFault) → r ≡ Err f → SumGives old (Err f) mid
    → FactorGives heads.Open old r new
unfolding FactorGives SumGives IsHead
parens_fail old mid new f r is gives (Number d) more ends h = absurd h
parens_fail old mid new f r is gives (Other (Epsilon power)) more ends h = absurd h
parens_fail old mid new f r is gives (Other (Parens inner)) more ends h =
    let g = gives inner (CloseToken ∷ more) tt h in
    err_gives f new more (factor_value (Other (Parens inner))) r is (parens_value_is inner ∙ sym g.0)

pub if_ok : (r : Result Polynomial ValueFault) (P : Type 0) → P → IfOk r (λ x. P)
if_ok (Ok x) P p = p
if_ok (Err f) P p = tt

abbrev pub held : Polynomial → Result Polynomial ValueFault
held p = Ok p

unwrapped : (taken : Option Operation) → unwrap_or taken operations.Add ≡ first_operation taken
unwrapped None = refl
unwrapped (Some op) = refl

-- what is made of 0 and the first term
pub applied_first : (taken : Option Operation) (op : Operation) (x : List Terms) (r : Result (List Terms) ValueFault)
    → op ≡ unwrap_or taken operations.Add → r ≡ applied op zero_coefficients x → r ≡ applied (first_operation taken) zero_coefficients x
applied_first taken op x r e g = g ∙ ap (λ o. applied o zero_coefficients x) (e ∙ unwrapped taken)

-- what a text gives that spells an expression
pub sum_value : (old text new : List ℕ) (r : Result Polynomial ValueFault) (e : Expression) → old ≡ text → SumGives old r new
    → Spells text e → map_value polynomial_terms r ≡ value e
unfolding SumGives Spells
sum_value old text new r e same gives h = (gives e [] tt (subst (IsSpelt (expression_tokens e [])) (sym same) h)).0
