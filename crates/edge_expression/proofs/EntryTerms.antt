-- Terms of the texts of entries, as terms of expressions.
use Rattle.std.proofs.Common.{◌≡◌, ℕ, zero, suc, ◌+◌, ◌^◌, ◌<◌, ◌≤◌, inl, inr, Bool, true, false, cond, eqb, List, [], ◌∷◌}
use Rattle.std.proofs.Common.{◌++◌, pos, Some, None, Ok, refl, sym, ap, ap₂, subst, ◌∙◌, append_assoc, arith, lit<}
use Rattle.std.specs.Prelude.{codes}
use Rattle.std.specs.Fmt.{decimal}
use Rattle.std.proofs.lemmas.Bool.{le-leb, eqb-true, eqb-false, cases_Bool}
use Rattle.std.proofs.lemmas.Bool.Decides.{nat_tests, Decides-int_eq}
use Rattle.std.proofs.lemmas.Fmt.{decimal_is_IsNumeral_wide}
use Rattle.std.proofs.lemmas.Int.{ints}
use Rattle.std.proofs.lemmas.List.{append-nil}
use Rattle.field_core.specs.Terms.{Terms, IsReduced}
use Rattle.numerals.specs.Numeral.{Plain, body_text, IsNumeralOf}
use Rattle.field_core.specs.Texts.{fraction_text}
use Rattle.fraction.specs.Spelling.{spelling}
use Rattle.fraction.proofs.ReadBack.{digits_from, read_back}
use Rattle.edge_expression.specs.EntryValues.{is_short, plain_entry, short_of, times, over, decimal_entry, power_value, term_value, with_factors, factor_value}
use Rattle.numerals.specs.Decimals.{Decimal, decimal_value}
use Rattle.fraction.proofs.DecimalValues.{decimal_found}
use Rattle.edge_expression.specs.Expressions.{Power, Term, Product, MoreFactors, NoFactor, Times, Over, Factor, Number, Other, Further, Epsilon, Token}
use Rattle.edge_expression.specs.Expressions.{DecimalToken, WordToken, CaretToken, PowerToken, TimesToken, OverToken, term_tokens, factors_tokens}
use Rattle.edge_expression.specs.Expressions.{factor_tokens, token_text, IsSpelt}
use Rattle.field_core.specs.Steps.{◌>>=◌}
use Rattle.std.specs.Ordering.{int_eq}
use Rattle.case_model.proofs.Holding.{both}
use Rattle.fraction.specs.Tests.{is_one}
use Rattle.edge_expression.specs.EntryTexts.{power_text, factor_text, term_text}
use Rattle.edge_expression.proofs.DecimalValues.{decimal_factor, epsilon_factor}
use Rattle.edge_expression.proofs.UnitOperations.{IsShortTerms, one_terms}
use Rattle.edge_expression.proofs.UnitEntries.{tabled, single, power_is, times_power, over_parts}
use Rattle.field_core.proofs.Coprime.{gcd_one}
use Rattle.edge_expression.proofs.Evaluations.{with_no_factor}

-- ---- whole numbers

-- a number of at most 10^18 as a decimal
whole : (n : ℕ) → n ≤ 10 ^ 18 → Decimal
whole n h = let d = decimal_is_IsNumeral_wide n (omega (arith, h)) in
    record { body = Plain (decimal n) None; is_body = (digits_from (decimal n) d.0.1, d.0.0, tt); no_pair = λ x. x }

whole_text : (n : ℕ) (h : n ≤ 10 ^ 18) → body_text (whole n h).body ≡ decimal n
unfolding whole
whole_text n h = append-nil (decimal n)

number_of : ℕ → Terms
number_of n = record { num = pos n; den = pos 1 }

number_spelling : (n : ℕ) → spelling (number_of n) ≡ decimal n
unfolding spelling number_of
number_spelling n = refl

number_reduced : (n : ℕ) → n ≤ 10 ^ 18 → IsReduced (number_of n)
unfolding number_of
number_reduced n h = record { positive = omega (arith, ints); num_size = omega (arith, h); den_size = lit< tt; reduced = gcd_one n }

number_short : (n : ℕ) → n ≤ 10 ^ 18 → is_short (number_of n) ≡ true
unfolding number_of
number_short n h = rw (le-leb n (10 ^ 18) h) refl

short_here : (t : Terms) → is_short t ≡ true → (short_of t >>= λ v. Ok (plain_entry v)) ≡ Ok (plain_entry t)
unfolding short_of
short_here t h = rw h refl

number_read : (n : ℕ) → n ≤ 10 ^ 18 → IsNumeralOf (decimal n) (number_of n)
unfolding number_of
number_read n h = subst (λ x. IsNumeralOf x (number_of n)) (number_spelling n) (read_back (number_of n) (number_reduced n h) (omega (arith, h)) (omega arith))

whole_value : (n : ℕ) (h : n ≤ 10 ^ 18) → decimal_entry (decimal_value (whole n h)) ≡ Ok (plain_entry (number_of n))
whole_value n h = ap decimal_entry (sym (decimal_found (whole n h) (decimal n) (number_of n) (sym (whole_text n h)) (number_read n h)))
    ∙ short_here (number_of n) (number_short n h)

-- ---- tokens one after the other

pub lead : (k : Token) (ks : List Token) (text x : List ℕ) → text ≡ token_text k ++ x → IsSpelt ks x → IsSpelt (k ∷ ks) text
lead k ks text x e s = record { blanks = []; rest = x; are_blanks = tt; spelt = e; is_rest = s }

whole_first : (n : ℕ) (h : n ≤ 10 ^ 18) (ks : List Token) (x : List ℕ) → IsSpelt ks x → IsSpelt (DecimalToken (whole n h) ∷ ks) (decimal n ++ x)
whole_first n h ks x s = lead (DecimalToken (whole n h)) ks (decimal n ++ x) x (ap (λ (y : List ℕ). y ++ x) (sym (whole_text n h))) s

-- ---- fractions

abbrev pub over_of : ℕ → ℕ → Terms
over_of m d = record { num = pos m; den = pos d }

-- the first factors of a term, which make a fraction, and how they are spelt
record IsFront (text : List ℕ) (c : Terms) : Type 0 where
  first : Factor
  before : MoreFactors → MoreFactors
  spelt : (fs : MoreFactors) (more : List Token) (x : List ℕ) → IsSpelt (factors_tokens fs more) x
      → IsSpelt (factor_tokens first (factors_tokens (before fs) more)) (text ++ x)
  answer : (fs : MoreFactors) → (factor_value first >>= λ v. with_factors v (before fs)) ≡ with_factors (plain_entry c) fs

alone_answer : (n : ℕ) (h : n ≤ 10 ^ 18) (fs : MoreFactors)
    → (factor_value (Number (whole n h)) >>= λ v. with_factors v fs) ≡ with_factors (plain_entry (number_of n)) fs
alone_answer n h fs = rw (decimal_factor (whole n h), whole_value n h) refl

over_next : (v : List Terms) (f : Factor) (fs : MoreFactors) → with_factors v (Over f fs) ≡ (factor_value f >>= λ x. over v x >>= λ l. with_factors l fs)
unfolding with_factors
over_next v f fs = refl

times_next : (v : List Terms) (f : Factor) (fs : MoreFactors)
    → with_factors v (Times f fs) ≡ (factor_value f >>= λ x. times v x >>= λ l. with_factors l fs)
unfolding with_factors
times_next v f fs = refl

over_is : (m d : ℕ) → IsShortTerms (over_of m d) → over (plain_entry (number_of m)) (plain_entry (number_of d)) ≡ Ok (plain_entry (over_of m d))
unfolding number_of
over_is m d s = over_parts (over_of m d) s

pair_answer : (m d : ℕ) (h : m ≤ 10 ^ 18) (k : d ≤ 10 ^ 18) (fs : MoreFactors) → IsShortTerms (over_of m d)
    → (factor_value (Number (whole m h)) >>= λ v. with_factors v (Over (Number (whole d k)) fs)) ≡ with_factors (plain_entry (over_of m d)) fs
pair_answer m d h k fs s =
    rw (
      decimal_factor (whole m h),
      whole_value m h,
      over_next (plain_entry (number_of m)) (Number (whole d k)) fs,
      decimal_factor (whole d k),
      whole_value d k,
      over_is m d s,
    ) refl

ap_spelt : (ks : List Token) (m : ℕ) (h : m ≤ 10 ^ 18) (x : List ℕ) → IsSpelt ks x
    → IsSpelt (DecimalToken (whole m h) ∷ ks) ((decimal m ++ []) ++ x)
ap_spelt ks m h x t = subst (λ y. IsSpelt (DecimalToken (whole m h) ∷ ks) (y ++ x)) (sym (append-nil (decimal m))) (whole_first m h ks x t)

pair_spelt : (m d : ℕ) (h : m ≤ 10 ^ 18) (k : d ≤ 10 ^ 18) (ks : List Token) (x : List ℕ) → IsSpelt ks x
    → IsSpelt (DecimalToken (whole m h) ∷ OverToken ∷ DecimalToken (whole d k) ∷ ks) ((decimal m ++ 47 ∷ decimal d) ++ x)
pair_spelt m d h k ks x t =
    subst (IsSpelt (DecimalToken (whole m h) ∷ OverToken ∷ DecimalToken (whole d k) ∷ ks)) (sym (append_assoc (decimal m) (47 ∷ decimal d) x))
    (whole_first m h (OverToken ∷ DecimalToken (whole d k) ∷ ks) (47 ∷ (decimal d ++ x))
    (lead OverToken (DecimalToken (whole d k) ∷ ks) (47 ∷ (decimal d ++ x)) (decimal d ++ x) refl (whole_first d k ks x t)))

front_by : (m d : ℕ) (b : Bool) → eqb d 1 ≡ b → (h : m ≤ 10 ^ 18) (k : d ≤ 10 ^ 18) → IsShortTerms (over_of m d)
    → IsFront (decimal m ++ cond b [] (47 ∷ decimal d)) (over_of m d)
unfolding number_of
front_by m d true e h k s =
    let one : d ≡ 1 = eqb-true d 1 e in
    record {
      first = Number (whole m h);
      before = λ fs. fs;
      spelt = λ fs more x t. ap_spelt (factors_tokens fs more) m h x t;
      answer = λ fs. alone_answer m h fs ∙ ap (λ n. with_factors (plain_entry (record { num = pos m; den = pos n })) fs) (sym one);
    }
front_by m d false e h k s = record {
  first = Number (whole m h);
  before = λ fs. Over (Number (whole d k)) fs;
  spelt = λ fs more x t. pair_spelt m d h k (factors_tokens fs more) x t;
  answer = λ fs. pair_answer m d h k fs s;
}

pair_spelling : (m d : ℕ) → ¬ (d ≡ 1) → fraction_text (pos m) (pos d) ≡ decimal m ++ 47 ∷ decimal d
pair_spelling m d h = grind (arith, nat_tests, Decides-int_eq)

spelling_is : (m d : ℕ) → spelling (over_of m d) ≡ decimal m ++ cond (eqb d 1) [] (47 ∷ decimal d)
unfolding spelling
spelling_is m d = elim (cases_Bool (eqb d 1)) [
  | inl t ↦ let e : d ≡ 1 = eqb-true d 1 t in rw e (sym (append-nil (decimal m)))
  | inr f ↦ rw f (pair_spelling m d (eqb-false d 1 f))
]

front : (m d : ℕ) → m ≤ 10 ^ 18 → d ≤ 10 ^ 18 → IsShortTerms (over_of m d) → IsFront (spelling (over_of m d)) (over_of m d)
front m d h k s = subst (λ x. IsFront x (over_of m d)) (sym (spelling_is m d)) (front_by m d (eqb d 1) refl h k s)

-- ---- powers

power_of : (p : ℕ) → p ≤ 4 → Power
power_of p h = record { power = p; digit = omega (arith, h) }

-- a factor that is a power of epsilon, and how it is spelt
record IsPower (p : ℕ) : Type 0 where
  further : Further
  spelt : (more : List Token) (x : List ℕ) → IsSpelt more x → IsSpelt (factor_tokens (Other further) more) (power_text p ++ x)
  answer : factor_value (Other further) ≡ Ok (tabled (single p one_terms))

text_by : (p : ℕ) (b : Bool) → eqb p 1 ≡ b → power_text p ≡ cond b (codes "\\epsilon") (codes "\\epsilon^" ++ ((48 + p) ∷ []))
text_by p b e = ap (λ c. cond c (codes "\\epsilon") (codes "\\epsilon^" ++ ((48 + p) ∷ []))) e

first_spelt : (p : ℕ) → eqb p 1 ≡ true → (more : List Token) (x : List ℕ) → IsSpelt more x → IsSpelt (WordToken ∷ more) (power_text p ++ x)
first_spelt p e more x t = lead WordToken more (power_text p ++ x) x (ap (λ (y : List ℕ). y ++ x) (text_by p true e)) t

other_spelt : (p : ℕ) (h : p ≤ 4) → eqb p 1 ≡ false → (more : List Token) (x : List ℕ) → IsSpelt more x
    → IsSpelt (WordToken ∷ CaretToken ∷ PowerToken (power_of p h) ∷ more) (power_text p ++ x)
unfolding power_of
other_spelt p h e more x t =
    let inner : IsSpelt (PowerToken (power_of p h) ∷ more) ((48 + p) ∷ x) = lead (PowerToken (power_of p h)) more ((48 + p) ∷ x) x refl t in
    let caret : IsSpelt (CaretToken ∷ PowerToken (power_of p h) ∷ more) (94 ∷ (48 + p) ∷ x) =
    lead CaretToken (PowerToken (power_of p h) ∷ more) (94 ∷ (48 + p) ∷ x) ((48 + p) ∷ x) refl inner in
    lead WordToken (CaretToken ∷ PowerToken (power_of p h) ∷ more) (power_text p ++ x) (94 ∷ (48 + p) ∷ x)
    (ap (λ (y : List ℕ). y ++ x) (text_by p false e)) caret

power_by : (p : ℕ) (b : Bool) → eqb p 1 ≡ b → p ≤ 4 → IsPower p
unfolding power_of
power_by p true e h =
    let one : p ≡ 1 = eqb-true p 1 e in
    record { further = Epsilon None; spelt = λ more x t. first_spelt p e more x t; answer = epsilon_factor None ∙ ap power_value (sym one) ∙ power_is p h }
power_by p false e h = record {
  further = Epsilon (Some (power_of p h));
  spelt = λ more x t. other_spelt p h e more x t;
  answer = epsilon_factor (Some (power_of p h)) ∙ power_is p h;
}

power : (p : ℕ) → p ≤ 4 → IsPower p
power p h = power_by p (eqb p 1) refl h

-- ---- terms

-- a term that is one coefficient of an entry, and how it is spelt
pub record IsTerm (p : ℕ) (t : Terms) : Type 0 where
  pub term : Term
  pub spelt : (more : List Token) (x : List ℕ) → IsSpelt more x → IsSpelt (term_tokens term more) (term_text p t ++ x)
  pub answer : term_value term ≡ Ok (tabled (single p t))

term_is : (first : Factor) (fs : MoreFactors) → term_value (Product first fs) ≡ (factor_value first >>= λ v. with_factors v fs)
unfolding term_value
term_is first fs = refl

constant_term : (m d : ℕ) → m ≤ 10 ^ 18 → d ≤ 10 ^ 18 → IsShortTerms (over_of m d) → IsTerm 0 (over_of m d)
unfolding term_text
constant_term m d h k s =
    let f = front m d h k s in
    record {
      term = Product f.first (f.before NoFactor);
      spelt = λ more x t. f.spelt NoFactor more x t;
      answer = term_is f.first (f.before NoFactor) ∙ f.answer NoFactor ∙ with_no_factor (plain_entry (over_of m d));
    }

factor_by : (m d : ℕ) (b : Bool) → is_one (over_of m d) ≡ b → factor_text (over_of m d) ≡ cond b [] (spelling (over_of m d) ++ codes "*")
factor_by m d b e = ap (λ c. cond c [] (spelling (over_of m d) ++ codes "*")) e

power_term_text : (p : ℕ) (t : Terms) → 0 < p → term_text p t ≡ factor_text t ++ power_text p
unfolding term_text
power_term_text p t h = let e : eqb p 0 ≡ false = grind (arith, nat_tests) in ap (λ b. cond b (spelling t) (factor_text t ++ power_text p)) e

both_ones : (m d : ℕ) → is_one (over_of m d) ≡ true → over_of m d ≡ one_terms
both_ones m d h =
    let b = both (int_eq (pos m) (pos 1)) (int_eq (pos d) (pos 1)) h in
    ap₂ (λ n k. record { num = n; den = k }) ((Decides-int_eq (pos m) (pos 1)).0 b.left) ((Decides-int_eq (pos d) (pos 1)).0 b.right)

unit_term : (p m d : ℕ) → 0 < p → p ≤ 4 → is_one (over_of m d) ≡ true → IsTerm p (over_of m d)
unit_term p m d some h one =
    let w = power p h in
    let text : term_text p (over_of m d) ≡ power_text p = power_term_text p (over_of m d) some
    ∙ ap (λ (y : List ℕ). y ++ power_text p) (factor_by m d true one) in
    record {
      term = Product (Other w.further) NoFactor;
      spelt = λ more x t. subst (λ y. IsSpelt (factor_tokens (Other w.further) more) (y ++ x)) (sym text) (w.spelt more x t);
      answer =
          term_is (Other w.further) NoFactor
          ∙ rw (w.answer, with_no_factor (tabled (single p one_terms))) (ap (λ t. Ok (tabled (single p t))) (sym (both_ones m d one)));
    }

times_answer : (p : ℕ) (c : Terms) (further : Further) → p ≤ 4 → IsShortTerms c
    → factor_value (Other further) ≡ Ok (tabled (single p one_terms))
    → with_factors (plain_entry c) (Times (Other further) NoFactor) ≡ Ok (tabled (single p c))
times_answer p c further h s e = times_next (plain_entry c) (Other further) NoFactor ∙ rw (e, times_power c p h s) (with_no_factor (tabled (single p c)))

star_spelt : (p : ℕ) (f : IsPower p) (more : List Token) (x : List ℕ) → IsSpelt more x
    → IsSpelt (TimesToken ∷ factor_tokens (Other f.further) more) (42 ∷ (power_text p ++ x))
star_spelt p f more x t = lead TimesToken (factor_tokens (Other f.further) more) (42 ∷ (power_text p ++ x)) (power_text p ++ x) refl (f.spelt more x t)

product_text : (p m d : ℕ) (x : List ℕ) → 0 < p → is_one (over_of m d) ≡ false
    → term_text p (over_of m d) ++ x ≡ spelling (over_of m d) ++ 42 ∷ (power_text p ++ x)
product_text p m d x some other =
    let t : Terms = over_of m d in
    ap (λ (y : List ℕ). y ++ x)
    (power_term_text p t some ∙ ap (λ (y : List ℕ). y ++ power_text p) (factor_by m d false other)
    ∙ append_assoc (spelling t) (codes "*") (power_text p)) ∙ append_assoc (spelling t) (42 ∷ power_text p) x

product_term : (p m d : ℕ) → 0 < p → p ≤ 4 → m ≤ 10 ^ 18 → d ≤ 10 ^ 18 → IsShortTerms (over_of m d)
    → is_one (over_of m d) ≡ false → IsTerm p (over_of m d)
product_term p m d some h i k s other =
    let w = power p h in
    let f = front m d i k s in
    record {
      term = Product f.first (f.before (Times (Other w.further) NoFactor));
      spelt = λ more x t. subst (IsSpelt (factor_tokens f.first (factors_tokens (f.before (Times (Other w.further) NoFactor)) more)))
          (sym (product_text p m d x some other)) (f.spelt (Times (Other w.further) NoFactor) more (42 ∷ (power_text p ++ x)) (star_spelt p w more x t));
      answer =
          term_is f.first (f.before (Times (Other w.further) NoFactor)) ∙ f.answer (Times (Other w.further) NoFactor)
          ∙ times_answer p (over_of m d) w.further h s w.answer;
    }

term_by : (p m d : ℕ) → 0 < p → p ≤ 4 → m ≤ 10 ^ 18 → d ≤ 10 ^ 18 → IsShortTerms (over_of m d) → (b : Bool)
    → is_one (over_of m d) ≡ b → IsTerm p (over_of m d)
term_by p m d some h i k s true e = unit_term p m d some h e
term_by p m d some h i k s false e = product_term p m d some h i k s e

-- each coefficient that isn't below 0 has such a term
pub term_of : (p m d : ℕ) → p ≤ 4 → m ≤ 10 ^ 18 → d ≤ 10 ^ 18 → IsShortTerms (over_of m d) → IsTerm p (over_of m d)
term_of zero m d h i k s = constant_term m d i k s
term_of (suc p) m d h i k s = term_by (suc p) m d (omega arith) h i k s (is_one (over_of m d)) refl
