-- The text of an entry is an expression of that entry.
use Rattle.std.proofs.Common.{◌≡◌, ◌≢◌, ℕ, zero, suc, ◌+◌, ◌^◌, ◌<◌, ◌≤◌, inl, inr, Bool, true, false, cond, eqb, List, []}
use Rattle.std.proofs.Common.{◌∷◌, ◌++◌, map, length, take, ℤ, pos, neg_ℤ, unsigned_abs, Option, Some, None, Ok, refl, sym, ap, ap₂, subst}
use Rattle.std.proofs.Common.{◌∙◌, append_assoc, arith}
use Rattle.std.specs.Prelude.{codes, nat_lt, ◌==◌, ◌&&◌, if◌then◌else◌}
use Rattle.std.specs.Int.{is_negative}
use Rattle.std.specs.List.{AllByRecursion, list_all}
use Rattle.std.proofs.lemmas.Bool.{le-ltb, lt-ltb, eqb-true, eqb-false}
use Rattle.std.proofs.lemmas.Bool.Decides.{nat_tests}
use Rattle.std.proofs.lemmas.Int.{ints}
use Rattle.std.proofs.lemmas.Fmt.{decimal_digit}
use Rattle.field_core.specs.View.{terms}
use Rattle.field_core.specs.declared.ratio.Ratio.{Ratio}
use Rattle.std.proofs.lemmas.List.{length-map}
use Rattle.std.proofs.lemmas.List.Folds.{list_all-append}
use Rattle.case_model.specs.Draft.{is_short}
use Rattle.case_model.proofs.Holding.{both}
use Rattle.field_core.specs.Terms.{Terms, IsReduced}
use Rattle.numerals.proofs.LowestTerms.{sign_is}
use Rattle.numerals.specs.Numeral.{with_sign}
use Rattle.fraction.specs.Spelling.{spelling, IsSpellingByte}
use Rattle.fraction.proofs.ReadBack.{spelling_bytes}
use Rattle.fraction.specs.Tests.{is_zero, is_one, absolute}
use Rattle.edge_expression.specs.EntryValues.{zero_coefficients, joined, sign_or_plus, value, with_terms, term_value}
use Rattle.case_model.specs.Sums.{terms_at, zero_terms}
use Rattle.edge_expression.specs.Expressions.{Sign, Plus, Minus, Expression, Sum, MoreTerms, NoTerm, AndTerm, Term, Token, SignToken, expression_tokens}
use Rattle.edge_expression.specs.Expressions.{terms_tokens, term_tokens, token_text, IsSpelt, Spells}
use Rattle.field_core.specs.Steps.{◌>>=◌}
use Rattle.edge_expression.specs.EntryTexts.{power_text, factor_text, joint_text, joined_term, term_text, terms_text, are_zero_below, coefficients_text}
use Rattle.edge_expression.specs.EntryTexts.{entry_text}
use Rattle.edge_expression.specs.EntryReading.{open_with, open_behind, IsShallow, IsEntryText}
use Rattle.edge_expression.proofs.UnitOperations.{IsShortTerms, zero_short, zero_is}
use Rattle.edge_expression.proofs.UnitEntries.{tabled, short_if, at_tabled, same_tabled, single, joined_plus, joined_minus}
use Rattle.edge_expression.proofs.SignedEntries.{all_five}
use Rattle.edge_expression.proofs.EntryTerms.{over_of, lead, IsTerm, term_of}
use Rattle.edge_expression.proofs.ShortNumbers.{short_parts}
use Rattle.edge_expression.proofs.PrintedTerms.{zero_at}
use Rattle.edge_expression.proofs.Evaluations.{with_none, with_next}

-- each coefficient is in lowest terms, with short parts
pub AreShort : List Terms → Type 0
AreShort e = (k : ℕ) → IsShortTerms (terms_at e k)

-- the coefficients below a power, and 0 from there on
abbrev pub upto : List Terms → ℕ → ℕ → Terms
upto e p k = if nat_lt k p then terms_at e k else zero_terms

upto_short : (e : List Terms) (p k : ℕ) → AreShort e → IsShortTerms (upto e p k)
unfolding AreShort
upto_short e p k s = short_if (nat_lt k p) (terms_at e k) (s k)

upto_here : (e : List Terms) (p : ℕ) → upto e p p ≡ zero_terms
upto_here e p = ap (λ b. cond b (terms_at e p) zero_terms) (le-ltb p p (omega arith))

-- one coefficient more
next_by : (e : List Terms) (p k : ℕ) (b : Bool) → eqb k p ≡ b → cond b (terms_at e p) (upto e p k) ≡ upto e (suc p) k
next_by e p k true h =
    let same : k ≡ p = eqb-true k p h in
    let below : nat_lt k (suc p) ≡ true = lt-ltb k (suc p) (omega (arith, same)) in
    ap (terms_at e) (sym same) ∙ sym (ap (λ b. cond b (terms_at e k) zero_terms) below)
next_by e p k false h =
    let other : k ≢ p = eqb-false k p h in
    let tests : nat_lt k p ≡ nat_lt k (suc p) = grind (arith, nat_tests) in
    ap (λ b. cond b (terms_at e k) zero_terms) tests

upto_next : (e : List Terms) (p : ℕ) → tabled (λ k. if k == p then terms_at e p else upto e p k) ≡ tabled (upto e (suc p))
upto_next e p = same_tabled (λ k. if k == p then terms_at e p else upto e p k) (upto e (suc p)) (λ k h. next_by e p k (eqb k p) refl)

-- with a coefficient more that is 0
skip_by : (e : List Terms) (p k : ℕ) (b : Bool) → terms_at e p ≡ zero_terms → eqb k p ≡ b → upto e p k ≡ cond b (terms_at e p) (upto e p k)
skip_by e p k true z h = let same : k ≡ p = eqb-true k p h in ap (upto e p) same ∙ upto_here e p ∙ sym z
skip_by e p k false z h = refl

upto_skip : (e : List Terms) (p : ℕ) → terms_at e p ≡ zero_terms → tabled (upto e p) ≡ tabled (upto e (suc p))
upto_skip e p z = same_tabled (upto e p) (λ k. if k == p then terms_at e p else upto e p k) (λ k h. skip_by e p k (eqb k p) z refl) ∙ upto_next e p

-- ---- a coefficient without its sign

size_of : (t : Terms) → IsShortTerms t → over_of (unsigned_abs t.num) (unsigned_abs t.den) ≡ absolute t
size_of t s = let p = s.0.positive in let d : pos (unsigned_abs t.den) ≡ t.den =
    omega (arith, ints) in ap (λ z. record { num = pos (unsigned_abs t.num); den = z }) d

size_short : (t : Terms) → IsShortTerms t → IsShortTerms (over_of (unsigned_abs t.num) (unsigned_abs t.den))
size_short t s =
    let p = s.0.positive in
    (record { positive = omega (arith, ints); num_size = s.0.num_size; den_size = s.0.den_size; reduced = s.0.reduced }, s.1)

num_within : (t : Terms) → IsShortTerms t → unsigned_abs t.num ≤ 10 ^ 18
num_within t s = (short_parts t s.1).num

den_within : (t : Terms) → IsShortTerms t → unsigned_abs t.den ≤ 10 ^ 18
den_within t s = (short_parts t s.1).den

coefficient_term : (p : ℕ) (t : Terms) → p ≤ 4 → IsShortTerms t → IsTerm p (absolute t)
coefficient_term p t h s =
    subst (IsTerm p) (size_of t s) (term_of p (unsigned_abs t.num) (unsigned_abs t.den) h (num_within t s) (den_within t s) (size_short t s))

-- ---- a term more

sign_if : Bool → Sign
sign_if true = Minus
sign_if false = Plus

below_is : (z : ℤ) → is_negative z ≡ true → z ≡ neg_ℤ (pos (unsigned_abs z))
below_is z h = sign_is z ∙ ap (λ b. with_sign b (unsigned_abs z)) h

above_is : (z : ℤ) → is_negative z ≡ false → z ≡ pos (unsigned_abs z)
above_is z h = sign_is z ∙ ap (λ b. with_sign b (unsigned_abs z)) h

without_is : (t : Terms) → is_negative t.num ≡ false → absolute t ≡ t
without_is t h = ap (λ z. record { num = z; den = t.den }) (sym (above_is t.num h))

join_by : (e : List Terms) (p : ℕ) (b : Bool) → is_negative (terms_at e p).num ≡ b → AreShort e
    → joined (sign_if b) (tabled (upto e p)) (tabled (single p (absolute (terms_at e p)))) ≡ Ok (tabled (upto e (suc p)))
unfolding AreShort sign_if
join_by e p true n s =
    let t : Terms = terms_at e p in
    joined_minus (upto e p) p (absolute t) t (λ k. upto_short e p k s) (s p) (below_is t.num n) refl (upto_here e p) ∙ ap Ok (upto_next e p)
join_by e p false n s =
    let t : Terms = terms_at e p in
    ap (λ u. joined Plus (tabled (upto e p)) (tabled (single p u))) (without_is t n)
    ∙ joined_plus (upto e p) p t (λ k. upto_short e p k s) (s p) (upto_here e p) ∙ ap Ok (upto_next e p)

-- ---- further terms

record IsMore (e : List Terms) (p n : ℕ) : Type 0 where
  terms : MoreTerms
  spelt : IsSpelt (terms_tokens terms []) (terms_text false p n e)
  answer : with_terms (tabled (upto e p)) terms ≡ Ok (tabled (upto e 5))

none_text : (f : Bool) (p : ℕ) (e : List Terms) → terms_text f p zero e ≡ []
unfolding terms_text
none_text f p e = refl

next_text : (f : Bool) (p n : ℕ) (e : List Terms) (b : Bool) → is_zero (terms_at e p) ≡ b
    → terms_text f p (suc n) e ≡ cond b (terms_text f (suc p) n e) (joined_term f p (terms_at e p) ++ terms_text false (suc p) n e)
unfolding terms_text
next_text f p n e b h = ap (λ c. cond c (terms_text f (suc p) n e) (joined_term f p (terms_at e p) ++ terms_text false (suc p) n e)) h

sign_text_is : (b : Bool) → joint_text false b ≡ token_text (SignToken (sign_if b))
unfolding sign_if
sign_text_is true = refl
sign_text_is false = refl

joined_is : (f : Bool) (p : ℕ) (t : Terms) (b : Bool) → is_negative t.num ≡ b → joined_term f p t ≡ joint_text f b ++ term_text p (absolute t)
unfolding joined_term
joined_is f p t b h = ap (λ c. joint_text f c ++ term_text p (absolute t)) h

piece_text : (f : Bool) (p n : ℕ) (e : List Terms) (b : Bool) → is_zero (terms_at e p) ≡ false → is_negative (terms_at e p).num ≡ b
    → terms_text f p (suc n) e ≡ joint_text f b ++ (term_text p (absolute (terms_at e p)) ++ terms_text false (suc p) n e)
piece_text f p n e b z h =
    next_text f p n e false z ∙ ap (λ (y : List ℕ). y ++ terms_text false (suc p) n e) (joined_is f p (terms_at e p) b h)
    ∙ append_assoc (joint_text f b) (term_text p (absolute (terms_at e p))) (terms_text false (suc p) n e)

more_term : (e : List Terms) (p n : ℕ) (b : Bool) → AreShort e → p ≤ 4 → is_zero (terms_at e p) ≡ false
    → is_negative (terms_at e p).num ≡ b → IsMore e (suc p) n → IsMore e p (suc n)
unfolding AreShort
more_term e p n b s h z neg m =
    let t = coefficient_term p (terms_at e p) h (s p) in
    let rest : List ℕ = terms_text false (suc p) n e in
    record {
      terms = AndTerm (sign_if b) t.term m.terms;
      spelt =
          lead (SignToken (sign_if b)) (term_tokens t.term (terms_tokens m.terms [])) (terms_text false p (suc n) e)
          (term_text p (absolute (terms_at e p)) ++ rest)
          (piece_text false p n e b z neg ∙ ap (λ (y : List ℕ). y ++ (term_text p (absolute (terms_at e p)) ++ rest)) (sign_text_is b))
          (t.spelt (terms_tokens m.terms []) rest m.spelt);
      answer = with_next (tabled (upto e p)) (sign_if b) t.term m.terms ∙ rw (t.answer, join_by e p b neg s) m.answer;
    }

skipped : (e : List Terms) (p n : ℕ) → AreShort e → is_zero (terms_at e p) ≡ true → IsMore e (suc p) n → IsMore e p (suc n)
unfolding AreShort
skipped e p n s z m =
    let none : terms_at e p ≡ zero_terms = zero_is (terms_at e p) (s p).0 z in
    record {
      terms = m.terms;
      spelt = subst (IsSpelt (terms_tokens m.terms [])) (sym (next_text false p n e true z)) m.spelt;
      answer = ap (λ v. with_terms v m.terms) (upto_skip e p none) ∙ m.answer;
    }

more_by : (e : List Terms) (p n : ℕ) (b : Bool) → AreShort e → p ≤ 4 → is_zero (terms_at e p) ≡ b → IsMore e (suc p) n → IsMore e p (suc n)
more_by e p n true s h z m = skipped e p n s z m
more_by e p n false s h z m = more_term e p n (is_negative (terms_at e p).num) s h z refl m

more : (e : List Terms) (n p : ℕ) → AreShort e → p + n ≡ 5 → IsMore e p n
more e zero p s h =
    let last : p ≡ 5 = omega (arith, h) in
    record {
      terms = NoTerm;
      spelt = subst (IsSpelt []) (sym (none_text false p e)) tt;
      answer = with_none (tabled (upto e p))
          ∙ ap (λ q. Ok (tabled (upto e q))) last;
    }
more e (suc n) p s h = more_by e p n (is_zero (terms_at e p)) s (omega (arith, h)) refl (more e n (suc p) s (omega (arith, h)))

-- ---- the whole text

pub record IsWhole (e : List Terms) (text : List ℕ) (its_value : List Terms) : Type 0 where
  expression : Expression
  spells : Spells text expression
  answer : value expression ≡ Ok its_value

first_sign : Bool → Option Sign
first_sign true = Some Minus
first_sign false = None

first_sign_is : (b : Bool) → sign_or_plus (first_sign b) ≡ sign_if b
unfolding first_sign sign_if
first_sign_is true = refl
first_sign_is false = refl

first_spelt : (b : Bool) (t : Term) (ks : List Token) (x : List ℕ) → IsSpelt (term_tokens t ks) x → (ts : MoreTerms)
    → ks ≡ terms_tokens ts [] → IsSpelt (expression_tokens (Sum (first_sign b) t ts) []) (joint_text true b ++ x)
unfolding first_sign
first_spelt true t ks x s ts e =
    subst (λ k. IsSpelt (SignToken Minus ∷ term_tokens t k) (45 ∷ x)) e (lead (SignToken Minus) (term_tokens t ks) (45 ∷ x) x refl s)
first_spelt false t ks x s ts e = subst (λ k. IsSpelt (term_tokens t k) x) e s

sum_is : (sign : Option Sign) (t : Term) (ts : MoreTerms)
    → value (Sum sign t ts) ≡ (term_value t >>= λ x. joined (sign_or_plus sign) zero_coefficients x >>= λ s. with_terms s ts)
unfolding value
sum_is sign t ts = refl

first_term : (e : List Terms) (p n : ℕ) (b : Bool) → AreShort e → p ≤ 4 → is_zero (terms_at e p) ≡ false
    → is_negative (terms_at e p).num ≡ b → zero_coefficients ≡ tabled (upto e p) → IsMore e (suc p) n
    → IsWhole e (terms_text true p (suc n) e) (tabled (upto e 5))
unfolding AreShort Spells
first_term e p n b s h z neg start m =
    let t = coefficient_term p (terms_at e p) h (s p) in
    let rest : List ℕ = terms_text false (suc p) n e in
    record {
      expression = Sum (first_sign b) t.term m.terms;
      spells =
          subst (IsSpelt (expression_tokens (Sum (first_sign b) t.term m.terms) [])) (sym (piece_text true p n e b z neg))
          (first_spelt b t.term (terms_tokens m.terms []) (term_text p (absolute (terms_at e p)) ++ rest)
          (t.spelt (terms_tokens m.terms []) rest m.spelt) m.terms refl);
      answer = sum_is (first_sign b) t.term m.terms ∙ rw (t.answer, first_sign_is b, start, join_by e p b neg s) m.answer;
    }

pub at_first : (e : List Terms) (p n : ℕ) (b : Bool) → AreShort e → p + suc n ≡ 5 → is_zero (terms_at e p) ≡ b
    → zero_coefficients ≡ tabled (upto e p)
    → (zero_coefficients ≡ tabled (upto e (suc p)) → IsWhole e (terms_text true (suc p) n e) (tabled (upto e 5)))
    → IsWhole e (terms_text true p (suc n) e) (tabled (upto e 5))
unfolding AreShort
at_first e p n true s h z start r =
    let none : terms_at e p ≡ zero_terms = zero_is (terms_at e p) (s p).0 z in
    subst (λ x. IsWhole e x (tabled (upto e 5))) (sym (next_text true p n e true z)) (r (start ∙ upto_skip e p none))
at_first e p n false s h z start r = first_term e p n (is_negative (terms_at e p).num) s (omega (arith, h)) z refl start (more e n (suc p) s (omega (arith, h)))

-- ---- an entry without terms

zero_upto : (e : List Terms) (k : ℕ) → zero_coefficients ≡ tabled (upto e 5) → k < 5 → terms_at e k ≡ zero_terms
zero_upto e k h l =
    sym (ap (λ b. cond b (terms_at e k) zero_terms) (lt-ltb k 5 l)) ∙ sym (at_tabled (upto e 5) k l) ∙ ap (λ x. terms_at x k) (sym h)
    ∙ at_tabled (λ j. zero_terms) k l

all_zero : (e : List Terms) → zero_coefficients ≡ tabled (upto e 5) → are_zero_below 5 e ≡ true
unfolding are_zero_below
all_zero e h =
    rw
    (zero_upto e 0 h (omega arith), zero_upto e 1 h (omega arith), zero_upto e 2 h (omega arith), zero_upto e 3 h (omega arith), zero_upto e 4 h (omega arith))
    refl

no_true : false ≡ true → ⊥
no_true e = cc

whole_from : (e : List Terms) (n p : ℕ) → AreShort e → p + n ≡ 5 → are_zero_below 5 e ≡ false → zero_coefficients ≡ tabled (upto e p)
    → IsWhole e (terms_text true p n e) (tabled (upto e 5))
whole_from e zero p s h some start =
    let last : p ≡ 5 = omega (arith, h) in
    absurd (no_true (sym some ∙ all_zero e (start ∙ ap (λ q. tabled (upto e q)) last)))
whole_from e (suc n) p s h some start = at_first e p n (is_zero (terms_at e p)) s h refl start (λ next. whole_from e n (suc p) s (omega (arith, h)) some next)

nought_text : term_text 0 (over_of 0 1) ≡ codes "0"
unfolding term_text spelling
nought_text = decimal_digit 0 (omega arith)

nought_term : IsTerm 0 (over_of 0 1)
nought_term = term_of 0 0 1 (omega arith) (omega arith) (omega arith) zero_short

nought_sum : joined Plus zero_coefficients (tabled (single 0 zero_terms)) ≡ Ok zero_coefficients
nought_sum = joined_plus (λ k. zero_terms) 0 zero_terms (λ k. zero_short) zero_short refl

nought : (e : List Terms) → IsWhole e (codes "0") zero_coefficients
unfolding Spells
nought e =
    let t = nought_term in
    record {
      expression = Sum None t.term NoTerm;
      spells = subst (IsSpelt (term_tokens t.term [])) (ap (λ (x : List ℕ). x ++ []) nought_text) (t.spelt [] [] tt);
      answer = sum_is None t.term NoTerm ∙ rw (t.answer, nought_sum) (with_none zero_coefficients);
    }

-- an entry whose coefficients are all 0
zero_entry : (e : List Terms) → AreShort e → are_zero_below 5 e ≡ true → zero_coefficients ≡ tabled (upto e 5)
unfolding AreShort
zero_entry e s h =
    same_tabled (λ k. zero_terms) (upto e 5)
    (λ k l. sym (ap (λ b. cond b (terms_at e k) zero_terms) (lt-ltb k 5 l) ∙ zero_is (terms_at e k) (s k).0 (zero_at 5 k e l h)))

text_if : (e : List Terms) (b : Bool) → are_zero_below 5 e ≡ b → coefficients_text e ≡ cond b (codes "0") (terms_text true 0 5 e)
unfolding coefficients_text
text_if e b h = ap (λ c. cond c (codes "0") (terms_text true 0 5 e)) h

whole_by : (e : List Terms) (b : Bool) → AreShort e → are_zero_below 5 e ≡ b → IsWhole e (coefficients_text e) (tabled (upto e 5))
whole_by e true s h =
    subst (λ v. IsWhole e (coefficients_text e) v) (zero_entry e s h) (subst (λ x. IsWhole e x zero_coefficients) (sym (text_if e true h)) (nought e))
whole_by e false s h = subst (λ x. IsWhole e x (tabled (upto e 5))) (sym (text_if e false h)) (whole_from e 5 0 s (omega arith) h refl)

-- ---- no parenthesis

abbrev is_other : ℕ → Bool
is_other b = if b == 40 then false else true

-- no parenthesis opens in a text
abbrev NoOpen : List ℕ → Type 0
NoOpen t = list_all is_other t ≡ true

no_open_both : (x y : List ℕ) → NoOpen x → NoOpen y → NoOpen (x ++ y)
no_open_both x y h k = list_all-append is_other x y ∙ ap₂ (λ c d. c && d) h k

open_none : (b : ℕ) → is_other b ≡ true → open_with b 0 ≡ 0
open_none b h = let other : b ≢ 40 = λ e. (let f : false ≡ true = rw e at h in no_true f) in grind (arith, nat_tests)

none_open : (t : List ℕ) (k : ℕ) → NoOpen t → open_behind 0 (take k t) ≡ 0
none_open t zero h = refl
none_open [] (suc k) h = refl
none_open (b ∷ t) (suc k) h = let w = both (is_other b) (list_all is_other t) h in ap (λ n. open_behind n (take k t)) (open_none b w.left)
    ∙ none_open t k w.right

shallow : (t : List ℕ) (n : ℕ) → NoOpen t → IsShallow t n
shallow t n h k l = omega (arith, none_open t (suc k) h)

number_byte : (b : ℕ) → 41 ≤ b → is_other b ≡ true
number_byte b h = let e : eqb b 40 ≡ false = grind (arith, nat_tests) in ap (λ c. cond c false true) e

spelling_byte : (b : ℕ) → IsSpellingByte b → is_other b ≡ true
spelling_byte b (inl h) = number_byte b (omega (arith, h.0))
spelling_byte b (inr (inl h)) = rw h refl
spelling_byte b (inr (inr h)) = rw h refl

spelling_open : (x : List ℕ) → AllByRecursion IsSpellingByte x → NoOpen x
spelling_open [] h = refl
spelling_open (b ∷ x) h = ap₂ (λ c d. c && d) (spelling_byte b h.0) (spelling_open x h.1)

open_if : (b : Bool) (x y : List ℕ) → NoOpen x → NoOpen y → NoOpen (cond b x y)
open_if true x y h k = h
open_if false x y h k = k

power_open : (p : ℕ) → NoOpen (power_text p)
power_open p = open_if (eqb p 1) (codes "\\epsilon") (codes "\\epsilon^" ++ ((48 + p) ∷ [])) refl
    (no_open_both (codes "\\epsilon^") ((48 + p) ∷ []) refl (ap (λ c. c && true) (number_byte (48 + p) (omega arith))))

term_open : (p : ℕ) (t : Terms) → IsReduced t → NoOpen (term_text p t)
unfolding term_text
term_open p t r =
    let number = spelling_open (spelling t) (spelling_bytes t r) in
    open_if (eqb p 0) (spelling t) (factor_text t ++ power_text p) number
    (no_open_both (factor_text t) (power_text p) (open_if (is_one t) [] (spelling t ++ codes "*") refl (no_open_both (spelling t) (codes "*") number refl))
    (power_open p))

joint_open : (f b : Bool) → NoOpen (joint_text f b)
joint_open true true = refl
joint_open false true = refl
joint_open true false = refl
joint_open false false = refl

joined_open : (f : Bool) (p : ℕ) (t : Terms) → IsShortTerms t → NoOpen (joined_term f p t)
unfolding joined_term
joined_open f p t s =
    no_open_both (joint_text f (is_negative t.num)) (term_text p (absolute t)) (joint_open f (is_negative t.num))
    (term_open p (absolute t) (subst IsReduced (size_of t s) (size_short t s).0))

terms_open : (f : Bool) (p n : ℕ) (e : List Terms) → AreShort e → NoOpen (terms_text f p n e)
unfolding terms_text AreShort
terms_open f p zero e s = refl
terms_open f p (suc n) e s =
    open_if (is_zero (terms_at e p)) (terms_text f (suc p) n e) (joined_term f p (terms_at e p) ++ terms_text false (suc p) n e) (terms_open f (suc p) n e s)
    (no_open_both (joined_term f p (terms_at e p)) (terms_text false (suc p) n e) (joined_open f p (terms_at e p) (s p)) (terms_open false (suc p) n e s))

entry_open : (e : List Terms) → AreShort e → NoOpen (coefficients_text e)
unfolding coefficients_text
entry_open e s = open_if (are_zero_below 5 e) (codes "0") (terms_text true 0 5 e) refl (terms_open true 0 5 e s)

-- ---- an entry by its coefficients

five : (e : List Terms) → length e ≡ 5 → tabled (upto e 5) ≡ e
five e h = same_tabled (upto e 5) (terms_at e) (λ k l. ap (λ b. cond b (terms_at e k) zero_terms) (lt-ltb k 5 l)) ∙ all_five e h

each_short : (xs : List Ratio) → list_all is_short xs ≡ true → AreShort (map terms xs)
unfolding AreShort terms_at
each_short [] h k = zero_short
each_short (x ∷ xs) h zero = (x.valid, (both (is_short x) (list_all is_short xs) h).left)
each_short (x ∷ xs) h (suc k) = each_short xs (both (is_short x) (list_all is_short xs) h).right k

pub entry_reads_back : (xs : List Ratio) → length xs ≡ 5 → list_all is_short xs ≡ true → IsEntryText (entry_text xs) xs
entry_reads_back xs h a =
    let e = map terms xs in
    let s = each_short xs a in
    let w = whole_by e (are_zero_below 5 e) s refl in
    record {
      expression = w.expression;
      spells = w.spells;
      shallow = shallow (entry_text xs) (length (entry_text xs)) (entry_open e s);
      value_is = w.answer
          ∙ ap Ok (five e (length-map xs terms ∙ h));
    }
