-- The words of canonical texts: that they are words, and what they say.
use Rattle.std.proofs.Common.{◌≡◌, refl, sym, ap, ap₂, ◌∙◌, ℕ, zero, suc, ◌+◌, ◌^◌, ◌<◌, ◌≤◌, ◌⊎◌, ◌&&◌, inl, inr}
use Rattle.std.proofs.Common.{List, [], ◌∷◌, ◌++◌, length, map, Bool, true, false, cond, eqb, nat_lt, nat_le, unsigned_abs, arith, lit<}
use Rattle.std.specs.Prelude.{codes}
use Rattle.std.specs.Fmt.{decimal}
use Rattle.std.specs.Int.{is_negative}
use Rattle.std.specs.List.{AllByRecursion, AllZip, list_all}
use Rattle.std.proofs.lemmas.Bool.Decides.{nat_tests}
use Rattle.std.proofs.lemmas.Fmt.{decimal_is_IsNumeral_wide, length-decimal-le_wide}
use Rattle.std.proofs.lemmas.List.Folds.{list_all-append}
use Rattle.field_core.specs.Terms.{Terms, IsReduced}
use Rattle.field_core.specs.View.{terms}
use Rattle.field_core.specs.declared.ratio.Ratio.{Ratio}
use Rattle.numerals.specs.Numeral.{AreDigits}
use Rattle.fraction.specs.Spelling.{spelling, IsSpellingByte}
use Rattle.fraction.specs.Tests.{is_zero, is_one, is_within, absolute}
use Rattle.fraction.specs.View.{number_of}
use Rattle.fraction.proofs.ReadBack.{digits_from, read_back, spelling_bytes, spelling_some}
use Rattle.case_model.specs.Draft.{is_name, is_name_byte, is_short, is_short_level, is_short_p_value, is_unit}
use Rattle.case_model.specs.Sums.{terms_at, zero_ratio}
use Rattle.case_model.specs.Validity.{Each}
use Rattle.case_model.proofs.Holding.{both}
use Rattle.text_lines.specs.Spelling.{IsPlain, IsWord}
use Rattle.edge_expression.specs.EntryReading.{IsShallow, IsEntryText}
use Rattle.edge_expression.specs.EntryTexts.{power_text, factor_text, joint_text, joined_term, term_text, terms_text, are_zero_below, coefficients_text}
use Rattle.edge_expression.specs.EntryTexts.{entry_text}
use Rattle.edge_expression.specs.Expressions.{Token, IsSpelt, Spells, Expression, expression_tokens}
use Rattle.case_model.proofs.Thresholds.{unit_parts}
use Rattle.edge_text.specs.Grammar.{Says, IsWholeNumber}
use Rattle.edge_text.specs.CanonicalText.{number_word}

-- ---- bytes

-- above the blanks and the ends of lines
abbrev pub is_high : ℕ → Bool
is_high b = nat_le 42 b

high_by : (b : ℕ) → 42 ≤ b → is_high b ≡ true
high_by b h = grind (arith, nat_tests)

plain_byte : (b : ℕ) → is_high b ≡ true → IsPlain b
plain_byte b h =
    let high : 42 ≤ b = grind (arith, nat_tests) in
    record { space = λ e. omega arith; tab = λ e. omega arith; line_feed = λ e. omega arith; carriage_return = λ e. omega arith }

plain_bytes : (word : List ℕ) → list_all is_high word ≡ true → AllByRecursion IsPlain word
plain_bytes [] h = tt
plain_bytes (b ∷ bs) h = let w = both (is_high b) (list_all is_high bs) h in (plain_byte b w.left, plain_bytes bs w.right)

pub high_word : (word : List ℕ) → 0 < length word → list_all is_high word ≡ true → IsWord word
high_word word some h = record { some = some; plain = plain_bytes word h }

-- ---- numbers

spelling_byte : (b : ℕ) → IsSpellingByte b → is_high b ≡ true
spelling_byte b (inl h) = high_by b (omega (arith, h.0))
spelling_byte b (inr (inl h)) = high_by b (omega (arith, h))
spelling_byte b (inr (inr h)) = high_by b (omega (arith, h))

spelling_high : (x : List ℕ) → AllByRecursion IsSpellingByte x → list_all is_high x ≡ true
spelling_high [] h = refl
spelling_high (b ∷ x) h = ap₂ (λ c d. c && d) (spelling_byte b h.0) (spelling_high x h.1)

pub number_is_word : (x : Ratio) → IsWord (number_word x)
number_is_word x = high_word (number_word x) (spelling_some (terms x) x.valid) (spelling_high (number_word x) (spelling_bytes (terms x) x.valid))

-- the text of a number says it
abbrev pub IsSaid : Ratio → Type 0
IsSaid x = Says (number_word x) x

said : (x : Ratio) → unsigned_abs x.num < 10 ^ 38 → unsigned_abs x.den < 10 ^ 38 → IsSaid x
unfolding Says
said x n d = read_back (terms x) x.valid n d

within_said : (limit : ℕ) (x : Ratio) → limit < 10 ^ 38 → is_within limit (terms x) ≡ true → IsSaid x
within_said limit x l h =
    let w = both (nat_le (unsigned_abs x.num) limit) (nat_le (unsigned_abs x.den) limit) h in
    let n : unsigned_abs x.num ≤ limit = grind (arith, nat_tests, w.left) in
    let d : unsigned_abs x.den ≤ limit = grind (arith, nat_tests, w.right) in
    said x (omega arith) (omega arith)

pub short_said : (x : Ratio) → is_short x ≡ true → IsSaid x
short_said x h = within_said (10 ^ 18) x (lit< tt) h

pub level_said : (x : Ratio) → is_short_level x ≡ true → IsSaid x
level_said x h = within_said 10000 x (lit< tt) h

below_limit : (n d : ℕ) → n ≤ d → d ≤ 10 ^ 30 → (n < 10 ^ 38) × (d < 10 ^ 38)
below_limit n d h k = let l : 10 ^ 30 < 10 ^ 38 = lit< tt in (omega arith, omega arith)

pub p_value_said : (x : Ratio) → is_short_p_value x ≡ true → is_unit (number_of x) ≡ true → IsSaid x
p_value_said x h u =
    let d : unsigned_abs x.den ≤ 10 ^ 30 = grind (arith, nat_tests) in
    let w = below_limit (unsigned_abs x.num) (unsigned_abs x.den) (unit_parts x u) d in
    said x w.0 w.1

-- lists, item by item
pub zip_map : {A B : Type 0} (R : B → A → Type 0) (f : A → B) (xs : List A) → Each xs (λ x. R (f x) x) → AllZip R (map f xs) xs
zip_map R f [] h = tt
zip_map R f (x ∷ xs) h = (h 0 x refl, zip_map R f xs (λ n y e. h (suc n) y e))

pub all_map : {A B : Type 0} (P : B → Type 0) (f : A → B) (xs : List A) → Each xs (λ x. P (f x)) → AllByRecursion P (map f xs)
all_map P f [] h = tt
all_map P f (x ∷ xs) h = (h 0 x refl, all_map P f xs (λ n y e. h (suc n) y e))

pub numbers_are_words : (xs : List Ratio) → AllByRecursion IsWord (map number_word xs)
numbers_are_words xs = all_map IsWord number_word xs (λ i x e. number_is_word x)

-- ---- names

name_byte : (b : ℕ) → is_name_byte b ≡ true → is_high b ≡ true
name_byte b h = high_by b (grind (arith, nat_tests))

name_bytes : (name : List ℕ) → list_all is_name_byte name ≡ true → list_all is_high name ≡ true
name_bytes [] h = refl
name_bytes (b ∷ bs) h = let w = both (is_name_byte b) (list_all is_name_byte bs) h in ap₂ (λ c d. c && d) (name_byte b w.left) (name_bytes bs w.right)

pub name_is_word : (name : List ℕ) → is_name name ≡ true → IsWord name
unfolding is_name
name_is_word name h =
    let w = both (nat_lt 0 (length name) && nat_le (length name) 32) (list_all is_name_byte name) h in
    let v = both (nat_lt 0 (length name)) (nat_le (length name) 32) w.left in
    high_word name (grind (arith, nat_tests, v.left)) (name_bytes name w.right)

-- ---- whole numbers

digits_high : (ds : List ℕ) → AreDigits ds → list_all is_high ds ≡ true
digits_high [] h = refl
digits_high (d ∷ ds) h = ap₂ (λ c e. c && e) (high_by d (omega (arith, h.0))) (digits_high ds h.2)

-- a number of at most two digits
pub whole_is : (n : ℕ) → n ≤ 12 → IsWholeNumber (decimal n) n
whole_is n h =
    let l : 12 < 10 ^ 64 = lit< tt in
    let d = decimal_is_IsNumeral_wide n (omega arith) in
    let two : length (decimal n) ≤ 2 = length-decimal-le_wide 2 n (omega arith) (omega arith) (omega arith) in
    record { digits = digits_from (decimal n) d.0.1; some = d.0.0; few = omega arith; writes = sym d.1 }

pub whole_is_word : (n : ℕ) → n ≤ 12 → IsWord (decimal n)
whole_is_word n h = let w = whole_is n h in high_word (decimal n) w.some (digits_high (decimal n) w.digits)

-- ---- entries

abbrev pub AreHigh : List ℕ → Type 0
AreHigh x = list_all is_high x ≡ true

pub high_both : (x y : List ℕ) → AreHigh x → AreHigh y → AreHigh (x ++ y)
high_both x y h k = list_all-append is_high x y ∙ ap₂ (λ c d. c && d) h k

high_if : (b : Bool) (x y : List ℕ) → AreHigh x → AreHigh y → AreHigh (cond b x y)
high_if true x y h k = h
high_if false x y h k = k

power_high : (p : ℕ) → AreHigh (power_text p)
power_high p =
    let digit : 42 ≤ 48 + p = omega arith in
    high_if (eqb p 1) (codes "\\epsilon") (codes "\\epsilon^" ++ ((48 + p) ∷ [])) refl
    (high_both (codes "\\epsilon^") ((48 + p) ∷ []) refl (ap (λ c. c && true) (high_by (48 + p) digit)))

term_high : (p : ℕ) (t : Terms) → IsReduced t → AreHigh (term_text p t)
unfolding term_text
term_high p t r =
    let number = spelling_high (spelling t) (spelling_bytes t r) in
    high_if (eqb p 0) (spelling t) (factor_text t ++ power_text p) number
    (high_both (factor_text t) (power_text p) (high_if (is_one t) [] (spelling t ++ codes "*") refl (high_both (spelling t) (codes "*") number refl))
    (power_high p))

joint_high : (f b : Bool) → AreHigh (joint_text f b)
joint_high true true = refl
joint_high false true = refl
joint_high true false = refl
joint_high false false = refl

pub absolute_reduced : (t : Terms) → IsReduced t → IsReduced (absolute t)
absolute_reduced t r = record { positive = r.positive; num_size = r.num_size; den_size = r.den_size; reduced = r.reduced }

joined_high : (f : Bool) (p : ℕ) (t : Terms) → IsReduced t → AreHigh (joined_term f p t)
unfolding joined_term
joined_high f p t r = high_both (joint_text f (is_negative t.num)) (term_text p (absolute t)) (joint_high f (is_negative t.num))
    (term_high p (absolute t) (absolute_reduced t r))

terms_high : (f : Bool) (p n : ℕ) (e : List Terms) → ((k : ℕ) → IsReduced (terms_at e k)) → AreHigh (terms_text f p n e)
unfolding terms_text
terms_high f p zero e r = refl
terms_high f p (suc n) e r =
    high_if (is_zero (terms_at e p)) (terms_text f (suc p) n e) (joined_term f p (terms_at e p) ++ terms_text false (suc p) n e) (terms_high f (suc p) n e r)
    (high_both (joined_term f p (terms_at e p)) (terms_text false (suc p) n e) (joined_high f p (terms_at e p) (r p)) (terms_high false (suc p) n e r))

pub each_reduced : (xs : List Ratio) (k : ℕ) → IsReduced (terms_at (map terms xs) k)
unfolding terms_at
each_reduced [] k = zero_ratio.valid
each_reduced (x ∷ xs) zero = x.valid
each_reduced (x ∷ xs) (suc k) = each_reduced xs k

entry_high : (xs : List Ratio) → AreHigh (entry_text xs)
unfolding coefficients_text
entry_high xs = high_if (are_zero_below 5 (map terms xs)) (codes "0") (terms_text true 0 5 (map terms xs)) refl
    (terms_high true 0 5 (map terms xs) (each_reduced xs))

-- ---- an entry after a blank

blank_spelt : (tokens : List Token) (text : List ℕ) → IsSpelt tokens text → IsSpelt tokens (32 ∷ text)
blank_spelt [] text h = (inl refl, h)
blank_spelt (token ∷ tokens) text h = record {
  blanks = 32 ∷ h.blanks;
  rest = h.rest;
  are_blanks = (inl refl, h.are_blanks);
  spelt = ap (λ t. 32 ∷ t) h.spelt;
  is_rest = h.is_rest;
}

blank_spells : (text : List ℕ) (e : Expression) → Spells text e → Spells (32 ∷ text) e
unfolding Spells
blank_spells text e h = blank_spelt (expression_tokens e []) text h

blank_shallow : (text : List ℕ) → IsShallow text (length text) → IsShallow (32 ∷ text) (length (32 ∷ text))
blank_shallow text h zero l = omega arith
blank_shallow text h (suc k) l = h k (omega arith)

pub blank_entry : (text : List ℕ) (e : List Ratio) → IsEntryText text e → IsEntryText (32 ∷ text) e
blank_entry text e h = record {
  expression = h.expression;
  spells = blank_spells text h.expression h.spells;
  shallow = blank_shallow text h.shallow;
  value_is = h.value_is;
}

-- ---- the text of an entry has a byte

some_if : (b : Bool) (x y : List ℕ) → 0 < length x → 0 < length y → 0 < length (cond b x y)
some_if true x y h k = h
some_if false x y h k = k

some_first : (x y : List ℕ) → 0 < length x → 0 < length (x ++ y)
some_first [] y h = absurd (omega arith)
some_first (b ∷ x) y h = omega arith

some_last : (x y : List ℕ) → 0 < length y → 0 < length (x ++ y)
some_last [] y h = h
some_last (b ∷ x) y h = omega arith

power_some : (p : ℕ) → 0 < length (power_text p)
power_some p = some_if (eqb p 1) (codes "\\epsilon") (codes "\\epsilon^" ++ ((48 + p) ∷ [])) (omega arith)
    (some_last (codes "\\epsilon^") ((48 + p) ∷ []) (omega arith))

term_some : (p : ℕ) (t : Terms) → IsReduced t → 0 < length (term_text p t)
unfolding term_text
term_some p t r = some_if (eqb p 0) (spelling t) (factor_text t ++ power_text p) (spelling_some t r) (some_last (factor_text t) (power_text p) (power_some p))

joined_some : (f : Bool) (p : ℕ) (t : Terms) → IsReduced t → 0 < length (joined_term f p t)
unfolding joined_term
joined_some f p t r = some_last (joint_text f (is_negative t.num)) (term_text p (absolute t)) (term_some p (absolute t) (absolute_reduced t r))

here_or_later : (p k : ℕ) → p ≤ k → (p ≡ k) ⊎ (suc p ≤ k)
here_or_later p k l = grind arith

-- where nothing is written, the coefficients are 0
none_written : (f : Bool) (p n : ℕ) (e : List Terms) → ((k : ℕ) → IsReduced (terms_at e k)) → length (terms_text f p n e) ≡ 0
    → (k : ℕ) → p ≤ k → k < p + n → is_zero (terms_at e k) ≡ true
unfolding terms_text
none_written f p zero e r h k l g = absurd (omega arith)
none_written f p (suc n) e r h k l g = by_test (is_zero (terms_at e p)) refl h (λ z s. none_written f (suc p) n e r z k s (omega arith))
  where
    by_test : (b : Bool) → is_zero (terms_at e p) ≡ b
        → length (cond b (terms_text f (suc p) n e) (joined_term f p (terms_at e p) ++ terms_text false (suc p) n e)) ≡ 0
        → (length (terms_text f (suc p) n e) ≡ 0 → suc p ≤ k → is_zero (terms_at e k) ≡ true) → is_zero (terms_at e k) ≡ true
    by_test true t z later = elim (here_or_later p k l) [
      | inl s ↦ ap (λ k. is_zero (terms_at e k)) (sym s) ∙ t
      | inr s ↦ later z s
    ]
    by_test false t z later = let some = some_first (joined_term f p (terms_at e p)) (terms_text false (suc p) n e)
        (joined_some f p (terms_at e p) (r p)) in absurd (omega arith)

all_zero : (n : ℕ) (e : List Terms) → ((k : ℕ) → k < n → is_zero (terms_at e k) ≡ true) → are_zero_below n e ≡ true
unfolding are_zero_below
all_zero zero e h = refl
all_zero (suc n) e h = ap₂ (λ a b. a && b) (all_zero n e (λ k l. h k (omega arith))) (h n (omega arith))

entry_some : (xs : List Ratio) → 0 < length (entry_text xs)
unfolding coefficients_text
entry_some xs = by_test (are_zero_below 5 (map terms xs)) refl
  where
    written : (n : ℕ) → length (terms_text true 0 5 (map terms xs)) ≡ n → are_zero_below 5 (map terms xs) ≡ false → 0 < n
    written zero z f =
        let t : true ≡ false = sym (all_zero 5 (map terms xs) (λ k l. none_written true 0 5 (map terms xs) (each_reduced xs) z k (omega arith) l)) ∙ f in
        absurd (cc)
    written (suc n) z f = omega arith

    by_test : (b : Bool) → are_zero_below 5 (map terms xs) ≡ b → 0 < length (cond b (codes "0") (terms_text true 0 5 (map terms xs)))
    by_test true t = omega arith
    by_test false f = written (length (terms_text true 0 5 (map terms xs))) refl f

pub entry_is_word : (xs : List Ratio) → IsWord (entry_text xs)
entry_is_word xs = high_word (entry_text xs) (entry_some xs) (entry_high xs)
