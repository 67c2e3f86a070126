-- Digits and words, one after the other.
use Rattle.std.proofs.lemmas.Bool.{and_parts, cases_lt}
use Rattle.std.proofs.Common.{◌≡◌, ℕ, zero, suc, ◌+◌, ◌-◌, ◌*◌, ◌<◌, ◌≤◌, ◌==◌, nat_le, min, Bool, true, false, inl, inr}
use Rattle.std.proofs.Common.{if◌then◌else◌, List, [], ◌∷◌, ◌++◌, length, take, get_or, set, refl, sym, ◌∙◌, ap, arith, ℤ, Option, Some, None}
use Rattle.std.specs.Prelude.{option_map, option_and_then}
use Rattle.std.specs.Char.{is_ascii_digit}
use Rattle.std.specs.List.{All, list_all, slice_split}
use Rattle.std.specs.Str.Parse.{digits_value}
use Rattle.std.proofs.lemmas.Bool.Decides.{nat_tests}
use Rattle.std.proofs.lemmas.Int.Digits.{digits_value_more}
use Rattle.std.proofs.lemmas.List.Splits.{slice_split_none, slice_split_at, length-slice_split}
use Rattle.field_core.proofs.Digits.{digit_is}
use Rattle.std.proofs.lemmas.List.{length-set}
use Rattle.field_core.specs.Polynomial.{coefficient}
use Rattle.eps_poly.specs.Polynomials.{zero_polynomial, by_powers}
use Rattle.eps_poly.proofs.Coefficients.{same_polynomials, length-zero, coefficient-zero, length-by_powers, coefficient-by_powers, coefficient-past}
use Rattle.eps_poly.proofs.Coefficients.{coefficient-set_same, coefficient-set_other}
use Rattle.eps_quotient.specs.Texts.{whole_of, wholes_of, polynomial_of}

-- ---- digits

digit_bounds : (b : ℕ) → is_ascii_digit b ≡ true → (48 ≤ b) × (b ≤ 57)
digit_bounds b h =
    let low : 48 ≤ b = grind (arith, nat_tests) in
    let high : b ≤ 57 = grind (arith, nat_tests) in
    (low, high)

pub digit_at : (ds : List ℕ) (i : ℕ) → list_all is_ascii_digit ds ≡ true → i < length ds → (48 ≤ get_or ds i 0) × (get_or ds i 0 ≤ 57)
digit_at [] i h l = absurd (omega arith)
digit_at (d ∷ ds) zero h l = digit_bounds d (and_parts (is_ascii_digit d) (list_all is_ascii_digit ds) h).0
digit_at (d ∷ ds) (suc i) h l = digit_at ds i (and_parts (is_ascii_digit d) (list_all is_ascii_digit ds) h).1 (omega arith)

-- the number that digits write, cut at a bound, with one digit more
pub size_more : (ds : List ℕ) (i size next most : ℕ) → list_all is_ascii_digit ds ≡ true → i < length ds
    → size ≡ min (digits_value 10 (take i ds)) most
    → next ≡ min (min (size * 10) most + (get_or ds i 0 - 48)) most → next ≡ min (digits_value 10 (take (i + 1) ds)) most
size_more ds i size next most are l e f =
    let d = digit_at ds i are l in
    let more = digits_value_more 10 ds i l in
    let is = digit_is (get_or ds i 0) d.0 d.1 in
    omega arith

-- ---- words

pub last_word : (text : List ℕ) → All (λ b. (b == 44) ≡ false) text → slice_split (λ b. b == 44) text ≡ text ∷ []
last_word text free = slice_split_none (λ b. b == 44) text free

pub next_word : (text word more : List ℕ) → text ≡ word ++ 44 ∷ more → All (λ b. (b == 44) ≡ false) word
    → slice_split (λ b. b == 44) text ≡ word ∷ slice_split (λ b. b == 44) more
next_word text word more e free = ap (slice_split (λ b. b == 44)) e ∙ slice_split_at (λ b. b == 44) word 44 more free refl

-- ---- coefficients

-- a polynomial with numbers in place of the coefficients from power k on
pub overlay : ℕ → List ℤ → List ℤ → List ℤ
overlay k p [] = p
overlay k p (c ∷ cs) = overlay (suc k) (set p k c) cs

overlay_none : (k : ℕ) (p : List ℤ) → overlay k p [] ≡ p
unfolding overlay
overlay_none k p = refl

overlay_next : (k : ℕ) (p : List ℤ) (c : ℤ) (cs : List ℤ) → overlay k p (c ∷ cs) ≡ overlay (k + 1) (set p k c) cs
unfolding overlay
overlay_next k p c cs = ap (λ j. overlay j (set p k c) cs) (next k)
  where
    next : (k : ℕ) → suc k ≡ k + 1
    next k = omega arith

-- ---- numbers put over zeros are the coefficients

length-overlay : (k : ℕ) (p cs : List ℤ) → length (overlay k p cs) ≡ length p
unfolding overlay
length-overlay k p [] = refl
length-overlay k p (c ∷ cs) = length-overlay (suc k) (set p k c) cs ∙ length-set p k c

overlay_below : (k : ℕ) (p cs : List ℤ) (j : ℕ) → j < k → coefficient (overlay k p cs) j ≡ coefficient p j
unfolding overlay
overlay_below k p [] j h = refl
overlay_below k p (c ∷ cs) j h = overlay_below (suc k) (set p k c) cs j (omega arith) ∙ coefficient-set_other p k j c (λ e. absurd (omega arith))

overlay_at : (k : ℕ) (p cs : List ℤ) (i : ℕ) → k + length cs ≤ length p → i < length cs
    → coefficient (overlay k p cs) (i + k) ≡ coefficient cs i
unfolding overlay coefficient
overlay_at k p [] i room h = absurd (omega arith)
overlay_at k p (c ∷ cs) zero room h =
    ap (coefficient (overlay (suc k) (set p k c) cs)) (same k) ∙ overlay_below (suc k) (set p k c) cs k (omega arith)
    ∙ coefficient-set_same p k c (omega arith)
  where
    same : (k : ℕ) → 0 + k ≡ k
    same k = omega arith
overlay_at k p (c ∷ cs) (suc i) room h =
    ap (coefficient (overlay (suc k) (set p k c) cs)) (same i k) ∙ overlay_at (suc k) (set p k c) cs i (let l = length-set p k c in omega arith) (omega arith)
  where
    same : (i k : ℕ) → suc i + k ≡ i + suc k
    same i k = omega arith

overlay_past : (k : ℕ) (p cs : List ℤ) (j : ℕ) → k + length cs ≤ j → coefficient (overlay k p cs) j ≡ coefficient p j
unfolding overlay
overlay_past k p [] j h = refl
overlay_past k p (c ∷ cs) j h = overlay_past (suc k) (set p k c) cs j (omega arith) ∙ coefficient-set_other p k j c (λ e. absurd (omega arith))

pub overlay_is : (cs : List ℤ) → length cs ≤ 33 → overlay 0 zero_polynomial cs ≡ by_powers (coefficient cs)
overlay_is cs few =
    same_polynomials (overlay 0 zero_polynomial cs) (by_powers (coefficient cs))
    (length-overlay 0 zero_polynomial cs ∙ length-zero ∙ sym (length-by_powers (coefficient cs))) each
  where
    each : (j : ℕ) → j < length (overlay 0 zero_polynomial cs)
        → coefficient (overlay 0 zero_polynomial cs) j ≡ coefficient (by_powers (coefficient cs)) j
    each j h =
        let long = length-overlay 0 zero_polynomial cs in
        let all = length-zero in
        let small : j < 33 = omega arith in
        elim (cases_lt j (length cs)) [
          | inl l ↦
              ap (coefficient (overlay 0 zero_polynomial cs)) (sym (plus_zero j)) ∙ overlay_at 0 zero_polynomial cs j (omega arith) l
              ∙ sym (coefficient-by_powers (coefficient cs) j small)
          | inr l ↦
              overlay_past 0 zero_polynomial cs j (omega arith) ∙ coefficient-zero j
              ∙ sym (coefficient-by_powers (coefficient cs) j small ∙ coefficient-past cs j l)
        ]
      where
        plus_zero : (j : ℕ) → j + 0 ≡ j
        plus_zero j = omega arith

-- ---- words, one after the other

-- a polynomial with the numbers of words in place of the coefficients from power k on
unfoldable pub filled : ℕ → List ℤ → List (List ℕ) → Option (List ℤ)
filled k p words = if nat_le (k + length words) 33 then option_map (overlay k p) (wholes_of words) else None

-- words have a number each
same_count : (words : List (List ℕ)) (cs : List ℤ) → wholes_of words ≡ Some cs → length cs ≡ length words
unfolding wholes_of
same_count [] cs e = let n : [] ≡ cs = cc in ap length (sym n)
same_count (word ∷ words) cs e = by (whole_of word) (wholes_of words) (λ ns. same_count words ns) e
  where
    by : (r : Option ℤ) (rs : Option (List ℤ)) → ((ns : List ℤ) → rs ≡ Some ns → length ns ≡ length words)
        → option_and_then (λ c. option_map (λ cs. c ∷ cs) rs) r ≡ Some cs → length cs ≡ suc (length words)
    by None rs h e = absurd (cc)
    by (Some c) None h e = absurd (cc)
    by (Some c) (Some ns) h e = let n : c ∷ ns ≡ cs = cc in ap length (sym n) ∙ ap suc (h ns refl)

-- over 0, they are the polynomial of the words
pub filled_first : (words : List (List ℕ)) → filled 0 zero_polynomial words ≡ polynomial_of words
unfolding filled polynomial_of
filled_first words =
    ap (λ n. if nat_le n 33 then option_map (overlay 0 zero_polynomial) (wholes_of words) else None) (none_more (length words))
    ∙ by (nat_le (length words) 33) refl (wholes_of words) refl
  where
    none_more : (n : ℕ) → 0 + n ≡ n
    none_more n = omega arith

    few : nat_le (length words) 33 ≡ true → length words ≤ 33
    few h = grind (arith, nat_tests)

    by : (t : Bool) → nat_le (length words) 33 ≡ t → (r : Option (List ℤ)) → wholes_of words ≡ r
        → (if t then option_map (overlay 0 zero_polynomial) r else None) ≡ (if t then option_map (λ cs. by_powers (coefficient cs)) r else None)
    by true h None e = refl
    by true h (Some cs) e = ap Some (overlay_is cs (let l = few h in let n = same_count words cs e in omega arith))
    by false h r e = refl

pub word_refused : (k : ℕ) (p : List ℤ) (word : List ℕ) (words : List (List ℕ)) → whole_of word ≡ None → filled k p (word ∷ words) ≡ None
unfolding filled wholes_of
word_refused k p word words e = by (nat_le (k + suc (length words)) 33) (whole_of word) e
  where
    by : (t : Bool) (r : Option ℤ) → r ≡ None
        → (if t then option_map (overlay k p) (option_and_then (λ c. option_map (λ cs. c ∷ cs) (wholes_of words)) r) else None) ≡ None
    by true None e = refl
    by true (Some c) e = absurd (cc)
    by false r e = refl

pub word_put : (k : ℕ) (p : List ℤ) (word : List ℕ) (words : List (List ℕ)) (c : ℤ) → whole_of word ≡ Some c
    → filled k p (word ∷ words) ≡ filled (k + 1) (set p k c) words
unfolding filled wholes_of
word_put k p word words c e =
    ap (λ n. if nat_le n 33 then option_map (overlay k p) (wholes_of (word ∷ words)) else None) (one_more k (length words))
    ∙ ap (λ r. if nat_le (k + 1 + length words) 33 then r else None)
    (ap (λ r. option_map (overlay k p) (option_and_then (λ c. option_map (λ cs. c ∷ cs) (wholes_of words)) r)) e ∙ put (wholes_of words))
  where
    one_more : (k n : ℕ) → k + suc n ≡ k + 1 + n
    one_more k n = omega arith

    put : (r : Option (List ℤ)) → option_map (overlay k p) (option_map (λ cs. c ∷ cs) r) ≡ option_map (overlay (k + 1) (set p k c)) r
    put None = refl
    put (Some cs) = ap Some (overlay_next k p c cs)

pub no_more_words : (k : ℕ) (p : List ℤ) → k ≤ 33 → filled k p [] ≡ Some p
unfolding filled wholes_of
no_more_words k p h =
    let few : nat_le (k + 0) 33 ≡ true = grind (arith, nat_tests) in
    ap (λ t. if t then Some (overlay k p []) else None) few ∙ ap Some (overlay_none k p)

too_many : (k : ℕ) (p : List ℤ) (words : List (List ℕ)) → 33 ≤ k → 0 < length words → filled k p words ≡ None
unfolding filled
too_many k p words h some =
    let high : nat_le (k + length words) 33 ≡ false = grind (arith, nat_tests) in
    ap (λ t. if t then option_map (overlay k p) (wholes_of words) else None) high

pub words_past : (k : ℕ) (p : List ℤ) (text : List ℕ) → 33 ≤ k → filled k p (slice_split (λ b. b == 44) text) ≡ None
words_past k p text h = too_many k p (slice_split (λ b. b == 44) text) h (let l = length-slice_split (λ b. b == 44) text in omega arith)
