-- Zeros before and after other digits.
use Rattle.std.proofs.Common.{◌≡◌, ◌≢◌, ℕ, zero, suc, ◌+◌, ◌-◌, ◌*◌, ◌^◌, ◌<◌, ◌≤◌, ◌⊎◌, inl, inr, List, []}
use Rattle.std.proofs.Common.{◌∷◌, ◌++◌, length, get_or, drop, take, reverse, refl, sym, ap, subst, ◌∙◌, arith, length-drop, add-zero}
use Rattle.std.specs.List.{prefix_len}
use Rattle.std.specs.Char.{digit_value}
use Rattle.std.specs.Str.Parse.{digits_value, digits_value_after}
use Rattle.std.proofs.lemmas.Bool.{eq-eqb, ne_eqb, eqb-true, cases_eq}
use Rattle.std.proofs.lemmas.List.{drop-append-le, drop-drop, reverse-append, length-reverse, get_or-reverse, nil_from_length, take_all}
use Rattle.std.proofs.lemmas.List.Sums.{prefix_len-le-length, prefix_len_passes, suffix_len-le-length}
use Rattle.std.proofs.lemmas.List.Folds.{prefix_len-append}
use Rattle.std.proofs.lemmas.Int.Digits.{digits_value_more}
use Rattle.std.proofs.Math.Seq.{drop-append_seam}
use Rattle.std.proofs.Math.Nat.{pow-suc}
use Rattle.numerals.specs.Numeral.{AreDigits, is_nought, without_leading_zeros, trailing_zeros}
use Rattle.field_core.proofs.Digits.{digit_is}

-- ---- prefixes of joined lists

prefix_inside : (xs ys : List ℕ) → prefix_len is_nought xs < length xs → prefix_len is_nought (xs ++ ys) ≡ prefix_len is_nought xs
prefix_inside xs ys h = prefix_len-append is_nought xs ys ∙ rw (ne_eqb (prefix_len is_nought xs) (length xs) (λ e. omega arith)) refl

prefix_past : (xs ys : List ℕ) → length xs ≤ prefix_len is_nought xs → prefix_len is_nought (xs ++ ys) ≡ length xs + prefix_len is_nought ys
prefix_past xs ys h =
    let e : prefix_len is_nought xs ≡ length xs = omega (arith, prefix_len-le-length is_nought xs) in
    prefix_len-append is_nought xs ys ∙ rw (eq-eqb (prefix_len is_nought xs) (length xs) e) refl

-- ---- leading zeros

length_without : (ds : List ℕ) → length (without_leading_zeros ds) ≡ length ds - prefix_len is_nought ds
unfolding without_leading_zeros
length_without ds = length-drop (prefix_len is_nought ds) ds

pub length_without_le : (ds : List ℕ) → length (without_leading_zeros ds) ≤ length ds
length_without_le ds = omega (arith, length_without ds)

pub without_some : (xs ys : List ℕ) → 0 < length (without_leading_zeros xs) → without_leading_zeros (xs ++ ys) ≡ without_leading_zeros xs ++ ys
unfolding without_leading_zeros
without_some xs ys h =
    let lt : prefix_len is_nought xs < length xs = omega (arith, length-drop (prefix_len is_nought xs) xs) in
    ap (λ n. drop n (xs ++ ys)) (prefix_inside xs ys lt) ∙ drop-append-le (prefix_len is_nought xs) xs ys (omega arith)

pub without_none : (xs ys : List ℕ) → length (without_leading_zeros xs) ≡ 0 → without_leading_zeros (xs ++ ys) ≡ without_leading_zeros ys
unfolding without_leading_zeros
without_none xs ys h =
    let le : length xs ≤ prefix_len is_nought xs = omega (arith, length-drop (prefix_len is_nought xs) xs) in
    ap (λ n. drop n (xs ++ ys)) (prefix_past xs ys le) ∙ sym (drop-drop (prefix_len is_nought ys) (length xs) (xs ++ ys))
    ∙ ap (drop (prefix_len is_nought ys)) (drop-append_seam xs ys)

-- the parts of joined digits without their zeros
pub joined_none : (xs ys us vs : List ℕ) → length us ≡ 0 → us ≡ without_leading_zeros xs → vs ≡ without_leading_zeros ys
    → us ++ vs ≡ without_leading_zeros (xs ++ ys)
joined_none xs ys us vs h e f =
    let none : us ≡ [] = nil_from_length us h in
    rw none (f ∙ sym (without_none xs ys (rw (← e) h)))

pub joined_some : (xs ys us : List ℕ) → 0 < length us → us ≡ without_leading_zeros xs → us ++ ys ≡ without_leading_zeros (xs ++ ys)
joined_some xs ys us h e = rw e (sym (without_some xs ys (rw (← e) h)))

without_nought : (ds : List ℕ) → without_leading_zeros (48 ∷ ds) ≡ without_leading_zeros ds
unfolding without_leading_zeros
without_nought ds = let e : 1 + prefix_len is_nought ds ≡ suc (prefix_len is_nought ds) = omega arith in ap (λ n. drop n (48 ∷ ds)) e

without_other : (d : ℕ) (ds : List ℕ) → d ≢ 48 → without_leading_zeros (d ∷ ds) ≡ d ∷ ds
unfolding without_leading_zeros
without_other d ds h = rw (ne_eqb d 48 h) refl

-- ---- the number that digits write

pub value_ge : (n : ℕ) (ds : List ℕ) → n ≤ digits_value_after 10 n ds
value_ge n [] = omega arith
value_ge n (d ∷ ds) = omega (arith, value_ge (n * 10 + digit_value d) ds)

without_value_by : (d : ℕ) (ds : List ℕ) → (d ≡ 48) ⊎ (d ≢ 48) → digits_value 10 (without_leading_zeros ds) ≡ digits_value 10 ds
    → digits_value 10 (without_leading_zeros (d ∷ ds)) ≡ digits_value 10 (d ∷ ds)
without_value_by d ds (inl e) r = rw e (ap (digits_value 10) (without_nought ds) ∙ r)
without_value_by d ds (inr h) r = ap (digits_value 10) (without_other d ds h)

pub without_value : (ds : List ℕ) → digits_value 10 (without_leading_zeros ds) ≡ digits_value 10 ds
unfolding without_leading_zeros
without_value [] = refl
without_value (d ∷ ds) = without_value_by d ds (cases_eq d 48) (without_value ds)

pub no_value : (ds : List ℕ) → length (without_leading_zeros ds) ≡ 0 → digits_value 10 ds ≡ 0
no_value ds h = sym (without_value ds) ∙ ap (digits_value 10) (nil_from_length (without_leading_zeros ds) h)

some_value_by : (d : ℕ) (ds : List ℕ) → 48 ≤ d → d ≤ 57 → (d ≡ 48) ⊎ (d ≢ 48)
    → (0 < length (without_leading_zeros ds) → 0 < digits_value 10 ds) → 0 < length (without_leading_zeros (d ∷ ds)) → 0 < digits_value 10 (d ∷ ds)
some_value_by d ds h k (inl e) r some =
    rw e (r (subst (λ (x : List ℕ). 0 < length x) (ap (λ n. without_leading_zeros (n ∷ ds)) e ∙ without_nought ds) some))
some_value_by d ds h k (inr n) r some = let g = value_ge (0 * 10 + digit_value d) ds in let e = digit_is d h k in omega arith

pub some_value : (ds : List ℕ) → AreDigits ds → 0 < length (without_leading_zeros ds) → 0 < digits_value 10 ds
unfolding without_leading_zeros
some_value [] are h = absurd (omega arith)
some_value (d ∷ ds) are h = some_value_by d ds are.0 are.1 (cases_eq d 48) (λ k. some_value ds are.2 k) h

-- ---- trailing zeros

pub trailing_le : (ds : List ℕ) → trailing_zeros ds ≤ length ds
unfolding trailing_zeros
trailing_le ds = suffix_len-le-length is_nought ds

pub trailing_some : (xs ys : List ℕ) → trailing_zeros ys < length ys → trailing_zeros (xs ++ ys) ≡ trailing_zeros ys
unfolding trailing_zeros
trailing_some xs ys h =
    ap (prefix_len is_nought) (reverse-append xs ys) ∙ prefix_inside (reverse ys) (reverse xs) (rw length-reverse h)

pub trailing_all : (xs ys : List ℕ) → length ys ≤ trailing_zeros ys → trailing_zeros (xs ++ ys) ≡ trailing_zeros ys + trailing_zeros xs
unfolding trailing_zeros
trailing_all xs ys h =
    let e : length (reverse ys) ≡ prefix_len is_nought (reverse ys) = omega (arith, length-reverse ys, suffix_len-le-length is_nought ys) in
    ap (prefix_len is_nought) (reverse-append xs ys) ∙ prefix_past (reverse ys) (reverse xs) (rw length-reverse h)
    ∙ ap (λ n. n + prefix_len is_nought (reverse xs)) e

trailing_nought : (ds : List ℕ) (k : ℕ) → length ds - trailing_zeros ds ≤ k → k < length ds → get_or ds k 0 ≡ 48
unfolding trailing_zeros
trailing_nought ds k h lt =
    let at : length ds - 1 - k < prefix_len is_nought (reverse ds) = omega (arith, suffix_len-le-length is_nought ds) in
    let e : get_or (reverse ds) (length ds - 1 - k) 0 ≡ 48 = eqb-true _ 48 (prefix_len_passes is_nought (reverse ds) (length ds - 1 - k) 0 at) in
    let place : length ds - 1 - (length ds - 1 - k) ≡ k = omega arith in
    ap (λ n. get_or ds n 0) (sym place) ∙ sym (get_or-reverse ds (length ds - 1 - k) 0 (omega arith)) ∙ e

value_zeros : (ds : List ℕ) (n j : ℕ) → n + j ≤ length ds → ((k : ℕ) → n ≤ k → k < length ds → get_or ds k 0 ≡ 48)
    → digits_value 10 (take (n + j) ds) ≡ digits_value 10 (take n ds) * 10 ^ j
value_zeros ds n zero h z = rw add-zero (omega arith)
value_zeros ds n (suc j) h z =
    let e : n + suc j ≡ (n + j) + 1 = omega arith in
    let r = value_zeros ds n j (omega arith) z in
    let m = digits_value_more 10 ds (n + j) (omega arith) in
    let d : digit_value (get_or ds (n + j) 0) ≡ 0 = ap digit_value (z (n + j) (omega arith) (omega arith)) in
    rw (e, m, d, r, pow-suc) (omega arith)

-- without its trailing zeros a number is divided by ten for each of them
pub trailing_value : (ds : List ℕ) → digits_value 10 ds ≡ digits_value 10 (take (length ds - trailing_zeros ds) ds) * 10 ^ trailing_zeros ds
trailing_value ds =
    let e : (length ds - trailing_zeros ds) + trailing_zeros ds ≡ length ds = omega (arith, trailing_le ds) in
    let whole : take ((length ds - trailing_zeros ds) + trailing_zeros ds) ds ≡ ds = rw e (take_all (length ds) ds (omega arith)) in
    ap (digits_value 10) (sym whole) ∙ value_zeros ds (length ds - trailing_zeros ds) (trailing_zeros ds) (omega arith) (trailing_nought ds)
