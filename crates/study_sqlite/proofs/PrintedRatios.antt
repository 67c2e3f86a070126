-- Printed fractions.
use Rattle.std.proofs.Common.{◌≡◌, ◌<◌, ◌^◌, ℕ, suc, ℤ, pos, negsuc, List, ◌∷◌, ◌++◌, FitsSigned, Option, Some, None, IfSome, refl}
use Rattle.std.proofs.Common.{sym, ap, ap₂, subst, ◌∙◌, inl, inr, arith}
use Rattle.std.specs.Int.{w128}
use Rattle.std.specs.Fmt.{decimal, signed_decimal}
use Rattle.std.specs.Ordering.{int_eq}
use Rattle.std.specs.Str.{IsAscii, IsUtf8}
use Rattle.std.specs.Str.Parse.{AllDigits, digits_value}
use Rattle.std.proofs.lemmas.Bool.{cond_both}
use Rattle.std.proofs.lemmas.Fmt.{decimal_is_IsNumeral_wide}
use mir.Val.{to_z, of_z}
use Rattle.std.proofs.lemmas.Int.{fits_signed_from_abs, to_z-of_z}
use Rattle.std.proofs.lemmas.Str.{IsUtf8-from_ascii, IsAscii-append}
use Rattle.std.proofs.lemmas.Str.Ascii.{IsAscii-cons}
use Rattle.std.proofs.lemmas.Str.Parse.{digit_from_value}
use Rattle.field_core.specs.Terms.{Terms}
use Rattle.field_core.specs.Texts.{fraction_text}
use Rattle.field_core.specs.View.{terms}
use Rattle.field_core.specs.declared.ratio.Ratio.{Ratio}
use Rattle.fraction.specs.Spelling.{spelling}
use Rattle.fraction.proofs.SameRatios.{same_ratio}
use Rattle.study_sqlite.proofs.PrintedNumbers.{printed_ascii}
use Rattle.study_sqlite.proofs.Slashes.{heads, number_plain, one_or_not, whole_form, whole_only, pair_only}
use Rattle.fraction.proofs.ReadBack.{other_text}

-- ---- parts of a fraction

pub spelt : (t : Terms) → spelling t ≡ fraction_text t.num t.den
unfolding spelling
spelt t = refl

pub num_fits : (x : Ratio) → FitsSigned w128 x.num
num_fits x = fits_signed_from_abs w128 x.num x.valid.num_size

pub den_fits : (x : Ratio) → FitsSigned w128 x.den
den_fits x = fits_signed_from_abs w128 x.den x.valid.den_size

-- ---- their text is of ASCII

fraction_ascii : (n d : ℤ) → FitsSigned w128 n → FitsSigned w128 d → IsAscii (fraction_text n d)
fraction_ascii n d f g =
    cond_both (int_eq d (pos 1)) (signed_decimal n) (signed_decimal n ++ 47 ∷ signed_decimal d) IsAscii
    (λ e. printed_ascii n f)
    (λ e. IsAscii-append (signed_decimal n) (47 ∷ signed_decimal d) (printed_ascii n f)
    (IsAscii-cons 47 (signed_decimal d) (omega arith) (printed_ascii d g)))

pub printed_text : (x : Ratio) (text : List ℕ) → text ≡ spelling (terms x) → IsUtf8 text
printed_text x text is = IsUtf8-from_ascii text (subst IsAscii (sym (is ∙ spelt (terms x))) (fraction_ascii x.num x.den (num_fits x) (den_fits x)))

-- ---- a text is that of one number

no_minus : (m : ℕ) (ds : List ℕ) → m < 10 ^ 64 → ¬ (decimal m ≡ 45 ∷ ds)
no_minus m ds h e =
    let all : AllDigits 10 (45 ∷ ds) = subst (AllDigits 10) e (decimal_is_IsNumeral_wide m h).0.1 in
    let r = digit_from_value 45 all.0 in
    omega arith

one_size : (m n : ℕ) → m < 10 ^ 64 → n < 10 ^ 64 → decimal m ≡ decimal n → m ≡ n
one_size m n h k e = sym (decimal_is_IsNumeral_wide m h).1 ∙ ap (digits_value 10) e ∙ (decimal_is_IsNumeral_wide n k).1

one_number : (y z : ℤ) → FitsSigned w128 y → FitsSigned w128 z → signed_decimal y ≡ signed_decimal z → y ≡ z
one_number (pos m) (pos n) f g e = ap pos (one_size m n (omega (arith, f.sfits)) (omega (arith, g.sfits)) e)
one_number (pos m) (negsuc n) f g e = absurd (no_minus m (decimal (suc n)) (omega (arith, f.sfits)) e)
one_number (negsuc m) (pos n) f g e = absurd (no_minus n (decimal (suc m)) (omega (arith, g.sfits)) (sym e))
one_number (negsuc m) (negsuc n) f g e =
    let rest = (heads 45 45 (decimal (suc m)) (decimal (suc n)) e).1 in
    let same : suc m ≡ suc n = one_size (suc m) (suc n) (omega (arith, f.sfits)) (omega (arith, g.sfits)) rest in
    let less : m ≡ n = omega arith in
    ap negsuc less

-- ---- a text is that of one fraction

same_parts : (x y : Ratio) → x.num ≡ y.num → x.den ≡ y.den → x ≡ y
same_parts x y e f = same_ratio x y (ap₂ (λ n d. record { num = n; den = d }) e f)

one_text : (x y : Ratio) → fraction_text x.num x.den ≡ fraction_text y.num y.den → x ≡ y
one_text x y e =
    elim (one_or_not x.den) [
      | inl one ↦ (let both = whole_only y.num y.den (signed_decimal x.num) (number_plain x.num (num_fits x)) (sym (whole_form x.num x.den one) ∙ e) in
          same_parts x y (one_number x.num y.num (num_fits x) (num_fits y) both.1) (one ∙ sym both.0))
      | inr other ↦ (let both = pair_only y.num y.den (signed_decimal x.num) (signed_decimal x.den) (num_fits y)
          (number_plain x.num (num_fits x)) (sym (other_text x.num x.den other) ∙ e) in
          same_parts x y (one_number x.num y.num (num_fits x) (num_fits y) both.1) (one_number x.den y.den (den_fits x) (den_fits y) both.2))
    ]

pub one_ratio : (x y : Ratio) (text : List ℕ) → text ≡ spelling (terms x) → text ≡ spelling (terms y) → x ≡ y
one_ratio x y text e f = one_text x y (sym (spelt (terms x)) ∙ sym e ∙ f ∙ spelt (terms y))

-- ---- parts as the machine holds them

first_of : Option (ℤ × ℤ) → ℤ → ℤ
first_of None z = z
first_of (Some p) z = p.0

second_of : Option (ℤ × ℤ) → ℤ → ℤ
second_of None z = z
second_of (Some p) z = p.1

pub held_terms : (n d : ℤ) → FitsSigned w128 n → FitsSigned w128 d
    → ◌≡◌ {A = Terms} (record { num = to_z w128 (of_z w128 n); den = to_z w128 (of_z w128 d) }) (record { num = n; den = d })
held_terms n d f g = ap₂ (λ a b. record { num = a; den = b }) (to_z-of_z w128 n f) (to_z-of_z w128 d g)

found_by : (n d : ℤ) (x : Ratio) (text : List ℕ) → FitsSigned w128 n → FitsSigned w128 d → text ≡ fraction_text n d
    → terms x ≡ record { num = to_z w128 (of_z w128 n); den = to_z w128 (of_z w128 d) } → text ≡ spelling (terms x)
found_by n d x text f g is e = is ∙ ap (λ (t : Terms). fraction_text t.num t.den) (sym (e ∙ held_terms n d f g)) ∙ sym (spelt (terms x))

pub found_text : (n d : ℤ) (r : Option Ratio) (text : List ℕ) → FitsSigned w128 n → FitsSigned w128 d → text ≡ fraction_text n d
    → IfSome r (λ x. terms x ≡ record { num = to_z w128 (of_z w128 n); den = to_z w128 (of_z w128 d) }) → IfSome r (λ x. text ≡ spelling (terms x))
found_text n d None text f g is h = tt
found_text n d (Some x) text f g is h = found_by n d x text f g is h

-- the parts of a printed fraction are those that were read
pub read_terms : (n d : ℤ) (x : Ratio) → ◌≡◌ {A = Option (ℤ × ℤ)} (Some (n, d)) (Some (x.num, x.den))
    → terms x ≡ record { num = to_z w128 (of_z w128 n); den = to_z w128 (of_z w128 d) }
unfolding first_of second_of
read_terms n d x e =
    let num : n ≡ x.num = ap (λ o. first_of o x.num) e in
    let den : d ≡ x.den = ap (λ o. second_of o x.den) e in
    let f : FitsSigned w128 n = subst (FitsSigned w128) (sym num) (num_fits x) in
    let g : FitsSigned w128 d = subst (FitsSigned w128) (sym den) (den_fits x) in
    ap₂ (λ a b. record { num = a; den = b }) (sym num) (sym den) ∙ sym (held_terms n d f g)
