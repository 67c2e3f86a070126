-- Texts cut at their first slash.
use Rattle.std.proofs.Common.{◌≡◌, ℕ, suc, ℤ, pos, negsuc, List, [], ◌∷◌, ◌++◌, FitsSigned, Option, Some, None, MatchOption, refl, sym, ap}
use Rattle.std.proofs.Common.{ap₂, subst, ◌∙◌, ◌⊎◌, inl, inr, arith}
use Rattle.std.specs.Int.{w128}
use Rattle.std.specs.Fmt.{decimal, signed_decimal}
use Rattle.std.specs.Str.Parse.{AllDigits}
use Rattle.std.proofs.lemmas.Bool.{cases_eq}
use Rattle.std.proofs.lemmas.Fmt.{decimal_is_IsNumeral_wide}
use Rattle.std.proofs.lemmas.Str.Parse.{digit_from_value}
use mir.Val.{to_z, of_z}
use Rattle.std.proofs.lemmas.Int.{to_z-of_z}
use Rattle.field_core.specs.Texts.{fraction_text}
use Rattle.study_sqlite.specs.Parts.{HasNoSlash}
use Rattle.fraction.proofs.ReadBack.{other_text}

-- ---- one way to cut

pub heads : (b c : ℕ) (x y : List ℕ) → b ∷ x ≡ c ∷ y → (b ≡ c) × (x ≡ y)
heads b c x y e = ((cc), (cc))

slash_within : (xs ys : List ℕ) → ¬ HasNoSlash (xs ++ 47 ∷ ys)
slash_within [] ys h = h.0 refl
slash_within (x ∷ xs) ys h = slash_within xs ys h.1

cut_once : (a b c d : List ℕ) → HasNoSlash a → HasNoSlash c → a ++ 47 ∷ b ≡ c ++ 47 ∷ d → (a ≡ c) × (b ≡ d)
cut_once [] b [] d h k e = (refl, (heads 47 47 b d e).1)
cut_once [] b (y ∷ c) d h k e = absurd (k.0 (sym (heads 47 y b (c ++ 47 ∷ d) e).0))
cut_once (x ∷ a) b [] d h k e = absurd (h.0 (heads x 47 (a ++ 47 ∷ b) d e).0)
cut_once (x ∷ a) b (y ∷ c) d h k e =
    let both = heads x y (a ++ 47 ∷ b) (c ++ 47 ∷ d) e in
    let rest = cut_once a b c d h.1 k.1 both.1 in
    (ap₂ (λ (z : ℕ) (zs : List ℕ). z ∷ zs) both.0 rest.0, rest.1)

-- ---- printed numbers have none

digits_plain : (ds : List ℕ) → AllDigits 10 ds → HasNoSlash ds
digits_plain [] h = tt
digits_plain (d ∷ ds) h = ((λ e. let r = digit_from_value d h.0 in omega arith), digits_plain ds h.1)

pub number_plain : (z : ℤ) → FitsSigned w128 z → HasNoSlash (signed_decimal z)
number_plain (pos n) f = digits_plain (decimal n) (decimal_is_IsNumeral_wide n (omega (arith, f.sfits))).0.1
number_plain (negsuc n) f = ((λ e. omega arith), digits_plain (decimal (suc n)) (decimal_is_IsNumeral_wide (suc n) (omega (arith, f.sfits))).0.1)

-- ---- printed fractions

-- the two forms of a printed fraction
pub whole_form : (n d : ℤ) → d ≡ pos 1 → fraction_text n d ≡ signed_decimal n
whole_form n d e = rw e refl

pub one_or_not : (d : ℤ) → (d ≡ pos 1) ⊎ (d ≡ pos 1 → ⊥)
one_or_not (pos n) = elim (cases_eq n 1) [ inl e ↦ inl (ap pos e) | inr h ↦ inr (λ e. h (cc)) ]
one_or_not (negsuc n) = inr (λ e. (cc))

-- what is cut at no slash is a printed whole number
pub whole_only : (n d : ℤ) (over : List ℕ) → HasNoSlash over → over ≡ fraction_text n d → (d ≡ pos 1) × (over ≡ signed_decimal n)
whole_only n d over plain is =
    elim (one_or_not d) [
      | inl e ↦ (e, is ∙ whole_form n d e)
      | inr h ↦ absurd (slash_within (signed_decimal n) (signed_decimal d) (subst HasNoSlash (is ∙ other_text n d h) plain))
    ]

-- what is cut at a slash is a pair of printed numbers
pub pair_only : (n d : ℤ) (over under : List ℕ) → FitsSigned w128 n → HasNoSlash over → over ++ 47 ∷ under ≡ fraction_text n d
    → (d ≡ pos 1 → ⊥) × (over ≡ signed_decimal n) × (under ≡ signed_decimal d)
pair_only n d over under fits plain is =
    elim (one_or_not d) [
      | inl e ↦ absurd (slash_within over under (subst HasNoSlash (sym (is ∙ whole_form n d e)) (number_plain n fits)))
      | inr h ↦ (let both = cut_once over under (signed_decimal n) (signed_decimal d) plain (number_plain n fits) (is ∙ other_text n d h) in
          (h, both.0, both.1))
    ]

-- in both forms the numerator is in front
pub front_only : {T : Type 0} (now : T → List ℕ) (n d : ℤ) (text over : List ℕ) (under : Option T) → FitsSigned w128 n → HasNoSlash over
    → MatchOption under (text ≡ over) (λ u. text ≡ over ++ 47 ∷ now u) → text ≡ fraction_text n d → over ≡ signed_decimal n
front_only now n d text over None fits plain cut is = (whole_only n d over plain (sym cut ∙ is)).1
front_only now n d text over (Some u) fits plain cut is = (pair_only n d over (now u) fits plain (sym cut ∙ is)).1

-- a number that is read twice is one number, also as the machine holds it
held : (m n : ℤ) → FitsSigned w128 n → Some m ≡ Some n → to_z w128 (of_z w128 m) ≡ n
held m n fits e = let same : m ≡ n = cc in ap (λ z. to_z w128 (of_z w128 z)) same ∙ to_z-of_z w128 n fits

pub whole_parts : (m n d : ℤ) → FitsSigned w128 n → Some m ≡ Some n → d ≡ pos 1
    → ◌≡◌ {A = Option (ℤ × ℤ)} (Some (to_z w128 (of_z w128 m), pos 1)) (Some (n, d))
whole_parts m n d fits e one = ap₂ (λ a b. Some (a, b)) (held m n fits e) (sym one)

pub pair_parts : (m n c d : ℤ) → FitsSigned w128 n → FitsSigned w128 d → Some m ≡ Some n → Some c ≡ Some d
    → ◌≡◌ {A = Option (ℤ × ℤ)} (Some (to_z w128 (of_z w128 m), to_z w128 (of_z w128 c))) (Some (n, d))
pair_parts m n c d fits den e f = ap₂ (λ a b. Some (a, b)) (held m n fits e) (held c d den f)
