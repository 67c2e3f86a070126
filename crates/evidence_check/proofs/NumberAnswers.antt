-- Texts are read as numbers.
use Rattle.std.proofs.Common.{◌≡◌, refl, sym, ap, ℕ, Bool, true, false, List, Option, Some, None, Result, Ok, Err, inl, inr, arith}
use Rattle.std.specs.Prelude.{◌≢◌, ◌==◌, ◌↔◌, ◌||◌, ◌^◌, ◌≤◌, ℤ, pos, IfOk, if◌then◌else◌, nat_le, unsigned_abs, option_and_then}
use Rattle.std.specs.Bool.{Decides}
use Rattle.std.specs.List.{list_any}
use Rattle.std.specs.Option.{option_map}
use Rattle.std.specs.Result.{result_ok}
use Rattle.std.proofs.lemmas.Bool.Decides.{Decides-or, leb_tells}
use Rattle.std.proofs.lemmas.Option.{option_and_then_some}
use Rattle.field_core.specs.Kind.{Parts, is_zero_integer}
use Rattle.field_core.specs.Terms.{Terms}
use Rattle.fraction.specs.declared.fraction.Fraction.{Fraction}
use Rattle.fraction.specs.declared.fault.FractionFault.{FractionFault}
use Rattle.fraction.specs.declared.fault.FractionFault.TheVariants.{ZeroDenominator, TooWide}
use Rattle.numerals.specs.Lowest.{lowest_terms, HasWidePart}
use Rattle.fraction.specs.Plain.{single, fraction_parts}
use Rattle.fraction.specs.View.{terms_of}
use Rattle.eps_quotient.specs.Texts.{quotient_in}
use Rattle.evidence_check.specs.NumberReading.{has_wide_part, fraction_by, constant_fraction, fraction_of_text}
use Rattle.field_core.proofs.Wholes.{is_zero_true, is_zero_false}

-- ---- the fraction of two whole numbers

at_most : (a b : ℕ) → Decides (nat_le a b) (a ≤ b)
at_most a b = elim (leb_tells a b) [
  | inl h ↦ (λ _. h.1, λ _. h.0)
  | inr h ↦ (λ t. absurd (cc), λ l. absurd (omega arith))
]

wide_decides : (x : Terms) → Decides (has_wide_part x) (HasWidePart x)
wide_decides x = Decides-or (nat_le (2 ^ 127) (unsigned_abs x.num)) (nat_le (2 ^ 127) (unsigned_abs x.den)) (at_most (2 ^ 127) (unsigned_abs x.num))
    (at_most (2 ^ 127) (unsigned_abs x.den))

no_longer : (b : Bool) → b ≡ false → b ≡ true → ⊥
no_longer b e f = cc

-- it is their quotient in lowest terms
pub fraction_some : (n d : ℤ) → d ≢ pos 0 → ¬ HasWidePart (lowest_terms n d) → fraction_by n d ≡ Some (single (lowest_terms n d))
unfolding fraction_by
fraction_some n d some short = by (is_zero_integer d) refl (has_wide_part (lowest_terms n d)) refl
  where
    by : (a : Bool) → is_zero_integer d ≡ a → (b : Bool) → has_wide_part (lowest_terms n d) ≡ b
        → (if a || b then None else Some (single (lowest_terms n d))) ≡ Some (single (lowest_terms n d))
    by true e b f = absurd (some (is_zero_true d e))
    by false e true f = absurd (short ((wide_decides (lowest_terms n d)).0 f))
    by false e false f = refl

-- the second isn't 0, and no part is wide
pub fraction_is : (n d : ℤ) (x : Parts) → fraction_by n d ≡ Some x → (d ≢ pos 0) × (¬ HasWidePart (lowest_terms n d)) × (single (lowest_terms n d) ≡ x)
unfolding fraction_by
fraction_is n d x e = by (is_zero_integer d) refl (has_wide_part (lowest_terms n d)) refl e
  where
    by : (a : Bool) → is_zero_integer d ≡ a → (b : Bool) → has_wide_part (lowest_terms n d) ≡ b
        → (if a || b then None else Some (single (lowest_terms n d))) ≡ Some x
        → (d ≢ pos 0) × (¬ HasWidePart (lowest_terms n d)) × (single (lowest_terms n d) ≡ x)
    by true z b w e = absurd (cc)
    by false z true w e = absurd (cc)
    by false z false w e = (
      is_zero_false d z,
      λ h. no_longer (has_wide_part (lowest_terms n d)) w ((wide_decides (lowest_terms n d)).1 h),
      cc,
    )

-- the fraction of whole numbers, by their quotient in lowest terms or why there is none
pub fraction_made : (n d : ℤ) (r : Result Fraction FractionFault) → IfOk r (λ x. terms_of x ≡ lowest_terms n d)
    → (r ≡ Err ZeroDenominator) ↔ (d ≡ pos 0) → (r ≡ Err TooWide) ↔ ((d ≢ pos 0) × HasWidePart (lowest_terms n d))
    → option_map fraction_parts (result_ok r) ≡ fraction_by n d
unfolding fraction_by
fraction_made n d r lowest zero wide = by r lowest zero wide (is_zero_integer d) refl (has_wide_part (lowest_terms n d)) refl
  where
    by : (r : Result Fraction FractionFault) → IfOk r (λ x. terms_of x ≡ lowest_terms n d) → (r ≡ Err ZeroDenominator) ↔ (d ≡ pos 0)
        → (r ≡ Err TooWide) ↔ ((d ≢ pos 0) × HasWidePart (lowest_terms n d)) → (a : Bool) → is_zero_integer d ≡ a → (b : Bool)
        → has_wide_part (lowest_terms n d) ≡ b
        → option_map fraction_parts (result_ok r) ≡ (if a || b then None else Some (single (lowest_terms n d)))
    by (Ok x) l z w true e b f = absurd (let k = z.1 (is_zero_true d e) in cc)
    by (Ok x) l z w false e true f = absurd (let k = w.1 (is_zero_false d e, (wide_decides (lowest_terms n d)).0 f) in cc)
    by (Ok x) l z w false e false f = ap (λ t. Some (single t)) l
    by (Err ZeroDenominator) l z w true e b f = refl
    by (Err ZeroDenominator) l z w false e b f = absurd (is_zero_false d e (z.0 refl))
    by (Err TooWide) l z w true e b f = refl
    by (Err TooWide) l z w false e true f = refl
    by (Err TooWide) l z w false e false f = absurd (no_longer (has_wide_part (lowest_terms n d)) f ((wide_decides (lowest_terms n d)).1 (w.0 refl).1))

-- ---- fractions of texts

-- the fraction of a text without brackets is that of its quotient
pub plain_read : (text : List ℕ) (q : Option Parts) → list_any (λ b. b == 91) text ≡ false → q ≡ quotient_in text
    → fraction_of_text text ≡ option_and_then constant_fraction q
unfolding fraction_of_text
plain_read text q e f = rw (e, sym f) refl

pub plain_not : (text : List ℕ) → list_any (λ b. b == 91) text ≡ true → None ≡ fraction_of_text text
unfolding fraction_of_text
plain_not text e = rw e refl

-- a text that denotes a fraction denotes a quotient, of which it is the fraction
pub plain_is : (text : List ℕ) (x : Parts) → fraction_of_text text ≡ Some x → (y : Parts) × (constant_fraction y ≡ Some x)
unfolding fraction_of_text
plain_is text x e = by (list_any (λ b. b == 91) text) e
  where
    by : (t : Bool) → (if t then None else option_and_then constant_fraction (quotient_in text)) ≡ Some x → (y : Parts) × (constant_fraction y ≡ Some x)
    by true e = absurd (cc)
    by false e = option_and_then_some constant_fraction (quotient_in text) x e (λ y h f. (y, f))
