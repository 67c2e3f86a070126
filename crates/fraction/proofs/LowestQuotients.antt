-- Quotients of whole numbers in lowest terms.
use Rattle.std.proofs.Common.{◌≡◌, ◌≢◌, ℕ, ◌-◌, ◌/◌, ◌<◌, ◌≤◌, ◌^◌, ◌⊎◌, inl, inr, Bool, true, false, refl, sym, ap}
use Rattle.std.proofs.Common.{◌∙◌, arith, ℤ, pos, unsigned_abs, FitsSigned, to_z, of_z, Result, Ok, Err}
use Rattle.std.proofs.lemmas.Int.{ints, to_z-of_z}
use Rattle.std.specs.Int.{w128, is_negative}
use mathlib.Core.Bool.{not, beq}
use Rattle.field_core.specs.Divisor.{gcd}
use Rattle.field_core.specs.Terms.{Terms}
use Rattle.field_core.specs.Fractions.{fraction}
use Rattle.field_core.specs.Laws.FractionLaws.{fraction-equal}
use Rattle.field_core.specs.View.{terms}
use Rattle.field_core.specs.declared.ratio.Ratio.{Ratio}
use Rattle.numerals.specs.Numeral.{with_sign}
use Rattle.numerals.specs.Lowest.{lowest_of, differ, lowest_terms, HasWidePart}
use Rattle.numerals.proofs.LowestTerms.{abs_sign, lowest_cross}
use Rattle.fraction.specs.declared.fault.FractionFault.{FractionFault}
use Rattle.fraction.specs.declared.fault.FractionFault.TheVariants.{ZeroDenominator, TooWide}
use Rattle.fraction.specs.Quotients.{IsLowest}
use Rattle.field_core.proofs.Wholes.{size_none}

differ_is : (a b : Bool) → not (beq a b) ≡ differ a b
differ_is true true = refl
differ_is true false = refl
differ_is false true = refl
differ_is false false = refl

-- What is read of two whole numbers: their signs, their sizes, and the sizes without common divisors.
pub record AreRead (n d : ℤ) (below turned : Bool) (over under p q : ℕ) : Type 0 where
  pub below_is : below ≡ is_negative n
  pub turned_is : turned ≡ is_negative d
  pub over_is : over ≡ unsigned_abs n
  pub under_is : under ≡ unsigned_abs d
  pub first : p ≡ over / gcd over under
  pub second : q ≡ under / gcd over under

pub are_read : (n d : ℤ) (below turned : Bool) (over under p q : ℕ) → FitsSigned w128 n → FitsSigned w128 d
    → below ≡ is_negative (to_z w128 (of_z w128 n)) → turned ≡ is_negative (to_z w128 (of_z w128 d)) → over ≡ unsigned_abs (to_z w128 (of_z w128 n))
    → under ≡ unsigned_abs (to_z w128 (of_z w128 d)) → p ≡ over / gcd over under → q ≡ under / gcd over under
    → AreRead n d below turned over under p q
are_read n d below turned over under p q f g b t o u first second = record {
  below_is = b ∙ ap is_negative (to_z-of_z w128 n f);
  turned_is = t ∙ ap is_negative (to_z-of_z w128 d g);
  over_is = o ∙ ap unsigned_abs (to_z-of_z w128 n f);
  under_is = u ∙ ap unsigned_abs (to_z-of_z w128 d g);
  first = first;
  second = second;
}

terms_read : (n d : ℤ) (below turned : Bool) (over under p q : ℕ) → AreRead n d below turned over under p q
    → lowest_terms n d ≡ record { num = with_sign (not (beq below turned)) p; den = pos q }
unfolding lowest_terms lowest_of
terms_read n d below turned over under p q r = rw (r.first, r.second, r.over_is, r.under_is, r.below_is, r.turned_is, differ_is) refl

apart_from_zero : (d : ℤ) (under : ℕ) → under ≡ unsigned_abs d → ¬ (under ≡ 0) → d ≢ pos 0
apart_from_zero d under e h f = h (e ∙ ap unsigned_abs f)

pub no_denominator : (n d : ℤ) (under : ℕ) → under ≡ unsigned_abs d → under ≡ 0 → IsLowest n d (Err ZeroDenominator)
unfolding IsLowest
no_denominator n d under e h = size_none d (sym e ∙ h)

pub too_wide : (n d : ℤ) (below turned : Bool) (over under p q : ℕ) → AreRead n d below turned over under p q → ¬ (under ≡ 0) → (2 ^ 127 - 1 < p)
    ⊎ (2 ^ 127 - 1 < q) → IsLowest n d (Err TooWide)
unfolding IsLowest
too_wide n d below turned over under p q r some h = (
  apart_from_zero d under r.under_is some,
  rw (terms_read n d below turned over under p q r)
      (elim h [ inl e ↦ inl (rw abs_sign (omega arith)) | inr e ↦ inr (omega arith) ]),
)

pub in_lowest : (n d : ℤ) (below turned : Bool) (over under p q : ℕ) (x : Ratio) → AreRead n d below turned over under p q → ¬ (under ≡ 0)
    → p ≤ 2 ^ 127 - 1 → q ≤ 2 ^ 127 - 1 → terms x ≡ record { num = with_sign (not (beq below turned)) p; den = pos q } → IsLowest n d (Ok x)
unfolding IsLowest
in_lowest n d below turned over under p q x r some h k e =
    let same : lowest_terms n d ≡ record { num = with_sign (not (beq below turned)) p; den = pos q } = terms_read n d below turned over under p q r in (
      apart_from_zero d under r.under_is some,
      (rw same (λ w. elim w [ inl f ↦ (let g = rw abs_sign at f in omega arith) | inr f ↦ omega arith ]), e ∙ sym same),
    )

-- ---- what a quotient says

pub from_machine : (n d : ℤ) (r : Result Ratio FractionFault) → FitsSigned w128 n → FitsSigned w128 d
    → IsLowest (to_z w128 (of_z w128 n)) (to_z w128 (of_z w128 d)) r → IsLowest n d r
from_machine n d r f g h = rw (to_z-of_z w128 n f, to_z-of_z w128 d g) at h

pub ok_lowest : (n d : ℤ) (x : Ratio) → IsLowest n d (Ok x) → terms x ≡ lowest_terms n d
unfolding IsLowest
ok_lowest n d x h = h.1.1

pub ok_value : (n d : ℤ) (x : Ratio) → IsLowest n d (Ok x) → fraction x.num x.den ≡ fraction n d
unfolding IsLowest
ok_value n d x h =
    let num : x.num ≡ (lowest_terms n d).num = ap (λ (t : Terms). t.num) h.1.1 in
    let den : x.den ≡ (lowest_terms n d).den = ap (λ (t : Terms). t.den) h.1.1 in
    let some : ¬ (x.den ≡ pos 0) = (λ e. let p = x.valid.positive in omega (arith, ints)) in
    fraction-equal x.num x.den n d some h.0 (rw (num, den) (lowest_cross n d))

-- a result of the same kind, with other values
pub SameKind : {A : Type 0} → Result A FractionFault → Result Ratio FractionFault → Type 0
SameKind r q = (f : FractionFault) → (r ≡ Err f → q ≡ Err f) × (q ≡ Err f → r ≡ Err f)

pub kind_ok : {A : Type 0} (x : A) (y : Ratio) → SameKind (Ok x) (Ok y)
unfolding SameKind
kind_ok x y f = ((λ e. absurd cc), (λ e. absurd cc))

pub kind_err : {A : Type 0} (r : Result A FractionFault) (f g : FractionFault) → r ≡ Err g → g ≡ f → SameKind r (Err f)
unfolding SameKind
kind_err r f g e k h = ((λ q. (cc)), (λ q. (cc)))

zero_by : (n d : ℤ) (q : Result Ratio FractionFault) → IsLowest n d q → (q ≡ Err ZeroDenominator → d ≡ pos 0)
    × (d ≡ pos 0 → q ≡ Err ZeroDenominator)
unfolding IsLowest
zero_by n d (Ok x) h = ((λ e. absurd cc), (λ e. absurd (h.0 e)))
zero_by n d (Err ZeroDenominator) h = ((λ e. h), (λ e. refl))
zero_by n d (Err TooWide) h = ((λ e. absurd cc), (λ e. absurd (h.0 e)))

wide_by : (n d : ℤ) (q : Result Ratio FractionFault) → IsLowest n d q → (q ≡ Err TooWide → (d ≢ pos 0) × HasWidePart (lowest_terms n d))
    × ((d ≢ pos 0) × HasWidePart (lowest_terms n d) → q ≡ Err TooWide)
unfolding IsLowest
wide_by n d (Ok x) h = ((λ e. absurd cc), (λ w. absurd (h.1.0 w.1)))
wide_by n d (Err ZeroDenominator) h = ((λ e. absurd cc), (λ w. absurd (w.0 h)))
wide_by n d (Err TooWide) h = ((λ e. h), (λ w. refl))

-- what each fault of such a result says
pub zero_fault : {A : Type 0} (n d : ℤ) (r : Result A FractionFault) (q : Result Ratio FractionFault) → SameKind r q → IsLowest n d q
    → (r ≡ Err ZeroDenominator → d ≡ pos 0) × (d ≡ pos 0 → r ≡ Err ZeroDenominator)
unfolding SameKind
zero_fault n d r q k h = ((λ e. (zero_by n d q h).0 ((k ZeroDenominator).0 e)), (λ e. (k ZeroDenominator).1 ((zero_by n d q h).1 e)))

pub wide_fault : {A : Type 0} (n d : ℤ) (r : Result A FractionFault) (q : Result Ratio FractionFault) → SameKind r q → IsLowest n d q
    → (r ≡ Err TooWide → (d ≢ pos 0) × HasWidePart (lowest_terms n d)) × ((d ≢ pos 0) × HasWidePart (lowest_terms n d) → r ≡ Err TooWide)
unfolding SameKind
wide_fault n d r q k h = ((λ e. (wide_by n d q h).0 ((k TooWide).0 e)), (λ e. (k TooWide).1 ((wide_by n d q h).1 e)))
