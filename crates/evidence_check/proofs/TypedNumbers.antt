-- The numbers of texts are those that evidence holds.
use Rattle.std.proofs.Common.{◌≡◌, inl, inr, refl, ℕ, ◌<◌, List, Some}
use Rattle.std.specs.Prelude.{◌^◌, ℤ, unsigned_abs}
use Rattle.field_core.specs.Kind.{Parts}
use Rattle.field_core.specs.Polynomial.{coefficient}
use Rattle.field_core.specs.Terms.{Terms, IsReduced}
use Rattle.field_core.specs.declared.ratio.Ratio.{Ratio}
use Rattle.field_core.proofs.Positions.{below_or_above}
use Rattle.numerals.specs.Lowest.{lowest_terms, HasWidePart}
use Rattle.fraction.specs.Plain.{fraction_parts}
use Rattle.numerals.proofs.LowestTerms.{lowest_are}
use Rattle.eps_quotient.specs.declared.quotient.EpsQuotient.{EpsQuotient}
use Rattle.eps_quotient.specs.View.{quotient_parts}
use Rattle.eps_quotient.specs.Stored.{IsQuotient}
use Rattle.eps_quotient.specs.Laws.Exact.{some_below}
use Rattle.eps_quotient.proofs.TextsHeld.{quotient_held}
use Rattle.case_numbers.specs.Numbers.{in_fractions, in_quotients}
use Rattle.evidence_check.specs.NumberReading.{fraction_by, number_in_text}
use Rattle.evidence_check.proofs.NumberAnswers.{fraction_is, plain_is}

-- ---- fractions

-- a part that isn't wide is within its size
within : (t : Terms) → ¬ HasWidePart t → (unsigned_abs t.num < 2 ^ 127) × (unsigned_abs t.den < 2 ^ 127)
within t short = (
  elim (below_or_above (unsigned_abs t.num) (2 ^ 127)) [ inl h ↦ h | inr w ↦ absurd (short (inl w)) ],
  elim (below_or_above (unsigned_abs t.den) (2 ^ 127)) [ inl h ↦ h | inr w ↦ absurd (short (inr w)) ],
)

constant_held : (n d : ℤ) (x : Parts) → fraction_by n d ≡ Some x → (z : Ratio) × (fraction_parts z ≡ x)
constant_held n d x e =
    let h = fraction_is n d x e in
    let t = lowest_terms n d in
    let low = lowest_are n d h.0 in
    let sizes = within (lowest_terms n d) h.1 in
    let valid : IsReduced t = record { positive = low.positive; num_size = sizes.0; den_size = sizes.1; reduced = low.apart } in
    (record { num = t.num; den = t.den; valid = valid }, h.2)

pub fraction_found : (text : List ℕ) (x : Parts) → number_in_text in_fractions text ≡ Some x → (z : Ratio) × (fraction_parts z ≡ x)
fraction_found text x e =
    let h = plain_is text x e in
    constant_held (coefficient h.0.numerator 0) (coefficient h.0.denominator 0) x h.1

-- ---- quotients

quotient_with : (x : Parts) → IsQuotient x → EpsQuotient
quotient_with x s = record { pair = record { numerator = x.numerator; denominator = x.denominator; some = some_below x s }; stored = s }

-- a stored quotient is one of the program's
pub held_quotient : (x : Parts) → IsQuotient x → (z : EpsQuotient) × (quotient_parts z ≡ x)
unfolding quotient_with
held_quotient x s = (quotient_with x s, refl)

pub quotient_found : (text : List ℕ) (x : Parts) → number_in_text in_quotients text ≡ Some x → (z : EpsQuotient) × (quotient_parts z ≡ x)
quotient_found text x e = held_quotient x (quotient_held text x e)
