-- Written sums that aren't refused are exact.
use Rattle.std.specs.Option.{option_map}
use Rattle.std.proofs.Common.{◌≡◌, refl, sym, ap, ap₂, ◌∙◌, subst, ℕ, zero, suc, Some}
use Rattle.field_core.specs.Terms.{Terms, IsReduced}
use Rattle.field_core.specs.View.{terms}
use Rattle.field_core.specs.declared.ratio.Ratio.{Ratio}
use Rattle.field_core.specs.Exact.{value_of, MayTake, exact_result}
use Rattle.field_core.specs.Number.{Number}
use Rattle.field_core.specs.NumberField.{number_field}
use Rattle.field_core.specs.Sums.{sum_below}
use Rattle.field_core.specs.declared.place.Op.{Op}
use Rattle.field_core.specs.declared.place.Op.TheVariants.{Add}
use Rattle.fraction.specs.Plain.{single, IsFraction, written_pair, zero_reduced}
use Rattle.fraction.specs.Laws.PlainLaws.{plain_is_exact}
use Rattle.fraction.specs.View.{number_of}
use Rattle.fraction.specs.Laws.WrittenLaws.{bind_some}
use Rattle.case_model.specs.Sums.{number, zero_terms, written_sum}
use Rattle.field_core.specs.Laws.NumberFieldLaws.{field_zero, field_sum}

pub stored_single : (t : Terms) → IsReduced t → IsFraction (single t)
stored_single t r = record { reduced = r; shape = refl }

pub value_single : (t : Terms) → value_of (single t) ≡ number t
unfolding value_of
value_single t = refl

-- in lowest terms, with this value
pub record Has (t : Terms) (v : Number) : Type 0 where
  pub reduced : IsReduced t
  pub value : number t ≡ v

-- a written operation that isn't refused is exact
pub written_has : (op : Op) (x y z : Terms) (u v : Number) → MayTake op (single y) → Has x u → Has y v → written_pair op x y ≡ Some z
    → Has z (exact_result op u v)
written_has op x y z u v may p q e =
    let e' = ap (option_map single) e in
    let sx = stored_single x p.reduced in
    let sy = stored_single y q.reduced in
    record {
      reduced = (plain_is_exact.stored op (single x) (single y) (single z) sx sy may e').reduced;
      value = sym (value_single z) ∙ plain_is_exact.exact op (single x) (single y) (single z) sx sy may e'
          ∙ ap₂ (exact_result op) (value_single x ∙ p.value) (value_single y ∙ q.value);
    }

pub has_zero : Has zero_terms number_field.𝟘
has_zero = record { reduced = zero_reduced; value = sym (value_single zero_terms) ∙ plain_is_exact.zero_value ∙ sym field_zero }

-- a written sum that isn't refused is reduced, and has the value of the sum
abbrev pub IsSum : (n : ℕ) (f : ℕ → Ratio) (s : Terms) → Type 0
IsSum n f s = Has s (sum_below number_field n (λ i. number_of (f i)))

start : (f : ℕ → Ratio) (s : Terms) → written_sum 0 f ≡ Some s → IsSum 0 f s
unfolding written_sum sum_below
start f s e = let same : zero_terms ≡ s = cc in subst (λ t. Has t number_field.𝟘) same has_zero

pub exact_sum : (n : ℕ) (f : ℕ → Ratio) (s : Terms) → written_sum n f ≡ Some s → IsSum n f s
unfolding written_sum sum_below
exact_sum zero f s e = start f s e
exact_sum (suc n) f s e =
    let step = bind_some _ _ s e in
    let before = exact_sum n f step.0 step.1.0 in
    let last : Has (terms (f n)) (number_of (f n)) = record { reduced = (f n).valid; value = refl } in
    subst (Has s) (sym (field_sum _ _)) (written_has Add step.0 (terms (f n)) s _ _ tt before last step.1.1)
