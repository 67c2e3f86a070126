-- What lies from 0 to 1, by a comparison and a sign.
use Rattle.std.proofs.Common.{◌≡◌, ◌∙◌, ap, true, false, Ok, is_lt, is_gt}
use Rattle.std.proofs.lemmas.Result.{IfOk-at_ok}
use Rattle.std.specs.declared.cmp.Ordering.{Ordering}
use Rattle.std.specs.declared.cmp.Ordering.TheVariants.{Less, Greater}
use Rattle.field_core.specs.Kind.{Parts, sign_of}
use Rattle.field_core.specs.Arithmetic.{number_one, number_sign, number_compare}
use Rattle.field_core.specs.Exact.{value_of}
use Rattle.field_core.specs.LimitParts.{IsUnit}
use Rattle.field_core.specs.Laws.AtMostLaws.{compare-at_most}
use Rattle.field_core.specs.Laws.NumberFieldLaws.{at_most_in}
use Rattle.field_core.specs.Laws.Order.{nonneg_out}
use Rattle.eps_quotient.specs.Lowering.{one_quotient}
use Rattle.eps_quotient.specs.Quotients.{quotients}
use Rattle.eps_quotient.specs.Stored.{IsQuotient}
use Rattle.eps_quotient.specs.Laws.Exact.{quotients_are_exact}

not_less : (o p : Ordering) → o ≡ p → is_lt o ≡ false → ¬ (p ≡ Less)
not_less o p e f h = let g : is_lt o ≡ true = ap is_lt (e ∙ h) in cc

not_greater : (o p : Ordering) → o ≡ p → is_gt o ≡ false → ¬ (p ≡ Greater)
not_greater o p e f h = let g : is_gt o ≡ true = ap is_gt (e ∙ h) in cc

pub unit_by_tests : (x one : Parts) (order sign : Ordering) → IsQuotient x → IsQuotient one → one ≡ one_quotient
    → quotients.compare x one ≡ Ok order → is_gt order ≡ false → sign ≡ sign_of x → is_lt sign ≡ false → IsUnit (value_of x)
unit_by_tests x one order sign s t e f g h l =
    let o : order ≡ number_compare (value_of x) (value_of one) =
    IfOk-at_ok (λ o. o ≡ number_compare (value_of x) (value_of one)) f (quotients_are_exact.compare x one s t) in
    record {
      low = at_most_in _ (value_of x) (nonneg_out (value_of x) (not_less sign (number_sign (value_of x)) (h ∙ quotients_are_exact.sign x s) l));
      high = compare-at_most (value_of x) number_one
          (not_greater order (number_compare (value_of x) number_one)
          (o ∙ ap (λ v. number_compare (value_of x) v) (ap value_of e ∙ quotients_are_exact.one_value)) g);
    }
