use Rattle.std.proofs.Common.{ap, ◌∙◌, not, length, Some, Ok, Err, Result}
use Rattle.field_core.specs.Order.{at_most}
use Rattle.field_core.specs.Arithmetic.{◌*ε◌}
use Rattle.field_core.specs.Kind.{or_wide}
use Rattle.field_core.specs.NumberField.{number_field}
use Rattle.field_core.specs.Steps.{placed, in_component}
use Rattle.field_core.specs.Sums.{sum_below}
use Rattle.field_core.specs.Terms.{Terms}
use Rattle.field_core.specs.View.{terms}
use Rattle.field_core.specs.declared.place.Op.TheVariants.{Add, Mul}
use Rattle.field_core.specs.declared.place.Place.TheVariants.{SpendSum as AtSpendSum}
use Rattle.field_core.specs.declared.place.TooWide.{TooWide}
use Rattle.field_core.specs.declared.place.Wide.{Wide}
use Rattle.fraction.specs.View.{number_of}
use Rattle.fraction.specs.Written.{written_mul}
use Rattle.case_model.specs.declared.fault.CaseFault.TheVariants.{SpendSum, Wide as TooWideSum}
use Rattle.case_model.specs.Sums.{ratio_at, number_at}
use Rattle.case_model.specs.CaseFaults.{◌when◌, sum_and_bound_fault, step_sum}
use Rattle.case_model.proofs.Comparisons.{above_is}
use Rattle.case_model.proofs.ExactSums.{exact_sum}
use Rattle.case_model.proofs.Products.{product_in_terms, product_value}
use Rattle.case_model.proofs.Totals.{fault_written, fault_refused}
use Rattle.case_model.proofs.Wide.{some_from}
use Rattle.case_model.proofs.spend_step.SpendStep.sum_fault.Goals as goal

pub returns-in-Err : goal.returns-in-Err
unfolding step_sum
returns-in-Err c =
    let s = c.args.self.now in
    ap (λ w. Some (TooWideSum w)) (c.in_component.ensures ∙ ap (λ (w : Wide). record { component = 0; place = w.place; op = w.op }) c.at.ensures)
    ∙ ap (λ r. sum_and_bound_fault (in_component 0 (placed (AtSpendSum c.args.i) r))
    (in_component 0 (placed (AtSpendSum c.args.i) (or_wide Mul (written_mul (terms s.from) (terms c.args.alpha.now)))))
    (sum_below number_field (length s.levels) (number_at s.levels)) (number_of s.from *ε number_of c.args.alpha.now) (SpendSum c.args.i)) c.in-Err.ensures

pub returns-in-Ok-mul : goal.returns-in-Ok-mul
unfolding step_sum
returns-in-Ok-mul c =
    let s = c.args.self.now in
    let i = c.args.i in
    let alpha = c.args.alpha.now in
    let sum = c.in-Ok.sum in
    let most = c.in-Ok-mul.bound in
    let value = sum_below number_field (length s.levels) (number_at s.levels) in
    let bound = number_of s.from *ε number_of alpha in
    let product : Path (Result Terms TooWide) (Ok (terms most)) (or_wide Mul (written_mul (terms s.from) (terms alpha))) =
    product_in_terms s.from alpha (Ok most) c.in-Ok-mul.ensures in
    let exact = exact_sum (length s.levels) (ratio_at s.levels) (terms sum) (some_from Add (terms sum) _ c.in-Ok.ensures) in
    c.then_some.ensures ∙ ap (λ b. SpendSum i when b) (c.gt.ensures ∙ above_is sum most)
    ∙ ap (λ y. SpendSum i when not (at_most (number_of sum) y)) (product_value s.from alpha most product)
    ∙ fault_written (or_wide Mul (written_mul (terms s.from) (terms alpha))) value bound 0 (AtSpendSum i) (SpendSum i) (terms most)
    (number_of sum) product exact.value
    ∙ ap (λ r. sum_and_bound_fault (in_component 0 (placed (AtSpendSum i) r))
    (in_component 0 (placed (AtSpendSum i) (or_wide Mul (written_mul (terms s.from) (terms alpha))))) value bound (SpendSum i)) c.in-Ok.ensures

pub returns-in-Err-mul : goal.returns-in-Err-mul
unfolding step_sum
returns-in-Err-mul c =
    let s = c.args.self.now in
    let i = c.args.i in
    let alpha = c.args.alpha.now in
    let value = sum_below number_field (length s.levels) (number_at s.levels) in
    let bound = number_of s.from *ε number_of alpha in
    let refused : Path (Result Terms TooWide) (Err c.in-Err-mul.wide) (or_wide Mul (written_mul (terms s.from) (terms alpha))) =
    product_in_terms s.from alpha (Err c.in-Err-mul.wide) c.in-Err-mul.ensures in
    ap (λ w. Some (TooWideSum w))
    (c.in_component-in-Err-mul.ensures ∙ ap (λ (w : Wide). record { component = 0; place = w.place; op = w.op }) c.at-in-Err-mul.ensures)
    ∙ fault_refused (or_wide Mul (written_mul (terms s.from) (terms alpha))) value bound 0 (AtSpendSum i) (SpendSum i) c.in-Err-mul.wide refused
    ∙ ap (λ r. sum_and_bound_fault (in_component 0 (placed (AtSpendSum i) r))
    (in_component 0 (placed (AtSpendSum i) (or_wide Mul (written_mul (terms s.from) (terms alpha))))) value bound (SpendSum i)) c.in-Ok.ensures
