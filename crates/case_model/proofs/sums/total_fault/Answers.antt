use Rattle.std.proofs.Common.{ap, ◌∙◌, length, Ok, Err, Result, Some}
use Rattle.field_core.specs.Terms.{Terms}
use Rattle.field_core.specs.Kind.{or_wide}
use Rattle.field_core.specs.NumberField.{number_field}
use Rattle.field_core.specs.Arithmetic.{number_one}
use Rattle.field_core.specs.Sums.{sum_below}
use Rattle.field_core.specs.View.{terms}
use Rattle.field_core.specs.declared.place.Op.TheVariants.{Add}
use Rattle.field_core.specs.declared.place.TooWide.{TooWide}
use Rattle.field_core.specs.declared.place.Wide.{Wide}
use Rattle.fraction.specs.View.{number_of}
use Rattle.case_model.specs.declared.fault.CaseFault.TheVariants.{Wide as TooWideSum}
use Rattle.case_model.specs.Sums.{ratio_at, number_at, written_sum}
use Rattle.case_model.specs.CaseFaults.{◌when◌, total_fault}
use Rattle.case_model.proofs.Comparisons.{above_one_is}
use Rattle.case_model.proofs.ExactSums.{exact_sum}
use Rattle.case_model.proofs.Totals.{fault_written, fault_refused}
use Rattle.case_model.proofs.Wide.{some_from}
use Rattle.case_model.proofs.sums.total_fault.Goals as goal

pub returns-in-Ok : goal.returns-in-Ok
unfolding total_fault
returns-in-Ok g c xs many item =
    let n = length xs in
    let sum = c.in-Ok.sum in
    let written : Path (Result Terms TooWide) (Ok (terms sum)) (or_wide Add (written_sum n (ratio_at xs))) = c.in-Ok.ensures (ratio_at xs) item
    ∙ ap (λ n. or_wide Add (written_sum n (ratio_at xs))) many in
    let exact = exact_sum n (ratio_at xs) (terms sum) (some_from Add (terms sum) _ written) in
    c.then_some.ensures ∙ ap (λ b. c.args.above when b) (c.gt.ensures ∙ above_one_is sum c.one.result c.one.ensures)
    ∙ fault_written (or_wide Add (written_sum n (ratio_at xs)))
    (sum_below number_field n (number_at xs)) number_one c.args.component c.args.place c.args.above (terms sum) (number_of sum) written exact.value

pub returns-in-Err : goal.returns-in-Err
unfolding total_fault
returns-in-Err g c xs many item =
    let n = length xs in
    let refused : Path (Result Terms TooWide) (Err c.in-Err.wide) (or_wide Add (written_sum n (ratio_at xs))) = c.in-Err.ensures (ratio_at xs) item
    ∙ ap (λ n. or_wide Add (written_sum n (ratio_at xs))) many in
    ap (λ w. Some (TooWideSum w))
    (c.in_component.ensures ∙ ap (λ (w : Wide). record { component = c.args.component; place = w.place; op = w.op }) c.at.ensures)
    ∙ fault_refused (or_wide Add (written_sum n (ratio_at xs)))
    (sum_below number_field n (number_at xs)) number_one c.args.component c.args.place c.args.above c.in-Err.wide refused
