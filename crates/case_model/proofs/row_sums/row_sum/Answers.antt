use Rattle.std.proofs.Common.{ap, ◌∙◌, map, not, Some}
use Rattle.field_core.specs.NumberField.{number_field}
use Rattle.field_core.specs.Kind.{or_wide}
use Rattle.field_core.specs.Arithmetic.{number_one}
use Rattle.field_core.specs.Sums.{sum_below}
use Rattle.field_core.specs.View.{terms}
use Rattle.field_core.specs.declared.place.Op.TheVariants.{Add}
use Rattle.field_core.specs.declared.place.Place.TheVariants.{RowSum as AtRowSum}
use Rattle.field_core.specs.declared.place.Wide.{Wide}
use Rattle.case_model.specs.declared.fault.CaseFault.TheVariants.{RowSum, Wide as TooWideSum}
use Rattle.case_model.specs.Entries.{entry_value, entry_at}
use Rattle.case_model.specs.CaseFaults.{◌when◌, written_row, row_sum}
use Rattle.case_model.proofs.RowTotals.{exact_row}
use Rattle.case_model.proofs.Totals.{fault_written, fault_refused}
use Rattle.case_model.proofs.Wide.{some_from}
use Rattle.case_model.proofs.row_sums.row_sum.Goals as goal

pub returns-in-Ok : goal.returns-in-Ok
unfolding row_sum
returns-in-Ok c =
    let m = c.args.count in
    let row = entry_at m c.args.table.now c.args.i in
    let fault = RowSum c.args.c c.args.i in
    c.then_some.ensures ∙ ap (λ b. fault when not b) c.is_at_most_one.ensures
    ∙ fault_written (or_wide Add (written_row m row)) (sum_below number_field m (λ j. entry_value (row j))) number_one c.args.c (AtRowSum c.args.i) fault
    (map terms c.in-Ok.sum) (entry_value c.in-Ok.sum) c.in-Ok.ensures
    (exact_row m row c.in-Ok.sum (some_from Add (map terms c.in-Ok.sum) _ c.in-Ok.ensures))

pub returns-in-Err : goal.returns-in-Err
unfolding row_sum
returns-in-Err c =
    let m = c.args.count in
    let row = entry_at m c.args.table.now c.args.i in
    ap (λ w. Some (TooWideSum w)) (c.in_component.ensures ∙ ap (λ (w : Wide). record { component = c.args.c; place = w.place; op = w.op }) c.at.ensures)
    ∙ fault_refused (or_wide Add (written_row m row)) (sum_below number_field m (λ j. entry_value (row j))) number_one c.args.c (AtRowSum c.args.i)
    (RowSum c.args.c c.args.i) c.in-Err.wide c.in-Err.ensures
