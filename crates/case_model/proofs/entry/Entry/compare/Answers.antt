use Rattle.std.proofs.Common.{◌<◌, sym, ap, ap₂, ◌∙◌, length, arith}
use Rattle.std.proofs.lemmas.List.{take_rest}
use Rattle.std.specs.Ordering.{ordering_then}
use Rattle.field_core.specs.Arithmetic.{number_compare}
use Rattle.fraction.specs.View.{number_of}
use Rattle.case_model.specs.Entries.{first_sign}
use Rattle.case_model.proofs.Comparisons.{compare_is}
use Rattle.case_model.proofs.EntryOrder.{entry-compare}
use Rattle.case_model.proofs.SumSteps.{item_is}
use Rattle.case_model.proofs.entry.Entry.compare.Goals as goal

pub returns : goal.returns
returns c =
    let xs = c.self.inside.coefficients in
    let u = c.args.other.now in
    let x = c.index-coefficients-0.result in
    let within : 0 < length xs = omega arith in
    rw (← c.self.view_is) (
    c.then.ensures
    ∙ ap₂ ordering_then (c.cmp.ensures ∙ compare_is x u
    ∙ ap (λ t. number_compare (number_of t) (number_of u)) (sym (item_is xs 0 x within c.index-coefficients-0.is)))
    (c.first_sign.ensures ∙ ap first_sign (take_rest xs 1))
    ∙ sym (entry-compare xs u (omega arith)))
