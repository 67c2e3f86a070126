use Rattle.std.proofs.Common.{◌==◌, ◌*◌, ap, ◌∙◌, length, arith}
use Rattle.std.proofs.lemmas.Bool.Decides.{nat_tests}
use Rattle.std.proofs.lemmas.List.{get_or_default}
use Rattle.case_model.specs.Content.{empty_component}
use Rattle.case_model.specs.CaseFaults.{first_below, row_sum, component_rows}
use Rattle.case_model.specs.Tables.{are_tables}
use Rattle.case_model.proofs.Holding.{all_at}
use Rattle.case_model.proofs.row_sums.component_rows.Goals as goal

pub first_row-requires-clause-size : goal.first_row-requires-clause-size
unfolding are_tables
first_row-requires-clause-size c =
    let m = c.args.count in
    let k = c.index-components-c.result in
    let test = all_at (λ k. length k.edges == m * m) c.args.components.now c.args.c k c.requires.tables c.requires.within in
    ap length c.as_slice.ensures ∙ grind (arith, nat_tests, test)

pub returns : goal.returns
unfolding component_rows
returns c =
    let m = c.args.count in
    let k = c.index-components-c.result in
    c.first_row.ensures ∙ ap (λ t. first_below (row_sum m c.args.c t) m) c.as_slice.ensures
    ∙ ap (component_rows m c.args.c) (get_or_default c.args.components.now c.args.c k empty_component c.requires.within)
