use Rattle.std.proofs.Common.{ap, ◌∙◌}
use Rattle.case_model.specs.Tables.{are_tables}
use Rattle.case_model.proofs.Faultless.{are_tables-tabled}
use Rattle.case_model.proofs.draft.Parts.made.Goals as goal

pub late_fault-requires-clause-tables : goal.late_fault-requires-clause-tables
late_fault-requires-clause-tables c = ap (are_tables c.args.count) (c.as_slice.ensures ∙ c.in_ok-components.ensures.components)
    ∙ are_tables-tabled c.args.count c.args.components
