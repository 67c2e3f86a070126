use Rattle.std.proofs.Common.{◌≡◌}
use Rattle.field_core.specs.Answers.{mapped}
use Rattle.case_csv.specs.Records.{IsOpen, records_left}
use Rattle.case_csv.specs.Table.{rows_of}
use Rattle.case_csv.specs.View.{cells_in, rows_table}
use Rattle.case_csv.proofs.SheetRows.{with_rest}
use Rattle.case_csv.proofs.rows.rows.Given as goal

-- what was taken, with what is taken of the records that are left, is all
abbrev pub invariant-loop-from : goal.invariant-loop-from
invariant-loop-from l = record {
  stands : IsOpen l.records;
  all : mapped (rows_table l.keep) (rows_of l.columns 2 l.names (cells_in (records_left l.initial.records)))
      ≡ with_rest l.keep l.columns l.names l.table l.from (records_left l.records);
}
