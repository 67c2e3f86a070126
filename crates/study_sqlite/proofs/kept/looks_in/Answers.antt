use Rattle.std.proofs.Common.{rules, [], inl, inr}
use Rattle.sqlite.specs.Held.{state}
use Rattle.study_sqlite.specs.Kept.{AreLooksRefused, AreLooksCut}
use Rattle.study_sqlite.specs.FileFaults.{OnMemory}
use Rattle.study_sqlite.specs.Statements.{make_sql, RanInto, AreRowsCut}
use Rattle.study_sqlite.proofs.Memory.{memory_passed, memory_known}
use Rattle.study_sqlite.proofs.Refusals.{passed_on, rows_refused, shown_bad}
use Rattle.study_sqlite.proofs.kept.looks_in.Goals as goal

pub returns-clause-kept : goal.returns-clause-kept
returns-clause-kept g c clean =
    let early = c.rows.ensures.clean clean in
    record {
      middle = c.make.new.connection;
      rows = c.in_ok-rows.rows;
      made = c.in_ok-make.ensures.made early;
      shown = c.in_ok-rows.ensures.shown clean;
      read = search rules;
    }

pub returns-in_err-rows-clause-why : goal.returns-in_err-rows-clause-why
returns-in_err-rows-clause-why g c clean =
    passed_on c.from_residual-in_err-rows.result c.in_err-rows.field-0.0 _
    (AreLooksRefused g.S.Store c.args.connection.now c.rows.new.connection)
    c.from_residual-in_err-rows.ensures.1 (c.in_err-rows.ensures.why clean)
    (λ refused. inr (record { middle = c.make.new.connection; made = c.in_ok-make.ensures.made (c.rows.ensures.clean clean); refused = refused }))

pub returns-in_err-read_rows-clause-why : goal.returns-in_err-read_rows-clause-why
returns-in_err-read_rows-clause-why g c clean =
    let shown = c.in_ok-rows.ensures.shown clean in
    let early = c.rows.ensures.clean clean in
    rows_refused c.from_residual-in_err-read_rows.result c.in_err-read_rows.field-0.0 c.as_slice.result.now
    (AreLooksRefused g.S.Store c.args.connection.now c.rows.new.connection)
    c.from_residual-in_err-read_rows.ensures.1 c.in_err-read_rows.ensures.fault
    (λ place bad.
    let row = shown_bad shown.0 c.as_slice.result.now place (search rules) bad in
    inr (record { middle = c.make.new.connection; made = c.in_ok-make.ensures.made early; refused = inr (shown.0, row.0, shown.1, row.1, row.2) }))

pub returns-in_err-make-clause-memory : goal.returns-in_err-make-clause-memory
returns-in_err-make-clause-memory g c clean =
    memory_passed c.from_residual.result c.in_err-make.field-0.0 (RanInto (state g.S.Store c.args.connection.now) (state g.S.Store c.make.new.connection) make_sql [])
    (AreLooksCut g.S.Store c.args.connection.now c.make.new.connection) c.from_residual.ensures.1 (c.in_err-make.ensures.why clean) (λ ran. inl ran)

pub returns-in_err-rows-clause-memory : goal.returns-in_err-rows-clause-memory
returns-in_err-rows-clause-memory g c clean =
    memory_passed c.from_residual-in_err-rows.result c.in_err-rows.field-0.0
    (OnMemory (AreRowsCut (state g.S.Store c.make.new.connection) (state g.S.Store c.rows.new.connection)))
    (AreLooksCut g.S.Store c.args.connection.now c.rows.new.connection) c.from_residual-in_err-rows.ensures.1 (c.in_err-rows.ensures.memory clean)
    (λ cut. inr (c.make.new.connection, c.in_ok-make.ensures.made (c.rows.ensures.clean clean), cut))

pub returns-in_err-read_rows-clause-memory : goal.returns-in_err-read_rows-clause-memory
returns-in_err-read_rows-clause-memory g c clean =
    let shown = c.in_ok-rows.ensures.shown clean in
    memory_known c.from_residual-in_err-read_rows.result (AreLooksCut g.S.Store c.args.connection.now c.rows.new.connection)
    (inr (c.make.new.connection, c.in_ok-make.ensures.made (c.rows.ensures.clean clean), inr (shown.0, shown.1)))
