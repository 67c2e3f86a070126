use Rattle.std.proofs.Common.{[], inl, inr}
use Rattle.sqlite.specs.Held.{state}
use Rattle.study_sqlite.specs.Kept.{IsLookRefused, IsLookCut}
use Rattle.study_sqlite.specs.Statements.{make_sql, RanInto}
use Rattle.study_sqlite.proofs.Memory.{memory_passed, memory_known, memory_as}
use Rattle.study_sqlite.proofs.Refusals.{refused_as}
use Rattle.study_sqlite.proofs.kept.keep_in.Goals as goal
use Rattle.field_core.proofs.Results.{on_ok}

pub returns-clause-put : goal.returns-clause-put
returns-clause-put g c clean =
    on_ok c.put.result _ _ (c.put.ensures.ran clean)
    (λ ran. record {
      middle = c.make.new.connection;
      row = c.in_ok-row.row;
      made = c.in_ok-make.ensures.made (c.put.ensures.clean clean);
      row_is = c.in_ok-row.ensures.row;
      ran = ran;
    })

pub returns-clause-why : goal.returns-clause-why
returns-clause-why g c clean =
    refused_as c.put.result _ (IsLookRefused g.S.Store c.args.connection.now c.put.new.connection c.args.look.now) (c.put.ensures.why clean)
    (λ refused. inr (record {
      middle = c.make.new.connection;
      row = c.in_ok-row.row;
      made = c.in_ok-make.ensures.made (c.put.ensures.clean clean);
      row_is = c.in_ok-row.ensures.row;
      refused = refused;
    }))

pub returns-in_err-make-clause-memory : goal.returns-in_err-make-clause-memory
returns-in_err-make-clause-memory g c clean =
    memory_passed c.from_residual.result c.in_err-make.field-0.0 (RanInto (state g.S.Store c.args.connection.now) (state g.S.Store c.make.new.connection) make_sql [])
    (IsLookCut g.S.Store c.args.connection.now c.make.new.connection c.args.look.now) c.from_residual.ensures.1 (c.in_err-make.ensures.why clean) (λ ran. inl ran)

pub returns-in_err-row-clause-memory : goal.returns-in_err-row-clause-memory
returns-in_err-row-clause-memory g c clean =
    memory_known c.from_residual-in_err-row.result (IsLookCut g.S.Store c.args.connection.now c.make.new.connection c.args.look.now)
    (inr (inl (c.in_ok-make.ensures.made clean)))

pub returns-clause-memory : goal.returns-clause-memory
returns-clause-memory g c clean =
    memory_as c.put.result _ (IsLookCut g.S.Store c.args.connection.now c.put.new.connection c.args.look.now) (c.put.ensures.why clean)
    (λ cut. inr (inr (record {
      middle = c.make.new.connection;
      row = c.in_ok-row.row;
      made = c.in_ok-make.ensures.made (c.put.ensures.clean clean);
      row_is = c.in_ok-row.ensures.row;
      cut = cut;
    })))
