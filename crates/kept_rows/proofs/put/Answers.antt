use Rattle.std.proofs.Common.{rules, ◌∷◌, []}
use Rattle.sqlite.specs.Held.{state}
use Rattle.sqlite.specs.State.{HasCleanDisk, Executes}
use Rattle.sqlite.specs.declared.types.Value.TheVariants.{Int, Text}
use Rattle.kept_rows.specs.Table.{kept, put_sql}
use Rattle.kept_rows.proofs.Meaning.{put_last}
use Rattle.kept_rows.proofs.put.Goals as goal

pub returns-clause-put : goal.returns-clause-put
returns-clause-put g c clean =
    let ran : HasCleanDisk (state g.S.Store c.run_put.new.connection) → Executes put_sql (Int c.args.hypothesis ∷ Int c.args.stage ∷ Text c.args.p.now ∷ []) (state g.S.Store c.args.connection.now)
    (state g.S.Store c.run_put.new.connection) c.run_put.result = search rules in
    put_last (state g.S.Store c.args.connection.now) (state g.S.Store c.run_put.new.connection) (kept c.args.hypothesis c.args.stage c.args.p.now) c.run_put.result (ran clean)
