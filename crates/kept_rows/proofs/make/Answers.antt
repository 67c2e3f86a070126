use Rattle.sqlite.specs.Held.{state}
use Rattle.kept_rows.proofs.Meaning.{made, made_again}
use Rattle.kept_rows.proofs.make.Goals as goal

pub returns-clause-made : goal.returns-clause-made
returns-clause-made g c clean = made (state g.S.Store c.args.connection.now) (state g.S.Store c.execute.new.self) c.execute.result (c.execute.ensures.runs clean)

pub returns-clause-kept : goal.returns-clause-kept
returns-clause-kept g c clean = made_again (state g.S.Store c.args.connection.now) (state g.S.Store c.execute.new.self) c.execute.result (c.execute.ensures.runs clean)
