use Rattle.sqlite.specs.Held.{state}
use Rattle.kept_rows.proofs.Meaning.{all_are_shown, all_stay}
use Rattle.kept_rows.proofs.rows.Goals as goal

pub returns-clause-all : goal.returns-clause-all
returns-clause-all g c clean =
    all_are_shown (λ answer. answer.items) (state g.S.Store c.args.connection.now) (state g.S.Store c.query_all.new.self) c.query_all.result (c.query_all.ensures.ok clean)

pub returns-clause-kept : goal.returns-clause-kept
returns-clause-kept g c clean =
    all_stay (λ answer. answer.items) (state g.S.Store c.args.connection.now) (state g.S.Store c.query_all.new.self) c.query_all.result (c.query_all.ensures.ok clean)
