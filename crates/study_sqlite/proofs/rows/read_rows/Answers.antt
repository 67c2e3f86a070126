use Rattle.std.proofs.Common.{arith}
use Rattle.study_sqlite.proofs.RowFacts.{first_bad, read_more}
use Rattle.study_sqlite.proofs.rows.read_rows.Goals as goal

pub returns-in-None-clause-fault : goal.returns-in-None-clause-fault
returns-in-None-clause-fault c =
    first_bad c.args.rows.now c.loop-at.at c.index-rows-at.result c.index-rows-at.result c.loop-at.looks (omega arith)
    c.index-rows-at.is c.loop-at.invariant c.in-None.ensures.other

pub loop-at-preserved : goal.loop-at-preserved
loop-at-preserved c =
    read_more c.args.rows.now c.loop-at.at c.index-rows-at.result c.index-rows-at.result c.loop-at.looks c.push.new.self c.in-Some.look (omega arith)
    c.index-rows-at.is
    c.loop-at.invariant c.in-Some.ensures.found c.in_ok-push-in-Some.ensures.pushed
