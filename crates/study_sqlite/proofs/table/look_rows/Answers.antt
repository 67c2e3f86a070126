use Rattle.std.proofs.Common.{arith}
use Rattle.study_sqlite.proofs.RowFacts.{shown_more}
use Rattle.study_sqlite.proofs.table.look_rows.Goals as goal

pub loop-at-preserved : goal.loop-at-preserved
loop-at-preserved c =
    shown_more c.args.answer.now c.loop-at.at c.index-answer-at.result c.index-answer-at.result c.loop-at.rows c.push.new.self c.in_ok-look_row.field-0
    (omega arith) c.index-answer-at.is c.loop-at.invariant c.in_ok-look_row.ensures.shown c.in_ok-push.ensures.pushed
