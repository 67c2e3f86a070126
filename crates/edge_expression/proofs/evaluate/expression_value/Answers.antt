use Rattle.std.proofs.Common.{ap, ◌∙◌, Ok}
use Rattle.edge_expression.proofs.Evaluations.{sum_value}
use Rattle.edge_expression.proofs.evaluate.expression_value.Goals as goal

pub returns-in-Ok : goal.returns-in-Ok
returns-in-Ok c e h = ap Ok c.entry.ensures ∙ sum_value c.new-cursor.result.rest.now c.args.text.now c.sum.new.cursor.rest.now _ e c.new-cursor.ensures
    c.in-Ok.ensures.value h

pub returns-in-Err : goal.returns-in-Err
returns-in-Err c e h = sum_value c.new-cursor.result.rest.now c.args.text.now c.sum.new.cursor.rest.now _ e c.new-cursor.ensures c.in-Err.ensures.value h
