use Rattle.std.proofs.Common.{◌∙◌, ◌++◌, sym, ap}
use Rattle.std.proofs.lemmas.Result.{on_ok_weaker}
use Rattle.edge_text.proofs.WrittenLines.{edge_none, edge_some}
use Rattle.edge_text.proofs.write.put_edge_if_any.Goals as goal

pub returns-then-is_zero : goal.returns-then-is_zero
returns-then-is_zero c = edge_none c.args.names.now c.args.place c.args.entry.now c.args.text.now (sym c.is_zero.ensures ∙ c.if-is_zero.true)

pub returns : goal.returns
returns c =
    let some = edge_some c.args.names.now c.args.place c.args.entry.now (sym c.is_zero.ensures ∙ c.if-is_zero.false) in
    on_ok_weaker c.put_edge.result (λ e. e ∙ ap (λ t. c.args.text.now ++ t) some) c.put_edge.ensures
