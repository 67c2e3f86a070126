use Rattle.std.proofs.Common.{arith}
use Rattle.std.proofs.lemmas.List.{with_items_is}
use Rattle.row_removal.proofs.WrittenRows.{weights_written}
use Rattle.row_removal.proofs.new_rows.write_weights.Goals as goal

pub clear-requires-clause-proper : goal.clear-requires-clause-proper
clear-requires-clause-proper c =
    rw (with_items_is c.next.inside.numerators c.write_weight_numerators.new.next (omega (arith, c.write_weight_numerators.auto.next, c.deref_mut.ensures.len)))
    (weights_written c.args.graph.now c.args.j c.requires.proper c.requires.j _ _ c.in_ok-write_weight_numerators.ensures c.in_ok-write_scale.ensures)
