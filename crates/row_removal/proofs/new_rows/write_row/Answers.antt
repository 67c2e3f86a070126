use Rattle.std.proofs.Common.{arith, sym, ◌∙◌}
use Rattle.std.proofs.lemmas.List.{with_items_is}
use Rattle.row_removal.proofs.WrittenRows.{row_written}
use Rattle.row_removal.proofs.new_rows.write_row.Goals as goal

pub clear-requires-clause-proper : goal.clear-requires-clause-proper
clear-requires-clause-proper c =
    rw (with_items_is c.next.inside.numerators c.write_numerators.new.next (omega (arith, c.write_numerators.auto.next, c.deref_mut.ensures.len)))
    (row_written c.args.graph.now c.args.j c.requires.proper c.requires.j c.args.l _ _ c.requires.l c.in_ok-write_denominator.ensures
    (sym c.is_zero.ensures.value ∙ c.if-is_zero.false) c.in_ok-write_numerators.ensures)
