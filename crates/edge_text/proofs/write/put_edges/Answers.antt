use Rattle.std.proofs.Common.{◌<◌, ◌≤◌, length, refl, arith}
use Rattle.edge_text.specs.CanonicalText.{table_lines}
use Rattle.edge_text.proofs.WrittenLines.{edge_next, lines_end}
use Rattle.edge_text.proofs.write.put_edges.Goals as goal

pub loop-place-preserved : goal.loop-place-preserved
loop-place-preserved c =
    let below : c.loop-place.place < length c.args.table.now = omega arith in
    edge_next c.args.names.now c.args.table.now c.loop-place.place c.index-table-place.result _ c.loop-place.text c.put_edge_if_any.new.text below
    c.index-table-place.is c.loop-place.invariant c.in_ok-put_edge_if_any.ensures

pub returns : goal.returns
returns c =
    let end : length c.args.table.now ≤ c.loop-place.place = omega arith in
    lines_end (table_lines c.args.names.now c.loop-place.place) refl c.args.table.now c.loop-place.place _ c.loop-place.text end c.loop-place.invariant
