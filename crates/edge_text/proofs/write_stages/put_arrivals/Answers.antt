use Rattle.std.proofs.Common.{◌<◌, ◌≤◌, length, map, refl, arith}
use Rattle.edge_text.specs.CanonicalText.{arrive_words}
use Rattle.edge_text.proofs.WrittenLines.{line_next, lines_end}
use Rattle.edge_text.proofs.write_stages.put_arrivals.Goals as goal

pub loop-arrival-preserved : goal.loop-arrival-preserved
loop-arrival-preserved c =
    let below : c.loop-arrival.arrival-index < length c.args.arrivals.now = omega arith in
    line_next (arrive_words c.args.names.now) c.args.arrivals.now c.loop-arrival.arrival-index c.arrival-item.result _ c.loop-arrival.text
    c.put_arrival.new.text below c.arrival-item.is c.loop-arrival.invariant c.in_ok-put_arrival.ensures

pub returns : goal.returns
returns c =
    let end : length c.args.arrivals.now ≤ c.loop-arrival.arrival-index = omega arith in
    lines_end (map (arrive_words c.args.names.now)) refl c.args.arrivals.now c.loop-arrival.arrival-index _ c.loop-arrival.text end c.loop-arrival.invariant
