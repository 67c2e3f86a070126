use Rattle.std.proofs.Common.{◌∙◌, sym, refl}
use Rattle.graph_update.proofs.Orders.{one_more, too_great, twice, never}
use Rattle.graph_update.proofs.positions.are_positions.Goals as goal
use Rattle.graph_update.proofs.positions.are_positions.Goals.{then-removed-i-via-then-removed-i, then-removed-i-via-else-removed-i+then-contains}

pub returns-then-removed-i : goal.returns-then-removed-i
returns-then-removed-i c = elim c.then-removed-i.branch [
  | then-removed-i-via-then-removed-i w ↦
      never (too_great c.args.size c.args.removed.now c.loop-i.i _ c.loop-i-test.true refl w.if-removed-i.true)
  | then-removed-i-via-else-removed-i+then-contains w ↦
      never (twice c.args.size c.args.removed.now c.loop-i.i _ c.loop-i-test.true refl (sym w.contains.ensures.value ∙ w.if-contains.true))
]

pub loop-i-preserved : goal.loop-i-preserved
loop-i-preserved c = one_more c.args.size c.args.removed.now c.loop-i.i _ c.loop-i-test.true refl c.if-removed-i.false
    (sym c.contains.ensures.value ∙ c.if-contains.false) c.loop-i.invariant
