use Rattle.std.proofs.Common.{rules, arith, ◌<◌, length}
use Rattle.std.proofs.lemmas.Grind.{common_steps}
use Rattle.entangled.proofs.AllCommitted.{settled_next}
use Rattle.entangled.proofs.all_nets.set_all.Goals as goal

pub loop-c-preserved : goal.loop-c-preserved
loop-c-preserved g c =
    let b : c.loop-c.c < length c.loop-c.nets = omega (arith, c.loop-c-test.true, c.loop-c.auto.nets) in
    (grind (arith, common_steps), search rules, settled_next g.R.Remover.prepared c.loop-c.c c.loop-c.nets c.set_to.new.self b c.loop-c.invariant.2 c.set_to.ensures.prepared)
