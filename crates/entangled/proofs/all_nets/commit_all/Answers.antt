use Rattle.std.proofs.Common.{ap, ◌∙◌, arith}
use Rattle.entangled.proofs.AllCommitted.{committed_next}
use Rattle.entangled.proofs.all_nets.commit_all.Goals as goal

pub loop-net-preserved : goal.loop-net-preserved
loop-net-preserved g c =
    let l = c.loop-net in
    let i = c.net-item.is in
    committed_next _ _ _ l.net-index l.net-items c.net-item.result _ l.invariant (omega (arith, l.auto.net-items, c.loop-net-test.true)) c.loop-net-test.true i
    (ap g.R.Remover.prepared i ∙ c.commit.ensures.present)
