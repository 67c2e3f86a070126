use Rattle.std.proofs.Common.{◌≡◌, sym, ap, ◌∙◌, true, arith, Err}
use Rattle.removal.specs.StoredGraph.{is_live}
use Rattle.entangled.proofs.AllPrepared.{is_prepared, still_holds, still_same, done_next, done_stop, all_done}
use Rattle.entangled.proofs.all_nets.prepare_all.Goals as goal

pub prepare-requires : goal.prepare-requires
prepare-requires g c = still_holds _ _ _ _ (λ s. is_live (g.R.Remover.graph s) c.args.j ≡ true) _ _ _ c.index-nets-c.result c.loop-c.invariant c.requires
    (omega (arith, c.loop-c-test.true, c.loop-c.auto.nets))

pub returns-in-Err-clause-present : goal.returns-in-Err-clause-present
returns-in-Err-clause-present g c = still_same _ _ _ _ _ _ _ c.index-nets-c.result _ c.loop-c.invariant c.prepare.ensures.present
    (omega (arith, c.loop-c-test.true, c.loop-c.auto.nets))

pub returns-in-Err-clause-value : goal.returns-in-Err-clause-value
returns-in-Err-clause-value g c = ap Err c.in_component.ensures
    ∙ sym (done_stop _ _ _ _ _ _ _ c.index-nets-c.result _ c.loop-c.invariant (omega (arith, c.loop-c-test.true, c.loop-c.auto.nets)) c.in-Err.ensures.answer)

pub loop-c-preserved : goal.loop-c-preserved
loop-c-preserved g c =
    done_next _ _ _ _ _ _ _ c.index-nets-c.result _ c.loop-c.invariant (omega (arith, c.loop-c-test.true, c.loop-c.auto.nets)) c.prepare.ensures.present
    (is_prepared g.R.Remover.present g.R.Remover.prepared g.R.Remover.removal c.args.j _ _ _ c.prepare.ensures.present c.prepare.ensures.prepared
    c.in_default.ensures.answer)

pub returns-clause-value : goal.returns-clause-value
returns-clause-value g c = all_done _ _ _ _ _ _ _ c.loop-c.invariant (omega (arith, c.loop-c-test.false, c.loop-c.auto.nets))
