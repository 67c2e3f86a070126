use Rattle.entangled.proofs.AllPrepared.{IsDone}
use Rattle.entangled.proofs.all_nets.prepare_all.Given as goal

abbrev pub invariant-loop-c : goal.invariant-loop-c
invariant-loop-c g l = IsDone g.R.Remover.present g.R.Remover.prepared g.R.Remover.removal l.j l.initial.nets l.c l.nets
