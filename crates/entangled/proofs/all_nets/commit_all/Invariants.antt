use Rattle.entangled.proofs.AllCommitted.{IsCommitted}
use Rattle.entangled.proofs.all_nets.commit_all.Given as goal

abbrev pub invariant-loop-net : goal.invariant-loop-net
invariant-loop-net g l = IsCommitted g.R.Remover.present g.R.Remover.prepared l.initial.net-items l.net-index l.net-items
