use Rattle.eps_poly.specs.Factors.{lowered}
use Rattle.row_removal.proofs.InPlace.{IsDone}
use Rattle.row_removal.proofs.row.lower_all.Given as goal

abbrev pub invariant-loop-k : goal.invariant-loop-k
invariant-loop-k l = IsDone (lowered l.power l.by) l.initial.numerators l.k l.numerators
