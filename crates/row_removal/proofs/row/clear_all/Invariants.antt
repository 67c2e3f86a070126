use Rattle.eps_poly.specs.Polynomials.{zero_polynomial}
use Rattle.row_removal.proofs.InPlace.{IsDone}
use Rattle.row_removal.proofs.row.clear_all.Given as goal

abbrev pub invariant-loop-k : goal.invariant-loop-k
invariant-loop-k l = IsDone (λ p. zero_polynomial) l.initial.numerators l.k l.numerators
