use Rattle.std.proofs.Common.{arith}
use Rattle.eps_poly.specs.Written.{degree}
use Rattle.eps_poly.proofs.poly.EpsPoly.degree.Goals as goal

pub returns-clause-value : goal.returns-clause-value
unfolding degree
returns-clause-value c = let same = c.used.ensures.value in omega arith
