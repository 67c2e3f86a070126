use Rattle.std.proofs.Common.{ap, ◌∙◌, subst, arith}
use Rattle.eps_poly.specs.Polynomials.{IsPolynomial}
use Rattle.eps_poly.specs.Written.{count_to_last}
use Rattle.eps_poly.proofs.DegreeLaws.{count_within}
use Rattle.eps_poly.proofs.poly.EpsPoly.used.Goals as goal

pub returns-clause-value : goal.returns-clause-value
returns-clause-value c = c.self.invariant.1 ∙ ap count_to_last c.self.view_is

pub returns-clause-within : goal.returns-clause-within
returns-clause-within c =
    let high = count_within c.self.inside.entries in
    let count = c.self.invariant.0.count in
    let same = c.self.invariant.1 in
    omega arith

pub returns-clause-polynomial : goal.returns-clause-polynomial
returns-clause-polynomial c = subst IsPolynomial c.self.view_is c.self.invariant.0
