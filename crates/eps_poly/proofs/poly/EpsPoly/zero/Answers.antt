use Rattle.std.proofs.Common.{refl}
use Rattle.eps_poly.specs.Polynomials.{zero_polynomial}
use Rattle.eps_poly.proofs.DegreeLaws.{count_zero}
use Rattle.eps_poly.proofs.Validity.{zero_valid}
use Rattle.eps_poly.proofs.poly.EpsPoly.zero.Goals as goal

pub invariant_of-result : goal.invariant_of-result
unfolding zero_polynomial
invariant_of-result c = (zero_valid, count_zero)

pub returns : goal.returns
unfolding zero_polynomial
returns c = refl
