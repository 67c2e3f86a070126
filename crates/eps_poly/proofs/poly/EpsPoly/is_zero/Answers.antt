use Rattle.eps_poly.proofs.DegreeLaws.{zero_value, zero_test}
use Rattle.eps_poly.proofs.poly.EpsPoly.is_zero.Goals as goal

pub returns-clause-value : goal.returns-clause-value
returns-clause-value c = zero_value c.args.self.now c.used.result c.used.ensures.value

pub returns-clause-zero : goal.returns-clause-zero
returns-clause-zero c = zero_test c.args.self.now c.used.result c.used.ensures.value
