use Rattle.std.proofs.Common.{sym}
use Rattle.eps_poly.proofs.SumLaws.{sum_is_exact}
use Rattle.eps_poly.proofs.poly.EpsPoly.checked_add.Goals as goal

pub returns-clause-exact : goal.returns-clause-exact
returns-clause-exact c =
    sum_is_exact c.args.self.now c.args.other.now c.write_sum.new.self c.used.ensures.polynomial.count c.used-2.ensures.polynomial.count
    (sym c.in_ok-write_sum.ensures)
