use Rattle.std.proofs.Common.{sym}
use Rattle.eps_poly.proofs.ProductLaws.{product_is_exact}
use Rattle.eps_poly.proofs.poly.EpsPoly.checked_mul.Goals as goal

pub returns-clause-exact : goal.returns-clause-exact
returns-clause-exact c = product_is_exact c.args.self.now c.args.other.now c.write_product.new.self (sym c.in_ok-write_product.ensures)
