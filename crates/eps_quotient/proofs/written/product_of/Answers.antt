use Rattle.eps_quotient.proofs.Stored.{product_some}
use Rattle.eps_quotient.proofs.written.product_of.Goals as goal

pub norm-requires : goal.norm-requires
norm-requires c = product_some _ _ _ c.in_ok-denominator.ensures.exact c.args.y.now.some c.args.x.now.some
