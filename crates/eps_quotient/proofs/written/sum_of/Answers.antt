use Rattle.eps_quotient.proofs.Stored.{product_some}
use Rattle.eps_quotient.proofs.written.sum_of.Goals as goal

pub sum_over-requires : goal.sum_over-requires
sum_over-requires c = product_some _ _ _ c.in_ok-d.ensures.exact c.args.x.now.some c.args.e.now.some
