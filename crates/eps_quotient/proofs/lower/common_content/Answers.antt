use Rattle.std.proofs.Common.{arith}
use Rattle.std.proofs.lemmas.Int.{ints}
use Rattle.eps_poly.proofs.ContentLaws.{content_some}
use Rattle.eps_quotient.proofs.lower.common_content.Goals as goal

pub common_divisor-requires : goal.common_divisor-requires
common_divisor-requires c = rw c.whole_content-2.ensures (omega (arith, ints, content_some c.args.b.now c.requires))
