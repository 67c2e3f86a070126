use Rattle.std.proofs.Common.{sym}
use Rattle.eps_poly.specs.Factors.{content}
use Rattle.row_removal.proofs.row.common_content.Goals as goal
use Rattle.field_core.proofs.Coprime.{one_gcd}

pub returns-then-divisor-eq1 : goal.returns-then-divisor-eq1
returns-then-divisor-eq1 c = rw c.if-divisor-eq1.true (sym (one_gcd (content c.args.p.now)))
