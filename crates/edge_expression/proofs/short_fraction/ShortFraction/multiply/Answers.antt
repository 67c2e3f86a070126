use Rattle.std.proofs.Common.{◌∙◌}
use Rattle.edge_expression.proofs.ShortOperations.{product_made}
use Rattle.edge_expression.proofs.short_fraction.ShortFraction.multiply.Goals as goal

pub returns : goal.returns
returns c = c.made.ensures ∙ product_made c.args.self.now.value c.args.other.now.value c.mul.result c.args.self.now.short c.args.other.now.short c.mul.ensures
