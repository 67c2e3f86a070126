use Rattle.std.proofs.Common.{◌∙◌}
use Rattle.edge_expression.proofs.ShortOperations.{sum_made}
use Rattle.edge_expression.proofs.short_fraction.ShortFraction.add.Goals as goal

pub returns : goal.returns
returns c = c.made.ensures ∙ sum_made c.args.self.now.value c.args.other.now.value c.add.result c.args.self.now.short c.args.other.now.short c.add.ensures
