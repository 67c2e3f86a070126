use Rattle.std.proofs.Common.{◌∙◌}
use Rattle.edge_expression.proofs.ShortOperations.{difference_made}
use Rattle.edge_expression.proofs.short_fraction.ShortFraction.subtract.Goals as goal

pub returns : goal.returns
returns c = c.made.ensures ∙ difference_made c.args.self.now.value c.args.other.now.value c.sub.result c.args.self.now.short c.args.other.now.short
    c.sub.ensures
