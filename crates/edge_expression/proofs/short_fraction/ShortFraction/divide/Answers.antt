use Rattle.std.proofs.Common.{◌∙◌}
use Rattle.edge_expression.proofs.ShortOperations.{stored_some, quotient_made}
use Rattle.edge_expression.proofs.short_fraction.ShortFraction.divide.Goals as goal

pub div-requires : goal.div-requires
div-requires c = stored_some c.args.other.now.value.num c.args.other.now.value.den c.requires

pub returns : goal.returns
returns c = c.made.ensures ∙ quotient_made c.args.self.now.value c.args.other.now.value c.div.result c.args.self.now.short c.args.other.now.short c.requires
    c.div.ensures
