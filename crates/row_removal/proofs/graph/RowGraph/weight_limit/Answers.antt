use Rattle.std.proofs.Common.{◌∙◌, sym, ap, ap₂, subst}
use Rattle.field_core.specs.Exact.{value_of}
use Rattle.field_core.specs.LimitParts.{IsUnit, limit_terms}
use Rattle.eps_quotient.specs.Lowering.{norm}
use Rattle.row_removal.specs.Laws.RowGraphs.{weight_seen}
use Rattle.row_removal.proofs.graph.RowGraph.weight_limit.Goals as goal

pub limit-requires-clause-unit : goal.limit-requires-clause-unit
limit-requires-clause-unit c =
    subst (λ x. IsUnit (value_of x)) (weight_seen c.args.self.now c.requires.proper c.args.k c.requires.k
    ∙ ap₂ norm (sym c.weight_numerator.ensures) (sym c.weight_denominator.ensures)) c.requires.unit

pub returns : goal.returns
returns c = c.limit.ensures ∙ ap limit_terms (ap₂ norm c.weight_numerator.ensures c.weight_denominator.ensures
    ∙ sym (weight_seen c.args.self.now c.requires.proper c.args.k c.requires.k))
