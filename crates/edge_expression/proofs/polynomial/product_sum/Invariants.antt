use Rattle.std.proofs.Common.{◌≡◌}
use Rattle.edge_expression.specs.EntryView.{polynomial_terms}
use Rattle.edge_expression.specs.EntryValues.{product_sum}
use Rattle.edge_expression.proofs.Coefficients.{held}
use Rattle.edge_expression.proofs.polynomial.product_sum.Given as goal

abbrev pub invariant-loop-at : goal.invariant-loop-at
invariant-loop-at l = product_sum (polynomial_terms l.x) (polynomial_terms l.y) l.power l.at ≡ held l.sum
