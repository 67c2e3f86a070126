use Rattle.std.proofs.Common.{◌≡◌, ◌≤◌}
use Rattle.edge_expression.specs.EntryView.{polynomial_terms}
use Rattle.edge_expression.specs.EntryValues.{degree, degree_within}
use Rattle.edge_expression.proofs.polynomial.Polynomial.degree.Given as goal

abbrev pub invariant-loop-power : goal.invariant-loop-power
invariant-loop-power l = record { same : degree_within l.power (polynomial_terms l.fn.self) ≡ degree (polynomial_terms l.fn.self); within : l.power ≤ 4 }

abbrev pub decreases-loop-power : goal.decreases-loop-power
decreases-loop-power l = l.power
