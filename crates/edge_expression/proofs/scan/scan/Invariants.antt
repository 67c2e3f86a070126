use Rattle.std.proofs.Common.{◌≡◌, ◌≤◌, drop}
use Rattle.edge_expression.specs.ByteMachine.{start}
use Rattle.edge_expression.proofs.ScannedTexts.{scanned}
use Rattle.edge_expression.proofs.scan.scan.Given as goal

abbrev pub invariant-loop-at : goal.invariant-loop-at
invariant-loop-at l = record { same : scanned l.at (drop l.at l.text) l.reached ≡ scanned 0 l.text start; shallow : l.reached.depth ≤ 32 }
