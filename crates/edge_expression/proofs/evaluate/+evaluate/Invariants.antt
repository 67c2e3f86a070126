use Rattle.std.proofs.Common.{◌+◌, ◌*◌, ◌≤◌, length}
use Rattle.edge_expression.specs.CursorView.{head_weight}
use Rattle.edge_expression.specs.EntryView.{polynomial_terms}
use Rattle.edge_expression.proofs.Evaluations.{SumGoes, ProductGoes}
use Rattle.edge_expression.proofs.evaluate.+evaluate.Given as goal

abbrev pub decreases-sum : goal.decreases-sum
decreases-sum l = 4 * length l.cursor.now.rest.now + 2

abbrev pub decreases-product : goal.decreases-product
decreases-product l = 4 * length l.cursor.now.rest.now + 1

abbrev pub decreases-factor : goal.decreases-factor
decreases-factor l = 4 * length l.cursor.now.rest.now + head_weight l.head

abbrev pub invariant-sum-loop-sign : goal.invariant-sum-loop-sign
invariant-sum-loop-sign l =
    record {
      goes : SumGoes l.fn.cursor.rest.now l.cursor.rest.now (polynomial_terms l.sum);
      shorter : length l.cursor.rest.now ≤ length l.fn.cursor.rest.now;
    }

abbrev pub decreases-sum-loop-sign : goal.decreases-sum-loop-sign
decreases-sum-loop-sign l = length l.cursor.rest.now

abbrev pub invariant-product-loop-operation : goal.invariant-product-loop-operation
invariant-product-loop-operation l =
    record {
      goes : ProductGoes l.fn.cursor.rest.now l.cursor.rest.now (polynomial_terms l.product);
      shorter : length l.cursor.rest.now ≤ length l.fn.cursor.rest.now;
    }

abbrev pub decreases-product-loop-operation : goal.decreases-product-loop-operation
decreases-product-loop-operation l = length l.cursor.rest.now
