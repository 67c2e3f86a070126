use Rattle.std.proofs.Common.{arith, rules}
use Rattle.field_core.proofs.Stein.{odd_part, min_odd, by_odd_difference, same_gcd}
use Rattle.field_core.proofs.binary_gcd.odd_gcd.Goals as goal

pub steps-preserved : goal.steps-preserved
steps-preserved c =
    let l = c.steps in
    let part = odd_part c.abs_diff-rest.result (omega arith) (search rules) in
    record {
      left_odd = part.is_odd;
      right_odd = rw c.min-right.ensures (min_odd l.left l.right l.invariant.left_odd l.invariant.right_odd);
      same = λ g h. l.invariant.same g
          (by_odd_difference l.left l.right _ _ _ _ g l.invariant.left_odd l.invariant.right_odd c.abs_diff-rest.ensures c.min-right.ensures part h);
    }

pub returns : goal.returns
returns c = same_gcd c.args.a c.args.b c.steps.left c.steps.right c.steps-test.false c.steps.invariant.same
