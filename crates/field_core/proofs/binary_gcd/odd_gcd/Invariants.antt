use Rattle.std.proofs.Common.{◌≡◌, ◌+◌, ◌%◌, ℕ}
use Rattle.std.specs.Int.{IsGcd}
use Rattle.field_core.proofs.binary_gcd.odd_gcd.Given as goal

abbrev pub invariant-steps : goal.invariant-steps
invariant-steps l = record {
  left_odd : l.left % 2 ≡ 1;
  right_odd : l.right % 2 ≡ 1;
  same : (g : ℕ) → IsGcd l.left l.right g → IsGcd l.fn.a l.fn.b g;
}

abbrev pub decreases-steps : goal.decreases-steps
decreases-steps l = l.left + l.right
