use Rattle.std.proofs.Common.{◌≡◌, ◌<ℤ◌, pos, Err, rules, arith}
use Rattle.std.proofs.lemmas.Int.{ints}
use Rattle.row_removal.proofs.Given.{common_start, common_next, common_fault}
use Rattle.row_removal.proofs.gathering.GivenGraph.common_denominator.Goals as goal

pub loop-k-init : goal.loop-k-init
loop-k-init c = let one : pos 0 <ℤ pos 1 = omega (arith, ints) in rw c.new-c.ensures (common_start c.args.self.now c.args.row, one)

pub returns-in_err-c : goal.returns-in_err-c
returns-in_err-c c =
    let e : c.from_residual.result ≡ Err c.in_err-c.field-0.0 = search rules in
    common_fault c.args.self.now c.args.row _ _ c.loop-k.k c.loop-k.c _ e (omega (arith, c.loop-k-test.true)) c.loop-k.invariant.0 c.in_err-c.ensures.value

pub loop-k-preserved : goal.loop-k-preserved
loop-k-preserved c = (common_next c.args.self.now c.args.row c.loop-k.k c.loop-k.c _ c.loop-k.invariant.0 c.in_ok-c.ensures.value, c.in_ok-c.ensures.positive)
