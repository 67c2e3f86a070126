use Rattle.std.proofs.Common.{sym}
use Rattle.field_core.specs.View.{terms}
use Rattle.fraction.specs.Laws.Reduced.{mul_reduced}
use Rattle.fraction.proofs.written.multiply_wide.Goals as goal

pub of_wholes-requires : goal.of_wholes-requires
of_wholes-requires c =
    let a = c.common_divisor-a.ensures.value in
    let b = c.common_divisor-b.ensures.value in
    let n1 = c.whole_num-n1.ensures in
    let d1 = c.whole_den-d1.ensures in
    let n2 = c.whole_num-n2.ensures in
    let d2 = c.whole_den-d2.ensures in
    let e = rw (c.over.ensures, c.over-2.ensures, a, b, n1, d1, n2, d2) at (sym c.in_ok-num.ensures) in
    let f = rw (c.over-3.ensures, c.over-4.ensures, a, b, n1, d1, n2, d2) at (sym c.in_ok-den.ensures) in
    mul_reduced (terms c.args.x.now) (terms c.args.y.now) _ _ c.args.x.now.valid c.args.y.now.valid e f
