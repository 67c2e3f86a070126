use Rattle.std.proofs.Common.{sym}
use Rattle.field_core.specs.View.{terms}
use Rattle.fraction.specs.Laws.Reduced.{add_reduced}
use Rattle.fraction.proofs.written.plus_wide.Goals as goal

pub of_wholes-requires : goal.of_wholes-requires
of_wholes-requires c =
    let g = c.common_divisor-g.ensures.value in
    let h = c.common_divisor-h.ensures.value in
    let n1 = c.whole_num.ensures in
    let n2 = c.whole_num-2.ensures in
    let d1 = c.whole_den-d1.ensures in
    let d2 = c.whole_den-d2.ensures in
    let eu = rw (c.over.ensures, g, n1, d1, d2) at (sym c.in_ok-u.ensures) in
    let ev = rw (c.over-rest.ensures, g, n2, d1, d2) at (sym c.in_ok-v.ensures) in
    let ed = rw (c.over-rest.ensures, c.over-2.ensures, h, g, d1, d2) at (sym c.in_ok-den.ensures) in
    rw (c.over-3.ensures, h, g, d1, d2)
    (add_reduced (terms c.args.x.now) (terms c.args.y.now) c.in_ok-u.u c.in_ok-v.v c.in_ok-t.t c.in_ok-den.den c.args.x.now.valid c.args.y.now.valid eu ev
    (sym c.in_ok-t.ensures) ed)
