use Rattle.std.proofs.Common.{sym, arith}
use Rattle.fraction.specs.Laws.Reduced.{add_reduced}
use Rattle.fraction.proofs.AtOnce.{plus_zero}
use Rattle.fraction.specs.Short.{short_terms}
use Rattle.fraction.proofs.short.ShortRatio.plus.Goals as goal

pub returns-then-is_zero-2 : goal.returns-then-is_zero-2
returns-then-is_zero-2 c = grind (arith, plus_zero)

pub of_wholes-requires : goal.of_wholes-requires
of_wholes-requires c =
    let g = c.common_divisor-g.ensures.value in
    let h = c.common_divisor-h.ensures.value in
    let t = c.in-Some.ensures.1 in
    let eu = rw (c.over.ensures, g) at (sym c.times-u.ensures.written) in
    let ev = rw (c.over-rest.ensures, g) at (sym c.times-v.ensures.written) in
    let ed = rw (c.over-in-Some.ensures, c.over-rest.ensures, h, t, g) at (sym c.times-den.ensures.written) in
    rw (c.whole.ensures, c.over-in-Some-2.ensures, h, t, g)
    (add_reduced (short_terms c.args.self) (short_terms c.args.other) c.times-u.result c.times-v.result c.in_ok-t.t c.times-den.result c.args.self.valid
    c.args.other.valid eu ev (sym c.in_ok-t.ensures) ed)

pub of_wholes-requires-2 : goal.of_wholes-requires-2
of_wholes-requires-2 c =
    let g = c.common_divisor-g.ensures.value in
    let h = c.common_divisor-h-2.ensures.value in
    let w = c.whole-2.ensures in
    let eu = rw (c.over.ensures, g) at (sym c.times-u.ensures.written) in
    let ev = rw (c.over-rest.ensures, g) at (sym c.times-v.ensures.written) in
    let ed = rw (c.whole-3.ensures, c.over-2.ensures, c.whole-4.ensures, c.over-rest.ensures, h, w, g) at (sym c.in_ok-den.ensures) in
    rw (c.over-3.ensures, h, w, g)
    (add_reduced (short_terms c.args.self) (short_terms c.args.other) c.times-u.result c.times-v.result c.in_ok-t.t c.in_ok-den.den c.args.self.valid
    c.args.other.valid eu ev (sym c.in_ok-t.ensures) ed)
