use Rattle.std.proofs.Common.{sym}
use Rattle.fraction.specs.Laws.Reduced.{mul_reduced}
use Rattle.fraction.specs.Short.{short_terms}
use Rattle.fraction.proofs.short.ShortRatio.times.Goals as goal

pub of_wholes-requires : goal.of_wholes-requires
of_wholes-requires c =
    let a = c.common_divisor-a.ensures.value in
    let b = c.common_divisor-b.ensures.value in
    let e = rw (c.over.ensures, c.over-2.ensures, a, b) at (sym c.times-num.ensures.written) in
    let f = rw (c.over-3.ensures, c.over-4.ensures, a, b) at (sym c.times-den.ensures.written) in
    mul_reduced (short_terms c.args.self) (short_terms c.args.other) _ _ c.args.self.valid c.args.other.valid e f
