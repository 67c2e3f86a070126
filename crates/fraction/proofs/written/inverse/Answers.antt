use Rattle.std.proofs.Common.{rules, ap, ◌∙◌, pos, neg_ℤ, ◌<ℤ◌, ◌≤ℤ◌}
use Rattle.fraction.specs.Laws.Turned.{turned_below, turned_above}
use Rattle.fraction.proofs.written.inverse.Goals as goal

pub of_wholes-requires : goal.of_wholes-requires
of_wholes-requires c =
    let low : c.num.result <ℤ pos 0 = search rules in
    let x = c.args.x.now in
    turned_below x.num x.den _ _ x.valid (rw c.num.ensures at low) (c.negated-then-num-lt0.ensures ∙ ap neg_ℤ c.whole_num.ensures)
    (c.negated.ensures ∙ ap neg_ℤ c.whole_den.ensures)

pub of_wholes-requires-else-num-lt0 : goal.of_wholes-requires-else-num-lt0
of_wholes-requires-else-num-lt0 c =
    let high : pos 0 ≤ℤ c.num.result = search rules in
    let x = c.args.x.now in
    rw (c.whole_den-else-num-lt0.ensures, c.whole_num-else-num-lt0.ensures) (turned_above x.num x.den x.valid c.requires (rw c.num.ensures at high))
