use Rattle.std.proofs.Common.{◌∙◌, sym, arith}
use Rattle.field_core.proofs.Members.{added_below}
use Rattle.closed_test.proofs.closed.all_larger.Goals as goal

pub get-requires : goal.get-requires
get-requires c = omega (
  arith,
  c.added.ensures,
  added_below c.args.closed.now.size c.args.set c.loop-k.k c.requires
      (omega (arith, c.loop-k-test.true, c.size-k-end.ensures.size)) (sym c.holds.ensures ∙ c.if-not-holds.true),
)
