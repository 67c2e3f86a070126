use Rattle.std.proofs.Common.{refl, rules}
use Rattle.field_core.proofs.Sized.{sized_made, sized_least}
use Rattle.field_core.proofs.whole.Whole.checked_new.Goals as goal

pub returns-then-is_least : goal.returns-then-is_least
returns-then-is_least c = sized_least c.args.value c.args.value (c.ranges.value, refl) (search rules)

pub returns-else-is_least : goal.returns-else-is_least
returns-else-is_least c = sized_made c.args.value c.args.value (c.ranges.value, refl) (search rules)
