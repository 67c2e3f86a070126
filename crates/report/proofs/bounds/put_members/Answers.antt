use Rattle.std.proofs.Common.{rules}
use Rattle.field_core.specs.NumberedSets.{members}
use Rattle.report.proofs.bounds.put_members.Goals as goal

pub returns : goal.returns
returns c = c.put_names.ensures (members c.args.set) (λ k b q p. search rules)
