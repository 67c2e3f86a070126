use Rattle.std.proofs.Common.{arith}
use Rattle.std.proofs.lemmas.Nat.{one_shl}
use Rattle.field_core.proofs.Members.{taken_least, members_taken}
use Rattle.case_model.proofs.sets.dropped.Goals as goal

pub overflow_sub-result : goal.overflow_sub-result
overflow_sub-result c = omega (arith, one_shl c.args.k 32 (omega arith), taken_least 16 c.args.set c.args.k c.requires.set c.requires.k c.requires.member)

pub returns-clause-number : goal.returns-clause-number
returns-clause-number c = omega (arith, one_shl c.args.k 32 (omega arith), taken_least 16 c.args.set c.args.k c.requires.set c.requires.k c.requires.member)

pub returns-clause-set : goal.returns-clause-set
returns-clause-set c = members_taken 16 c.args.set _ c.args.k c.requires.set c.requires.k c.requires.member (returns-clause-number c)
