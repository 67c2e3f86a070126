use Rattle.std.proofs.Common.{ap, ◌∙◌, arith}
use Rattle.std.proofs.lemmas.Nat.{one_shl}
use Rattle.field_core.specs.NumberedSets.{members}
use Rattle.field_core.proofs.Members.{members_added}
use Rattle.case_model.proofs.sets.added.Goals as goal

pub returns-clause-number : goal.returns-clause-number
returns-clause-number c = omega (arith, one_shl c.args.k 32 (omega arith))

pub returns-clause-set : goal.returns-clause-set
returns-clause-set c = λ i q. ap (λ n. members n i) (returns-clause-number c)
    ∙ members_added 16 c.args.set c.args.k c.requires.set c.requires.k c.requires.outside i q
