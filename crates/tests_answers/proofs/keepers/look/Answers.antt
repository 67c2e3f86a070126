use Rattle.std.proofs.Common.{arith, lit<, refl}
use Rattle.std.proofs.lemmas.Int.{ints}
use Rattle.field_core.specs.Divisor.{gcd}
use Rattle.tests_answers.proofs.keepers.look.Goals as goal

pub new-requires : goal.new-requires
unfolding gcd
new-requires c = record { positive = omega (arith, ints); num_size = lit< tt; den_size = lit< tt; reduced = refl }
