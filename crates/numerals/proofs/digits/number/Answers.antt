use Rattle.std.proofs.Common.{arith}
use Rattle.numerals.proofs.DigitNumbers.{power_small}
use Rattle.numerals.proofs.digits.number.Goals as goal

pub extended-requires-clause-room : goal.extended-requires-clause-room
extended-requires-clause-room c = omega (arith, power_small _ c.requires.few)
