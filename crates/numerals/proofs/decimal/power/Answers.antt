use Rattle.std.proofs.Common.{arith}
use Rattle.numerals.proofs.DigitNumbers.{power_small}
use Rattle.numerals.proofs.decimal.power.Goals as goal

pub pow-requires : goal.pow-requires
pow-requires c = omega (arith, power_small c.args.exponent c.requires)
