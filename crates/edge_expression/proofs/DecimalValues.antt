-- The entries of decimals and of powers.
use Rattle.std.proofs.Common.{◌≡◌, Option, refl}
use Rattle.numerals.specs.Decimals.{Decimal, decimal_value}
use Rattle.edge_expression.specs.Expressions.{Power, Number, Other, Epsilon}
use Rattle.edge_expression.specs.EntryValues.{decimal_entry, epsilon_value, factor_value}

-- the value of a factor that is a decimal
pub decimal_factor : (d : Decimal) → factor_value (Number d) ≡ decimal_entry (decimal_value d)
unfolding factor_value
decimal_factor d = refl

-- and of one that is a power of epsilon
pub epsilon_factor : (power : Option Power) → factor_value (Other (Epsilon power)) ≡ epsilon_value power
unfolding factor_value
epsilon_factor power = refl
