use Rattle.std.proofs.Common.{◌+◌, ◌∙◌, ap₂, sym}
use Rattle.numerals.proofs.Zeros.{trailing_some, trailing_all}
use Rattle.numerals.proofs.decimal.Decimal.trailing_zeros.Goals as goal

pub returns-then-behind-self : goal.returns-then-behind-self
returns-then-behind-self c = c.trailing_zeros-behind.ensures
    ∙ sym (trailing_some c.args.self.now.whole.now c.args.self.now.fraction.now (rw (← c.trailing_zeros-behind.ensures) c.if-behind-self.true))

pub returns-else-behind-self : goal.returns-else-behind-self
returns-else-behind-self c = ap₂ ◌+◌ c.trailing_zeros-behind.ensures c.trailing_zeros.ensures
    ∙ sym (trailing_all c.args.self.now.whole.now c.args.self.now.fraction.now (rw (← c.trailing_zeros-behind.ensures) c.if-behind-self.false))
