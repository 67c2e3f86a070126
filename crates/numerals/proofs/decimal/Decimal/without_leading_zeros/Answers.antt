use Rattle.std.proofs.Common.{◌∙◌, sym, arith}
use Rattle.std.proofs.lemmas.Bool.{eqb-true, eqb-false}
use Rattle.numerals.proofs.Zeros.{joined_none, joined_some}
use Rattle.numerals.proofs.decimal.Decimal.without_leading_zeros.Goals as goal

pub returns-then-is_empty : goal.returns-then-is_empty
returns-then-is_empty c = joined_none c.args.self.now.whole.now c.args.self.now.fraction.now _ _ (eqb-true _ 0 (sym c.is_empty.ensures ∙ c.if-is_empty.true))
    c.without_leading_zeros-whole.ensures c.without_leading_zeros.ensures

pub returns : goal.returns
returns c = joined_some c.args.self.now.whole.now c.args.self.now.fraction.now _
    (omega (arith, eqb-false _ 0 (sym c.is_empty.ensures ∙ c.if-is_empty.false))) c.without_leading_zeros-whole.ensures
