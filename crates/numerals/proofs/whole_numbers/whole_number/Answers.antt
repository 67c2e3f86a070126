use Rattle.std.proofs.Common.{sym, ◌∙◌}
use Rattle.numerals.proofs.WholeNumbers.{other_none}
use Rattle.numerals.proofs.whole_numbers.whole_number.Goals as goal

pub returns-then-not-are_digits-clause-other : goal.returns-then-not-are_digits-clause-other
returns-then-not-are_digits-clause-other c = other_none c.args.most c.args.text.now (sym c.are_digits.ensures ∙ c.if-not-are_digits.true)
