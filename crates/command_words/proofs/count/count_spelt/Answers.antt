use Rattle.std.proofs.Common.{arith}
use Rattle.command_words.proofs.CountTexts.{large_none, count_spelt}
use Rattle.command_words.proofs.count.count_spelt.Goals as goal

pub returns-then-count : goal.returns-then-count
returns-then-count c = large_none c.args.text.now c.in_ok-count.count c.in_ok-count.ensures.found (omega (arith, c.if-count.true))

pub returns : goal.returns
returns c = count_spelt c.args.text.now c.in_ok-count.count c.in_ok-count.ensures.found (omega (arith, c.if-count.false))
