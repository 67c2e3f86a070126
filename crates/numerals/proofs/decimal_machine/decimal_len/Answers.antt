use Rattle.std.proofs.Common.{◌≡◌, ◌∙◌, sym, length, arith}
use Rattle.numerals.specs.DecimalMachine.{decimal_length}
use Rattle.numerals.proofs.DecimalLengths.{counted_on, counted_off, counted_end, is_longest}
use Rattle.numerals.proofs.decimal_machine.decimal_len.Goals as goal

pub loop-at-init : goal.loop-at-init
unfolding decimal_length
loop-at-init c = omega arith

at_stop : (c : goal.In-None) → c.loop-at.at ≡ decimal_length c.args.text.now
at_stop c = omega (
  arith,
  counted_off c.args.text.now c.loop-at.at c.loop-at.part c.loop-at-test.true (sym c.step.ensures ∙ c.in-None.is),
  c.loop-at.invariant,
)

pub returns-in-None-clause-value : goal.returns-in-None-clause-value
returns-in-None-clause-value c = at_stop c

pub returns-in-None-clause-longest : goal.returns-in-None-clause-longest
returns-in-None-clause-longest c = is_longest c.args.text.now c.loop-at.at (at_stop c)

pub loop-at-preserved : goal.loop-at-preserved
loop-at-preserved c = omega (
  arith,
  counted_on c.args.text.now c.loop-at.at c.loop-at.part c.in-Some.longer c.loop-at-test.true (sym c.step.ensures ∙ c.in-Some.is),
  c.loop-at.invariant,
)

at_end : (c : goal.After-loop-at) → length c.args.text.now ≡ decimal_length c.args.text.now
at_end c = omega (arith, counted_end c.args.text.now c.loop-at.at c.loop-at.part c.loop-at-test.false, c.loop-at.invariant)

pub returns-clause-value : goal.returns-clause-value
returns-clause-value c = at_end c

pub returns-clause-longest : goal.returns-clause-longest
returns-clause-longest c = is_longest c.args.text.now _ (at_end c)
