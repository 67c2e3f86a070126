use Rattle.std.proofs.Common.{◌≡◌, ◌+◌, drop}
use Rattle.numerals.specs.DecimalMachine.{decimal_length}
use Rattle.numerals.proofs.DecimalLengths.{counted}
use Rattle.numerals.proofs.decimal_machine.decimal_len.Given as goal

abbrev pub invariant-loop-at : goal.invariant-loop-at
invariant-loop-at l = l.at + counted (drop l.at l.text) l.part ≡ decimal_length l.text
