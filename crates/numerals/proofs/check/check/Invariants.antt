use Rattle.std.proofs.Common.{◌≡◌, ◌+◌, drop}
use Rattle.numerals.specs.declared.numeral_machine.State.TheVariants.{Start}
use Rattle.numerals.proofs.Accepted.{reads}
use Rattle.numerals.proofs.Scan.{reached}
use Rattle.numerals.proofs.check.check.Given as goal

abbrev pub invariant-loop-at : goal.invariant-loop-at
invariant-loop-at l = record {
  same : reads (drop l.at l.text) l.state ≡ reads l.text Start;
  counted : l.at + reached (drop l.at l.text) l.state ≡ reached l.text Start;
}
