use Rattle.std.proofs.Common.{◌≡◌, length}
use Rattle.text_lines.specs.Lines.{rows_left, end_at}
use Rattle.text_lines.proofs.lines.LinesIterator.next.Given as goal

abbrev pub invariant-loop-text : goal.invariant-loop-text
invariant-loop-text l = record { rows : rows_left l.self ≡ rows_left l.initial.self; end : end_at l.self ≡ end_at l.initial.self }

abbrev pub decreases-loop-text : goal.decreases-loop-text
decreases-loop-text l = length l.self.text
