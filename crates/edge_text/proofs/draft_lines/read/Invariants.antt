use Rattle.std.proofs.Common.{◌≡◌, length}
use Rattle.text_lines.specs.Lines.{rows_of, end_of, rows_left, end_at}
use Rattle.edge_text.specs.declared.place.Place.TheVariants as at
use Rattle.text_lines.specs.Languages.{reading}
use Rattle.edge_text.specs.Places.{cases}
use Rattle.edge_text.proofs.draft_lines.read.Given as goal

abbrev pub invariant-loop-line : goal.invariant-loop-line
invariant-loop-line l = record {
  left : reading cases at.Alpha (rows_of l.bytes) (end_of l.bytes) ≡ reading cases l.place (rows_left l.lines) (end_of l.bytes);
  end : end_at l.lines ≡ end_of l.bytes;
}

abbrev pub decreases-loop-line : goal.decreases-loop-line
decreases-loop-line l = length (rows_left l.lines)
