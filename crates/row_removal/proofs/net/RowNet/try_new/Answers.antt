use Rattle.std.proofs.Common.{sym, ap, ◌∙◌, length}
use Rattle.row_removal.specs.StoredRow.{StoredRow}
use Rattle.row_removal.specs.RowNetView.{present_rows}
use Rattle.row_removal.proofs.Given.{size_given}
use Rattle.row_removal.proofs.Opened.{zero_count, zeros_live, zeros_room, rows_proper, rows_count, rows_sound, rows_value, rows_live}
use Rattle.row_removal.proofs.net.RowNet.try_new.Goals as goal

pub gather-requires-clause-live : goal.gather-requires-clause-live
gather-requires-clause-live c = rw (c.in_ok-present.ensures, c.new.ensures) (zeros_live c.args.weights.now c.args.edges.now)

pub gather-requires-clause-room : goal.gather-requires-clause-room
gather-requires-clause-room c = rw (c.in_ok-present.ensures, c.new.ensures) (zeros_room _ _ (size_given c.args.weights.now c.args.edges.now))

pub invariant_of-result-clause-proper : goal.invariant_of-result-clause-proper
invariant_of-result-clause-proper c = rows_proper c.args.weights.now c.args.edges.now c.requires.square c.requires.constants _
    (rw c.new.ensures at c.in_ok-gather.ensures)

pub invariant_of-result-clause-sound : goal.invariant_of-result-clause-sound
invariant_of-result-clause-sound c = rows_sound c.args.weights.now c.args.edges.now c.requires.square c.requires.constants _
    (rw c.new.ensures at c.in_ok-gather.ensures) c.requires.sound

pub invariant_of-result-clause-room : goal.invariant_of-result-clause-room
invariant_of-result-clause-room c = rw c.in_ok-next.ensures
    (zeros_room _ _ (rows_count c.args.weights.now c.args.edges.now c.requires.square c.requires.constants _ (rw c.new.ensures at c.in_ok-gather.ensures)))

pub invariant_of-result-clause-spare_room : goal.invariant_of-result-clause-spare_room
invariant_of-result-clause-spare_room c =
    ap (λ (r : StoredRow). length r.numerators) c.in_ok-spare.ensures ∙ zero_count (length c.args.weights.now)
    ∙ sym (rows_count c.args.weights.now c.args.edges.now c.requires.square c.requires.constants _ (rw c.new.ensures at c.in_ok-gather.ensures))

pub returns-clause-value : goal.returns-clause-value
unfolding present_rows
returns-clause-value c = rows_value c.args.weights.now c.args.edges.now c.requires.square c.requires.constants _ (rw c.new.ensures at c.in_ok-gather.ensures)

pub returns-clause-live : goal.returns-clause-live
unfolding present_rows
returns-clause-live c = rows_live c.args.weights.now c.args.edges.now c.requires.square c.requires.constants _ (rw c.new.ensures at c.in_ok-gather.ensures)
