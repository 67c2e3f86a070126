use Rattle.std.proofs.Common.{arith, drop, length, ◌≡◌, ℕ}
use Rattle.std.proofs.lemmas.List.{length-take}
use Rattle.graph_io.proofs.Pieces.{moved}
use Rattle.graph_io.proofs.remaining.Remaining.move_into.Goals as goal

pub returns-clause-moved : goal.returns-clause-moved
returns-clause-moved c =
    let n = c.min-count.result in
    let len : length c.copy_from_slice.new.self ≡ n = omega (arith, c.copy_from_slice.ensures.len, length-take {A = ℕ}) in
    rw (← c.self.view_is) (moved c.as_slice.result.now c.self.inside.bytes
    (drop n c.args.buf.now) c.copy_from_slice.new.self c.self.inside.at n c.as_slice.ensures c.copy_from_slice.ensures.after len)
