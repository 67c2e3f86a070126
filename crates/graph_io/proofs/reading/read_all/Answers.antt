use Rattle.std.proofs.Common.{arith, take, length, ℕ, ◌+◌, ◌≤◌}
use Rattle.std.proofs.lemmas.Result.{err_from_is_err_and}
use Rattle.std.proofs.lemmas.List.{length-take}
use Rattle.std.specs.Io.KnownBytes.{Consumes}
use Rattle.field_core.proofs.Results.{on_err}
use Rattle.graph_io.proofs.Pieces.{TookAtMost-piece, TookInTurns-piece}
use Rattle.graph_io.proofs.reading.read_all.Goals as goal

pub returns-in_err-append-in-Ok-clause-taken : goal.returns-in_err-append-in-Ok-clause-taken
returns-in_err-append-in-Ok-clause-taken g c =
    let l = c.pieces in
    let p = err_from_is_err_and c.from_residual.result c.from_residual.ensures.1 in
    let cs = take c.in-Ok.count c.take_piece.new.buf in
    let h : Consumes (g.S.Source.left l.source) (g.S.Source.left c.take_piece.new.source) cs = c.in-Ok.ensures.bytes.0 in
    let b : length l.read + length cs ≤ c.args.limit + 1 = omega (arith, length-take {A = ℕ}) in
    rw (p.1, p.2) (TookAtMost-piece (g.S.Source.left c.args.source.now) (g.S.Source.left l.source) (g.S.Source.left c.take_piece.new.source)
    (c.args.limit + 1) l.read cs l.invariant.taken h b)

pub returns-in_err-append-in-Ok-clause-each : goal.returns-in_err-append-in-Ok-clause-each
returns-in_err-append-in-Ok-clause-each g c =
    let l = c.pieces in
    let cs = take c.in-Ok.count c.take_piece.new.buf in
    let h : Consumes (g.S.Source.left l.source) (g.S.Source.left c.take_piece.new.source) cs = c.in-Ok.ensures.bytes.0 in
    let b : g.S.Source.calls c.take_piece.new.source ≤ g.S.Source.calls c.args.source.now + (length l.read + length cs + 1) = omega arith in
    on_err c.from_residual.result _ (TookInTurns-piece (g.S.Source.left c.args.source.now) (g.S.Source.left l.source)
    (g.S.Source.left c.take_piece.new.source) (g.S.Source.calls c.args.source.now) (g.S.Source.calls c.take_piece.new.source) l.read cs
    l.invariant.taken h b)
