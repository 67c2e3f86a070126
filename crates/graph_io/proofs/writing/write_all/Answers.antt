use Rattle.std.proofs.Common.{◌∙◌, arith, take, drop, length, ◌<◌, ◌≤◌, ◌-◌, ℕ}
use Rattle.std.specs.Io.KnownBytes.{Appends}
use Rattle.std.proofs.lemmas.List.{length-drop, length-take}
use Rattle.graph_io.proofs.Pieces.{Appends-piece}
use Rattle.graph_io.proofs.writing.write_all.Goals as goal

pub pieces-preserved : goal.pieces-preserved
pieces-preserved g c =
    let l = c.pieces in
    let n = c.in_ok-from.field-0 in
    let bytes = c.args.bytes.now in
    let h : Appends (g.W.Sink.held l.sink) (g.W.Sink.held c.put.new.self) (take n (take (length bytes - l.from) (drop l.from bytes))) =
    c.in_ok-from.ensures.bytes in
    let b : n ≤ length (take (length bytes - l.from) (drop l.from bytes)) = c.in_ok-from.ensures.bound in
    let some : 0 < n = c.in_ok-from.ensures.some (omega (arith, length-drop {A = ℕ}, length-take {A = ℕ})) in
    record {
      within = omega (arith, length-drop {A = ℕ}, length-take {A = ℕ});
      put = Appends-piece (g.W.Sink.held c.args.sink.now) (g.W.Sink.held l.sink) (g.W.Sink.held c.put.new.self) l.from n bytes l.invariant.put h;
      later = omega arith;
      same = c.in_ok-from.ensures.cause.stayed ∙ l.invariant.same;
      turns = omega (arith, some);
    }
