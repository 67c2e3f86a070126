use Rattle.std.proofs.Common.{map, string_bytes, Some, sym, arith}
use Rattle.graph_cli.specs.Outcome.{outcome}
use Rattle.graph_io.specs.MemorySource.{bytes_left}
use Rattle.welungad_c.proofs.TopCall.{no_fault, reply_of}
use Rattle.welungad_c.proofs.reply.Reply.to.Goals as goal

pub returns : goal.returns
returns c =
    let words = map string_bytes c.args.words.now in
    let case = bytes_left c.in_ok-case.case in
    rw (sym c.in_ok-case.ensures, sym c.in_ok-proof.ensures, c.into_text.ensures)
    (reply_of (outcome words (Some case) (Some (bytes_left c.in_ok-proof.proof))) c.new-out.ensures.empty c.run-status.ensures.runs (no_fault words case)
    (λ seven. omega (arith, seven)))
