use Rattle.std.proofs.Common.{map, sym}
use Rattle.std.specs.Prelude.{string_bytes}
use Rattle.command_words.specs.Asked.{asked}
use Rattle.graph_cli.proofs.SourcesRead.{takes_case, takes_proof, unasked}
use Rattle.graph_cli.proofs.top.answer.Goals as goal

pub returns-in-Ok-clause-case_end : goal.returns-in-Ok-clause-case_end
returns-in-Ok-clause-case_end g c =
    λ reads. c.call.ensures.case_end (takes_case (map string_bytes c.args.words.now) (asked c.in-Ok.command) (sym c.in-Ok.ensures) reads)

pub returns-in-Ok-clause-proof_end : goal.returns-in-Ok-clause-proof_end
returns-in-Ok-clause-proof_end g c =
    λ reads. c.call.ensures.proof_end
    (takes_proof (map string_bytes c.args.words.now) (g.S.Source.left c.args.case.now) (asked c.in-Ok.command) (sym c.in-Ok.ensures) reads)

pub returns-in-Ok-clause-proof_asked : goal.returns-in-Ok-clause-proof_asked
returns-in-Ok-clause-proof_asked g c = λ reads none. c.call.ensures.proof_asked
    (takes_proof (map string_bytes c.args.words.now) (g.S.Source.left c.args.case.now) (asked c.in-Ok.command) (sym c.in-Ok.ensures) reads)
    (λ r. none (asked c.in-Ok.command, sym c.in-Ok.ensures, r))

pub returns-in_err-usage-in-Err-clause-proof_asked : goal.returns-in_err-usage-in-Err-clause-proof_asked
returns-in_err-usage-in-Err-clause-proof_asked g c = λ reads none. absurd (unasked (map string_bytes c.args.words.now) reads.0 c.in-Err.n reads.1 (sym c.in-Err.ensures))

pub returns-in_ok-usage-in-Err-clause-proof_asked : goal.returns-in_ok-usage-in-Err-clause-proof_asked
returns-in_ok-usage-in-Err-clause-proof_asked g c = λ reads none. absurd (unasked (map string_bytes c.args.words.now) reads.0 c.in-Err.n reads.1 (sym c.in-Err.ensures))
