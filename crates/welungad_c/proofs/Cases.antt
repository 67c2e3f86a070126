-- Why a text gives no case, by how the reading of a source in memory stops.
use Rattle.std.proofs.Common.{refl, arith, ℕ, List}
use Rattle.std.specs.Prelude.{Some}
use Rattle.answers.specs.Codes.{stop_code}
use Rattle.answers.specs.Stages.{seen_by}
use Rattle.answers.specs.Ways.{StopsIn, over_source}
use Rattle.answers.specs.declared.stop.Stop.{Stop}
use Rattle.answers.specs.declared.stop.Stop.TheVariants as stops
use Rattle.case_model.specs.CaseView.{content}
use Rattle.command_words.specs.Asked.{text}
use Rattle.graph_cli.specs.Accepted.{accepted}
use Rattle.graph_io.specs.Causes.{Rose}
use Rattle.welungad_c.specs.RowCalls.{any_case, IsNoCase, refused, memory}

-- such a source has no fault, so it stops by a refusal or out of memory
pub no_case : (bytes : List ℕ) (clean : Type 0) (stop : Stop)
    → StopsIn (over_source (seen_by content (accepted text any_case (Some bytes))) (Rose 0 0) clean) stop → IsNoCase bytes (stop_code stop)
no_case bytes clean (stops.Refused r) h = refused r h.0 refl
no_case bytes clean stops.ReadFault h = let more : Rose 0 0 = h in absurd (omega (arith, more))
no_case bytes clean stops.KeeperFault h = absurd h
no_case bytes clean stops.NoMemory h = memory refl
