-- The graph after removals, from C.
use Rattle.std.specs.Prelude.{◌≡◌, ℕ, List, [], Some}
use Rattle.answers.specs.Codes.{cause_code}
use Rattle.answers.specs.Lines.{no_memory}
use Rattle.answers.specs.declared.refusal.Refusal.{Refusal}
use Rattle.case_model.specs.Content.{Content}
use Rattle.command_words.specs.Asked.{text}
use Rattle.field_core.specs.declared.place.WideAt.{WideAt}
use Rattle.graph_cli.specs.Accepted.{accepted}
use Rattle.graph_update.specs.Updates.{ArePositions, IsUpdate, IsFirstUndefined}
use Rattle.refusals.specs.WideRefusal.{wide_refusal}
use Rattle.refusals.specs.declared.wide.When.TheVariants.{Step}
use Rattle.welungad_c.specs.Delivery.{Delivers}
use Rattle.welungad_c.specs.RowCalls.{any_case}

-- The reply for a case and the positions of the hypotheses that are removed, by its status. It is the text of the graph after the removals, or nothing if
-- these aren't positions of hypotheses, each once. If an operation is undefined, it is the line that names the first one.
pub data IsCaseReply (c : Content) (removed reply : List ℕ) (status : ℕ) : Type 0 where
  updated : IsUpdate c removed reply → status ≡ 0 → IsCaseReply c removed reply status
  not_positions : ¬ ArePositions c removed → reply ≡ [] → status ≡ 11 → IsCaseReply c removed reply status
  too_wide : ArePositions c removed → (n : ℕ) → (w : WideAt) → IsFirstUndefined c removed n w → reply ≡ (wide_refusal c.names (Step n) w).line
      → status ≡ 5 → IsCaseReply c removed reply status

-- The reply for the case of a text: that for the case that it denotes, or the line with which it is refused, as every command refuses it.
pub data IsUpdateReply (bytes removed reply : List ℕ) (status : ℕ) : Type 0 where
  of_case : (c : Content) → (accepted text any_case (Some bytes)).Gives c → IsCaseReply c removed reply status → IsUpdateReply bytes removed reply status
  refused : (r : Refusal) → (accepted text any_case (Some bytes)).Refuses r → reply ≡ r.line → status ≡ cause_code r.cause
      → IsUpdateReply bytes removed reply status

-- The reply was delivered to the caller, or the call is out of memory.
pub data Updates (bytes removed old new : List ℕ) (needed result : ℕ) : Type 0 where
  replied : (reply : List ℕ) → (status : ℕ) → IsUpdateReply bytes removed reply status → Delivers reply status old new needed result
      → Updates bytes removed old new needed result
  memory : Delivers no_memory 8 old new needed result → Updates bytes removed old new needed result
