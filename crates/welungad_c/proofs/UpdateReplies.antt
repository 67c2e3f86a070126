-- The reply that names an undefined operation.
use Rattle.std.proofs.Common.{◌≡◌, ◌∙◌, ap, ℕ, List}
use Rattle.answers.specs.Codes.{cause_code}
use Rattle.answers.specs.declared.refusal.Refusal.{Refusal}
use Rattle.case_model.specs.Content.{Content}
use Rattle.field_core.specs.declared.place.WideAt.{WideAt}
use Rattle.graph_update.specs.Updates.{IsUpdateFault}
use Rattle.graph_update.specs.declared.fault.UpdateFault.TheVariants.{Wide}
use Rattle.refusals.specs.WideRefusal.{wide_refusal}
use Rattle.refusals.specs.declared.wide.When.TheVariants.{Step}
use Rattle.welungad_c.specs.UpdateCalls.{IsCaseReply, too_wide}

pub wide_reply : (c : Content) (removed reply : List ℕ) (status n : ℕ) (w : WideAt) (r : Refusal) → IsUpdateFault c removed (Wide n w)
    → r ≡ wide_refusal c.names (Step n) w → reply ≡ r.line → status ≡ cause_code r.cause → IsCaseReply c removed reply status
unfolding wide_refusal
wide_reply c removed reply status n w r f e line code = too_wide f.0 n w f.1 (line ∙ ap (λ r. r.line) e) (code ∙ ap (λ r. cause_code r.cause) e)
