use Rattle.std.proofs.Common.{◌≡◌, ◌∙◌, ap, subst}
use Rattle.std.specs.Prelude.{Some}
use Rattle.std.proofs.lemmas.Result.{IfOk-weaker}
use Rattle.answers.specs.Codes.{cause_code}
use Rattle.answers.specs.Stages.{seen_by}
use Rattle.answers.specs.Ways.{StopsIn, over_source}
use Rattle.answers.specs.declared.stop.Stop.TheVariants as stops
use Rattle.case_model.specs.CaseView.{content}
use Rattle.command_words.specs.Asked.{text}
use Rattle.graph_cli.specs.Accepted.{accepted}
use Rattle.graph_io.specs.Causes.{Rose}
use Rattle.graph_io.specs.MemorySource.{bytes_left}
use Rattle.welungad_c.specs.RowCalls.{any_case}
use Rattle.welungad_c.specs.UpdateCalls.{of_case, refused}
use Rattle.welungad_c.proofs.update.update_reply.Goals as goal

pub returns-in-Ok : goal.returns-in-Ok
returns-in-Ok c =
    let k = content c.in-Ok.case in
    let given : (accepted text any_case (Some c.args.text.now)).Gives k =
    subst (λ bytes. (accepted text any_case (Some bytes)).Gives k) c.in_ok-source.ensures
    (subst (λ needs. (accepted text needs (Some (bytes_left c.in_ok-source.source))).Gives k) c.new-needs.ensures c.in-Ok.ensures.ends.0) in
    IfOk-weaker c.case_reply.result _ _ (λ reply e. of_case k given e) c.case_reply.ensures

pub returns-in-Err-Refused : goal.returns-in-Err-Refused
returns-in-Err-Refused c =
    let r = c.in-Err-Refused.refusal in
    let ends : StopsIn (over_source (seen_by content (accepted text any_case (Some c.args.text.now))) (Rose 0 0) (0 ≡ 0)) (stops.Refused r) =
    subst (λ bytes. StopsIn (over_source (seen_by content (accepted text any_case (Some bytes))) (Rose 0 0) (0 ≡ 0)) (stops.Refused r)) c.in_ok-source.ensures
    (subst (λ needs. StopsIn (over_source (seen_by content (accepted text needs (Some (bytes_left c.in_ok-source.source)))) (Rose 0 0) (0 ≡ 0)) (stops.Refused r))
    c.new-needs.ensures
    (subst (λ stop. StopsIn (over_source (seen_by content (accepted text c.new-needs.result (Some (bytes_left c.in_ok-source.source)))) (Rose 0 0) (0 ≡ 0)) stop)
    c.in-Err-Refused.field-0-is c.in-Err-Refused.ensures.ends)) in
    refused r ends.0 (c.refused.ensures.text ∙ ap (λ r. r.line) c.in-Err-Refused.refusal-is)
    (c.refused.ensures.status ∙ ap (λ r. cause_code r.cause) c.in-Err-Refused.refusal-is)
