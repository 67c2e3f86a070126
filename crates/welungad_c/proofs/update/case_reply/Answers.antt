use Rattle.std.proofs.Common.{◌∙◌, ap, subst}
use Rattle.case_model.specs.CaseView.{content}
use Rattle.graph_update.specs.Updates.{IsUpdateFault}
use Rattle.refusals.specs.WideRefusal.{wide_refusal}
use Rattle.refusals.specs.declared.wide.When.TheVariants.{Step}
use Rattle.welungad_c.proofs.UpdateReplies.{wide_reply}
use Rattle.welungad_c.proofs.update.case_reply.Goals as goal

pub returns-in_ok-refusal-in-Err-Wide : goal.returns-in_ok-refusal-in-Err-Wide
returns-in_ok-refusal-in-Err-Wide c =
    let k = content c.args.case.now in
    wide_reply k c.args.removed.now c.refused.result.text c.refused.result.status c.in-Err-Wide.n c.in-Err-Wide.wide c.in_ok-refusal-in-Err-Wide.refusal
    (subst (IsUpdateFault k c.args.removed.now) c.in-Err-Wide.field-0-is c.in-Err-Wide.ensures.fault)
    (c.in_ok-refusal-in-Err-Wide.ensures ∙ ap (λ names. wide_refusal names (Step c.in-Err-Wide.n) c.in-Err-Wide.wide) c.names.ensures)
    c.refused.ensures.text c.refused.ensures.status
