use Rattle.graph_cli.proofs.JsonRefused.{json_refused}
use Rattle.graph_cli.proofs.accepted.json_case.Goals as goal

pub returns-in-Ok : goal.returns-in-Ok
returns-in-Ok c = let h = c.in-Ok.ensures.case in (h.draft, h.says, (h.faultless, h.content_is))

pub returns-in_ok-json_refusal-in-Err : goal.returns-in_ok-json_refusal-in-Err
returns-in_ok-json_refusal-in-Err c =
    json_refused _ _ _ c.in-Err.ensures.fault c.in_ok-json_refusal-in-Err.ensures.memory c.in_ok-json_refusal-in-Err.ensures.line
