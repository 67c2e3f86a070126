use Rattle.std.proofs.Common.{◌∙◌, sym}
use Rattle.std.proofs.lemmas.Result.{on_ok_weaker}
use Rattle.case_model.specs.CaseView.{content}
use Rattle.entangled.specs.CaseNetView.{case_state}
use Rattle.entangled.specs.CaseRun.{is_live_in_case, case_level}
use Rattle.graph_update.proofs.Lines.{no_lines, a_line}
use Rattle.graph_update.proofs.TextSteps.{level_removed, level_put}
use Rattle.graph_update.proofs.text.put_level_if.Goals as goal

pub returns-then-not-is_live : goal.returns-then-not-is_live
returns-then-not-is_live c = no_lines c.args.text.now _ (level_removed (content c.args.case.now).names (is_live_in_case (case_state c.args.nets.now)) (case_level (case_state c.args.nets.now)) c.args.k
    (sym c.is_live.ensures ∙ c.if-not-is_live.true))

pub returns : goal.returns
returns c = on_ok_weaker c.put_level.result
    (a_line c.args.text.now c.put_level.new.text _ _ (level_put (content c.args.case.now).names (is_live_in_case (case_state c.args.nets.now)) (case_level (case_state c.args.nets.now)) c.args.k
    (sym c.is_live.ensures ∙ c.if-not-is_live.false))) c.put_level.ensures
