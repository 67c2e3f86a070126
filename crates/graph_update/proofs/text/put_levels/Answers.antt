use Rattle.case_model.specs.CaseView.{content}
use Rattle.entangled.specs.CaseNetView.{case_state}
use Rattle.entangled.specs.CaseRun.{is_live_in_case, case_level}
use Rattle.graph_update.specs.UpdateText.{level_lines}
use Rattle.graph_update.proofs.Lines.{put_none, put_more}
use Rattle.graph_update.proofs.text.put_levels.Goals as goal

pub loop-k-init : goal.loop-k-init
loop-k-init c = put_none (level_lines (content c.args.case.now).names (is_live_in_case (case_state c.args.nets.now)) (case_level (case_state c.args.nets.now))) c.args.text.now

pub loop-k-preserved : goal.loop-k-preserved
loop-k-preserved c = put_more (level_lines (content c.args.case.now).names (is_live_in_case (case_state c.args.nets.now)) (case_level (case_state c.args.nets.now))) c.args.text.now c.loop-k.text
    c.put_level_if.new.text c.loop-k.k c.loop-k.invariant c.in_ok-put_level_if.ensures
