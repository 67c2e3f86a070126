use Rattle.std.proofs.Common.{◌≡◌, ◌++◌}
use Rattle.std.specs.List.{flat_map, range_with_len}
use Rattle.case_model.specs.CaseView.{content}
use Rattle.entangled.specs.CaseNetView.{case_state}
use Rattle.entangled.specs.CaseRun.{is_live_in_case, case_level}
use Rattle.text_lines.specs.Spelling.{text_of}
use Rattle.graph_update.specs.UpdateText.{level_lines}
use Rattle.graph_update.proofs.text.put_levels.Given as goal

-- what is put is the lines of the levels so far
abbrev pub invariant-loop-k : goal.invariant-loop-k
invariant-loop-k l =
    l.text ≡ l.fn.text ++ text_of (flat_map (level_lines (content l.case).names (is_live_in_case (case_state l.nets)) (case_level (case_state l.nets))) (range_with_len 0 l.k))
