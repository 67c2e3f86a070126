use Rattle.std.proofs.Common.{◌≡◌, ◌++◌}
use Rattle.std.specs.List.{flat_map, range_with_len}
use Rattle.case_model.specs.CaseView.{content}
use Rattle.text_lines.specs.Spelling.{text_of}
use Rattle.graph_update.specs.UpdateText.{hypothesis_lines}
use Rattle.graph_update.proofs.text.put_graph.Given as goal

-- what is put is the lines of the hypotheses so far
abbrev pub invariant-loop-l : goal.invariant-loop-l
invariant-loop-l g l =
    let G = g.R.Remover.graph (g.R.Remover.present l.net) in
    l.text ≡ l.fn.text ++ text_of (flat_map (hypothesis_lines (content l.case).names g.F.Number.kind g.F.PrintedNumber.text G) (range_with_len 0 l.l))
