use Rattle.std.proofs.Common.{◌≡◌, ◌++◌}
use Rattle.std.specs.List.{flat_map, range_with_len}
use Rattle.case_model.specs.CaseView.{content}
use Rattle.text_lines.specs.Spelling.{text_of}
use Rattle.graph_update.specs.UpdateText.{edge_lines}
use Rattle.graph_update.proofs.text.put_edges.Given as goal

-- what is put is the lines of the edges so far
abbrev pub invariant-loop-k : goal.invariant-loop-k
invariant-loop-k g l =
    let G = g.R.Remover.graph (g.R.Remover.present l.net) in
    l.text ≡ l.fn.text ++ text_of (flat_map (edge_lines (content l.case).names g.F.Number.kind g.F.PrintedNumber.text G l.l) (range_with_len 0 l.k))
