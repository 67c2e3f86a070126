use Rattle.std.proofs.Common.{◌≡◌, ◌++◌, map}
use Rattle.std.specs.List.{flat_map, range_with_len}
use Rattle.case_model.specs.CaseView.{content}
use Rattle.entangled.specs.BundleView.{bundled}
use Rattle.text_lines.specs.Spelling.{text_of}
use Rattle.graph_update.specs.UpdateText.{component_lines}
use Rattle.graph_update.proofs.text.put_nets.Given as goal

-- what is put is the lines of the components so far
abbrev pub invariant-loop-c : goal.invariant-loop-c
invariant-loop-c g l =
    let Gs = map g.R.Remover.graph (bundled l.nets).states in
    l.text ≡ l.fn.text ++ text_of (flat_map (component_lines (content l.case).names g.F.Number.kind g.F.PrintedNumber.text Gs) (range_with_len 0 l.c))
