use Rattle.std.proofs.Common.{◌<◌, ◌+◌, map, length, arith}
use Rattle.case_model.specs.CaseView.{content}
use Rattle.entangled.specs.BundleView.{bundled}
use Rattle.graph_update.specs.UpdateText.{component_lines, component_words}
use Rattle.graph_update.proofs.Lines.{put_none, put_more, line_and}
use Rattle.graph_update.proofs.TextSteps.{component_put, size_of_net}
use Rattle.graph_update.proofs.text.put_nets.Goals as goal

pub loop-c-init : goal.loop-c-init
loop-c-init g c =
    let Gs = map g.R.Remover.graph (bundled c.args.nets.now).states in
    put_none (component_lines (content c.args.case.now).names g.F.Number.kind g.F.PrintedNumber.text Gs) c.args.text.now

pub put_graph-requires : goal.put_graph-requires
unfolding bundled
put_graph-requires g c =
    let states = (bundled c.args.nets.now).states in
    let within : c.loop-c.c < length states = omega (arith, c.loop-c-test.true, c.components-c-end.ensures) in
    size_of_net g.R.Remover.graph states _ (length (content c.args.case.now).names) c.loop-c.c _ c.net.ensures within c.args.nets.now.whole.alike.size c.requires

pub loop-c-preserved : goal.loop-c-preserved
loop-c-preserved g c =
    let states = (bundled c.args.nets.now).states in
    let names = (content c.args.case.now).names in
    let K = g.F.Number.kind in
    let text = g.F.PrintedNumber.text in
    let within : c.loop-c.c < length states = omega (arith, c.loop-c-test.true, c.components-c-end.ensures) in
    put_more (component_lines names K text (map g.R.Remover.graph states)) c.args.text.now c.loop-c.text c.put_graph.new.text c.loop-c.c c.loop-c.invariant
    (line_and c.loop-c.text c.put_component.new.text c.put_graph.new.text (component_words (c.loop-c.c + 1)) _ _
    (component_put names K text g.R.Remover.graph states c.loop-c.c _ c.net.ensures within) c.in_ok-put_component.ensures c.in_ok-put_graph.ensures)
