use Rattle.case_model.specs.CaseView.{content}
use Rattle.graph_update.specs.UpdateText.{hypothesis_lines}
use Rattle.graph_update.proofs.Lines.{put_none, put_more}
use Rattle.graph_update.proofs.text.put_graph.Goals as goal

pub loop-l-init : goal.loop-l-init
loop-l-init g c =
    let G = g.R.Remover.graph (g.R.Remover.present c.args.net.now) in
    put_none (hypothesis_lines (content c.args.case.now).names g.F.Number.kind g.F.PrintedNumber.text G) c.args.text.now

pub loop-l-preserved : goal.loop-l-preserved
loop-l-preserved g c =
    let G = g.R.Remover.graph (g.R.Remover.present c.args.net.now) in
    put_more (hypothesis_lines (content c.args.case.now).names g.F.Number.kind g.F.PrintedNumber.text G) c.args.text.now c.loop-l.text
    c.put_hypothesis.new.text c.loop-l.l c.loop-l.invariant c.in_ok-put_hypothesis.ensures
