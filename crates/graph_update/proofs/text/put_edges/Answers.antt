use Rattle.case_model.specs.CaseView.{content}
use Rattle.graph_update.specs.UpdateText.{edge_lines}
use Rattle.graph_update.proofs.Lines.{put_none, put_more}
use Rattle.graph_update.proofs.text.put_edges.Goals as goal

pub loop-k-init : goal.loop-k-init
loop-k-init g c =
    let G = g.R.Remover.graph (g.R.Remover.present c.args.net.now) in
    put_none (edge_lines (content c.args.case.now).names g.F.Number.kind g.F.PrintedNumber.text G c.args.l) c.args.text.now

pub loop-k-preserved : goal.loop-k-preserved
loop-k-preserved g c =
    let G = g.R.Remover.graph (g.R.Remover.present c.args.net.now) in
    put_more (edge_lines (content c.args.case.now).names g.F.Number.kind g.F.PrintedNumber.text G c.args.l) c.args.text.now c.loop-k.text
    c.put_edge_if.new.text c.loop-k.k c.loop-k.invariant c.in_ok-put_edge_if.ensures
