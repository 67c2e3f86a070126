use Rattle.std.proofs.Common.{◌≡◌, ◌∙◌, sym, ap, ◌++◌, true, false}
use Rattle.std.proofs.lemmas.Result.{on_ok_weaker}
use Rattle.case_model.specs.CaseView.{content}
use Rattle.field_core.specs.Kind.{is_zero}
use Rattle.removal.specs.StoredGraph.{is_live, edge}
use Rattle.graph_update.specs.UpdateText.{line_text, edge_words}
use Rattle.graph_update.proofs.Lines.{no_lines, a_line}
use Rattle.graph_update.proofs.TextSteps.{edge_to_removed, edge_of_zero, edge_put}
use Rattle.graph_update.proofs.text.put_edge_if.Goals as goal

pub returns-then-not-is_live : goal.returns-then-not-is_live
returns-then-not-is_live g c =
    let G = g.R.Remover.graph (g.R.Remover.present c.args.net.now) in
    no_lines c.args.text.now _ (edge_to_removed (content c.args.case.now).names g.F.Number.kind g.F.PrintedNumber.text G c.args.l c.args.k
    (sym c.is_live.ensures ∙ c.if-not-is_live.true))

pub returns-then-is_zero : goal.returns-then-is_zero
returns-then-is_zero g c =
    let K = g.F.Number.kind in
    let G = g.R.Remover.graph (g.R.Remover.present c.args.net.now) in
    no_lines c.args.text.now _ (edge_of_zero (content c.args.case.now).names K g.F.PrintedNumber.text G c.args.l c.args.k
    (ap is_zero (sym c.edge-edge.ensures) ∙ sym c.is_zero.ensures ∙ c.if-is_zero.true))

pub returns : goal.returns
returns g c =
    let K = g.F.Number.kind in
    let text = g.F.PrintedNumber.text in
    let names = (content c.args.case.now).names in
    let G = g.R.Remover.graph (g.R.Remover.present c.args.net.now) in
    on_ok_weaker c.put_edge.result
    (λ e. a_line c.args.text.now c.put_edge.new.text _ (edge_words names c.args.l c.args.k (text (edge K G c.args.l c.args.k)))
    (edge_put names K text G c.args.l c.args.k (sym c.is_live.ensures ∙ c.if-not-is_live.false)
    (ap is_zero (sym c.edge-edge.ensures) ∙ sym c.is_zero.ensures ∙ c.if-is_zero.false))
    (e ∙ ap (λ x. c.args.text.now ++ line_text (edge_words names c.args.l c.args.k (text x))) c.edge-edge.ensures)) c.put_edge.ensures
