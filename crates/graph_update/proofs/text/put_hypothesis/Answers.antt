use Rattle.std.proofs.Common.{◌∙◌, sym, ap, ◌++◌}
use Rattle.std.proofs.lemmas.Result.{on_ok_weaker}
use Rattle.case_model.specs.CaseView.{content}
use Rattle.removal.specs.StoredGraph.{weight}
use Rattle.graph_update.specs.UpdateText.{line_text, weight_words}
use Rattle.graph_update.proofs.Lines.{no_lines, line_and}
use Rattle.graph_update.proofs.TextSteps.{hypothesis_removed, hypothesis_put}
use Rattle.graph_update.proofs.text.put_hypothesis.Goals as goal

pub returns-then-not-is_live : goal.returns-then-not-is_live
returns-then-not-is_live g c =
    let G = g.R.Remover.graph (g.R.Remover.present c.args.net.now) in
    no_lines c.args.text.now _ (hypothesis_removed (content c.args.case.now).names g.F.Number.kind g.F.PrintedNumber.text G c.args.l
    (sym c.is_live.ensures ∙ c.if-not-is_live.true))

pub returns : goal.returns
returns g c =
    let K = g.F.Number.kind in
    let text = g.F.PrintedNumber.text in
    let names = (content c.args.case.now).names in
    let G = g.R.Remover.graph (g.R.Remover.present c.args.net.now) in
    on_ok_weaker c.put_edges.result
    (line_and c.args.text.now c.put_weight.new.text c.put_edges.new.text (weight_words names c.args.l (text (weight K G c.args.l))) _ _
    (hypothesis_put names K text G c.args.l (sym c.is_live.ensures ∙ c.if-not-is_live.false))
    (c.in_ok-put_weight.ensures ∙ ap (λ x. c.args.text.now ++ line_text (weight_words names c.args.l (text x))) c.weight.ensures)) c.put_edges.ensures
