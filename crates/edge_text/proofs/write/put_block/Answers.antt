use Rattle.std.proofs.Common.{◌∙◌, ◌++◌, sym, ap, ap₂}
use Rattle.std.proofs.lemmas.Result.{on_ok_weaker}
use Rattle.case_model.specs.Content.{component_at}
use Rattle.text_lines.specs.Spelling.{text_of}
use Rattle.edge_text.specs.CanonicalText.{weights_words, table_lines, share_lines}
use Rattle.edge_text.specs.View.{line_of}
use Rattle.edge_text.proofs.WrittenLines.{three, block_text}
use Rattle.edge_text.proofs.write.put_block.Goals as goal

pub returns : goal.returns
returns c =
    let names = c.args.case.now.names in
    let k = component_at c.args.case.now.components c.args.component in
    let share = c.in_ok-put_share_unless.ensures ∙ ap (λ s. c.args.text.now ++ text_of (share_lines c.args.alone s)) c.share.ensures in
    let weights = c.in_ok-put_weights.ensures ∙ ap₂ (λ t ws. t ++ line_of (weights_words ws)) share c.weights.ensures.weights in
    on_ok_weaker c.put_edges.result (λ e.
    three c.args.text.now c.put_weights.new.text c.put_edges.new.text (text_of (share_lines c.args.alone k.share)) (line_of (weights_words k.weights))
    (text_of (table_lines names 0 k.edges)) weights
    (e ∙ ap₂ (λ ns es. c.put_weights.new.text ++ text_of (table_lines ns 0 es)) c.names.ensures c.edges.ensures.edges)
    ∙ ap (λ t. c.args.text.now ++ t) (sym (block_text names c.args.alone k))) c.put_edges.ensures
