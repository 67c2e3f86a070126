use Rattle.std.proofs.Common.{◌∙◌, ◌++◌, ap}
use Rattle.case_model.specs.CaseView.{content}
use Rattle.text_lines.specs.Spelling.{text_of}
use Rattle.edge_text.specs.CanonicalText.{alpha_words, names_words, p_lines}
use Rattle.edge_text.specs.View.{line_of}
use Rattle.edge_text.proofs.WrittenLines.{whole_text}
use Rattle.edge_text.proofs.write.written.Goals as goal

pub returns : goal.returns
returns c =
    whole_text (content c.args.case.now) c.new-text.result c.put_alpha.new.text c.put_hypotheses.new.text c.put_single.new.text c.put_blocks.new.text
    c.put_staged.new.text c.new-text.ensures
    (c.in_ok-put_alpha.ensures ∙ ap (λ x. c.new-text.result ++ line_of (alpha_words x)) c.alpha.ensures.alpha)
    (c.in_ok-put_hypotheses.ensures ∙ ap (λ ns. c.put_alpha.new.text ++ line_of (names_words ns)) c.names.ensures)
    (c.in_ok-put_single.ensures ∙ ap (λ i. c.put_hypotheses.new.text ++ text_of (p_lines i)) c.inputs.ensures.inputs)
    c.in_ok-put_blocks.ensures c.in_ok-put_staged.ensures
