use Rattle.std.proofs.Common.{◌∷◌, [], ◌∙◌, ◌++◌, sym, ap}
use Rattle.std.proofs.lemmas.Result.{on_ok_weaker}
use Rattle.text_lines.specs.Spelling.{text_of}
use Rattle.edge_text.specs.CanonicalText.{spend_words, spend_lines}
use Rattle.edge_text.proofs.WrittenLines.{text_one}
use Rattle.edge_text.proofs.write_stages.put_spend.Goals as goal

pub returns-in-Shares : goal.returns-in-Shares
unfolding spend_lines
returns-in-Shares c =
    rw c.in-Shares.is (on_ok_weaker c.put_fractions.result
    (λ e. e ∙ ap (λ t. c.args.text.now ++ t)
    (sym (text_one (spend_words c.args.name.now c.as_slice.result.now))
    ∙ ap (λ fs. text_of (spend_words c.args.name.now fs ∷ [])) c.as_slice.ensures)) c.put_fractions.ensures)
