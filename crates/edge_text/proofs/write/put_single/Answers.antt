use Rattle.std.proofs.Common.{◌∷◌, [], ◌∙◌, ◌++◌, sym, ap}
use Rattle.std.proofs.lemmas.Result.{on_ok_weaker}
use Rattle.text_lines.specs.Spelling.{text_of}
use Rattle.edge_text.specs.CanonicalText.{p_words}
use Rattle.edge_text.proofs.WrittenLines.{text_one, nothing}
use Rattle.edge_text.proofs.write.put_single.Goals as goal

pub returns-in-Single : goal.returns-in-Single
returns-in-Single c =
    rw c.in-Single.is (on_ok_weaker c.put_p_values.result
    (λ e. e ∙ ap (λ t. c.args.text.now ++ t)
    (sym (text_one (p_words c.as_slice.result.now)) ∙ ap (λ ps. text_of (p_words ps ∷ [])) c.as_slice.ensures)) c.put_p_values.ensures)

pub returns-in-Bare : goal.returns-in-Bare
returns-in-Bare c = rw c.in-Bare.is (nothing c.args.text.now)

pub returns-in-Staged : goal.returns-in-Staged
returns-in-Staged c = rw c.in-Staged.is (nothing c.args.text.now)
