use Rattle.std.proofs.Common.{◌∙◌, ◌++◌, sym, ap}
use Rattle.text_lines.specs.Spelling.{text_of}
use Rattle.edge_text.specs.CanonicalText.{late_lines}
use Rattle.edge_text.proofs.WrittenLines.{nothing}
use Rattle.edge_text.proofs.write.put_staged.Goals as goal

pub returns-in-Bare : goal.returns-in-Bare
returns-in-Bare c = nothing c.args.text.now ∙ ap (λ i. c.args.text.now ++ text_of (late_lines c.args.case.now.names i))
    (sym c.in-Bare.is ∙ c.inputs.ensures.inputs)

pub returns-in-Single : goal.returns-in-Single
returns-in-Single c = nothing c.args.text.now ∙ ap (λ i. c.args.text.now ++ text_of (late_lines c.args.case.now.names i))
    (sym c.in-Single.is ∙ c.inputs.ensures.inputs)
