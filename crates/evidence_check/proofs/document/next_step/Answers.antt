use Rattle.std.proofs.Common.{◌∙◌, sym, ap, ◌∷◌, Some, Ok}
use Rattle.text_lines.specs.Forms.{words_seen}
use Rattle.text_lines.specs.View.{row}
use Rattle.text_lines.proofs.LineRuns.{first_row}
use Rattle.evidence_check.specs.DocumentLines.{step_line}
use Rattle.evidence_check.proofs.ReadAnswers.{found_one}
use Rattle.evidence_check.proofs.document.next_step.Goals as goal

pub returns-in-Ok-Some-clause-said : goal.returns-in-Ok-Some-clause-said
returns-in-Ok-Some-clause-said c = λ T h.
    found_one (step_line T) c.args.lines.now (row c.in-Some.line) c.skip.new.self c.in-Ok-Some.hypothesis
    (first_row c.args.lines.now.rows (row c.in-Some.line) c.in-Some.ensures ∙ ap (λ rs. row c.in-Some.line ∷ rs) (sym c.skip.ensures.rows))
    (sym (c.in-Ok-Some.ensures.said T h) ∙ ap Ok c.in-Ok-Some.field-0-is)
    ∙ ap (λ j. Ok (Some j, words_seen c.skip.new.self.rows)) (sym c.in-Ok-Some.hypothesis-is)
