use Rattle.std.proofs.Common.{arith, sym, ◌∙◌}
use Rattle.std.proofs.lemmas.Grind.{common_steps}
use Rattle.case_model.specs.CaseView.{content}
use Rattle.text_lines.specs.Lines.{end_of, rows_left}
use Rattle.text_lines.specs.View.{row}
use Rattle.study_cli.proofs.CommandReads.{line_taken}
use Rattle.study_cli.proofs.reading.read.Goals as goal

pub loop-line-preserved : goal.loop-line-preserved
loop-line-preserved c =
    let taken = line_taken (content c.args.case.now).names c.loop-line.commands (row c.in-Some.line) (rows_left c.next.new.self) (end_of c.args.bytes.now)
    c.in_ok-command.field-0 (sym c.in_ok-command.was ∙ c.command.ensures) in
    grind (arith, common_steps, taken)
