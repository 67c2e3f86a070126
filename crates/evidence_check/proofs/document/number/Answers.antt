use Rattle.std.proofs.Common.{refl, sym}
use Rattle.text_lines.specs.View.{row}
use Rattle.case_model.specs.CaseView.{content}
use Rattle.evidence_check.specs.DocumentLines.{number_line}
use Rattle.evidence_check.specs.Document.{numbers}
use Rattle.evidence_check.specs.NumberReading.{case_frame}
use Rattle.evidence_check.proofs.ReadAnswers.{handed, line_given, line_fails, line_missing}
use Rattle.evidence_check.proofs.ReadAnswers.{frame_name}
use Rattle.evidence_check.proofs.document.number.Goals as goal

pub returns-in_err-line-clause-said : goal.returns-in_err-line-clause-said
returns-in_err-line-clause-said g c =
    handed _ c.from_residual.result c.in_err-line.field-0.0 _ c.from_residual.ensures.1
    (line_missing (number_line (case_frame g.F.CaseNumber.numbers (content c.args.case.now)) c.args.quantity c.args.c c.args.hypothesis) c.args.lines.now c.in_err-line.field-0.0 c.in_err-line.ensures.fault.0
    c.in_err-line.ensures.fault.1)

pub returns-in-Ok-clause-said : goal.returns-in-Ok-clause-said
returns-in-Ok-clause-said g c =
    line_given (number_line (case_frame g.F.CaseNumber.numbers (content c.args.case.now)) c.args.quantity c.args.c c.args.hypothesis) c.args.lines.now (row c.in_ok-line.line) c.next_line.new.lines
    (g.F.Number.parts c.in-Ok.number) c.in_ok-line.ensures.found
    (sym (c.in-Ok.ensures.said (case_frame g.F.CaseNumber.numbers (content c.args.case.now)) c.args.hypothesis (frame_name g.F.CaseNumber.numbers (content c.args.case.now) _ _ c.name.ensures) (λ text. refl)))

pub returns-in-Err-clause-said : goal.returns-in-Err-clause-said
returns-in-Err-clause-said g c =
    line_fails (number_line (case_frame g.F.CaseNumber.numbers (content c.args.case.now)) c.args.quantity c.args.c c.args.hypothesis) c.args.lines.now (row c.in_ok-line.line) c.next_line.new.lines.rows c.in-Err.kind
    c.in_ok-line.ensures.found
    (sym (c.in-Err.ensures.said (case_frame g.F.CaseNumber.numbers (content c.args.case.now)) c.args.hypothesis (frame_name g.F.CaseNumber.numbers (content c.args.case.now) _ _ c.name.ensures) (λ text. refl)))
