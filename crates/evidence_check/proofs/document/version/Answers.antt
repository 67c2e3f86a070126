use Rattle.std.proofs.Common.{sym}
use Rattle.text_lines.specs.View.{row}
use Rattle.evidence_check.specs.DocumentLines.{version_line}
use Rattle.evidence_check.proofs.ReadAnswers.{handed, line_given, line_fails, line_missing}
use Rattle.evidence_check.proofs.document.version.Goals as goal

pub returns-in_err-line-clause-said : goal.returns-in_err-line-clause-said
returns-in_err-line-clause-said c =
    handed _ c.from_residual.result c.in_err-line.field-0.0 _ c.from_residual.ensures.1
    (line_missing version_line c.args.lines.now c.in_err-line.field-0.0 c.in_err-line.ensures.fault.0 c.in_err-line.ensures.fault.1)

pub returns-in-Ok-clause-said : goal.returns-in-Ok-clause-said
returns-in-Ok-clause-said c =
    line_given version_line c.args.lines.now (row c.in_ok-line.line) c.next_line.new.lines _ c.in_ok-line.ensures.found (sym c.in-Ok.ensures)

pub returns-in-Err-clause-said : goal.returns-in-Err-clause-said
returns-in-Err-clause-said c =
    line_fails version_line c.args.lines.now (row c.in_ok-line.line) c.next_line.new.lines.rows c.in-Err.kind c.in_ok-line.ensures.found (sym c.in-Err.ensures)
