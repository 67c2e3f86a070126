use Rattle.std.proofs.Common.{sym, ap}
use Rattle.text_lines.specs.View.{row}
use Rattle.text_lines.proofs.LineRuns.{first_row}
use Rattle.evidence_check.specs.DocumentLines.{kinds}
use Rattle.field_core.specs.Answers.{told_as}
use Rattle.text_lines.specs.Forms.{words_seen, all_read}
use Rattle.evidence_check.specs.ReadView.{proof_fault}
use Rattle.evidence_check.proofs.document.nothing_after.Goals as goal

pub returns-in-Some : goal.returns-in-Some
returns-in-Some c = ap (λ rs. told_as proof_fault (all_read kinds tt (words_seen rs))) (sym (first_row c.args.lines.now.rows (row c.in-Some.line) c.in-Some.ensures))
