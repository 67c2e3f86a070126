use Rattle.std.proofs.Common.{sym, ap, ◌∙◌, ◌++◌, append-nil}
use Rattle.case_model.specs.CaseView.{content}
use Rattle.report.specs.TestReport.{name_if}
use Rattle.report.proofs.lines.put_name_if.Goals as goal

pub returns-then-not-is_put : goal.returns-then-not-is_put
returns-then-not-is_put c = sym (ap (λ b. c.args.text.now ++ name_if (content c.args.case.now) c.args.j b) c.if-not-is_put.true ∙ append-nil c.args.text.now)

pub returns : goal.returns
returns c = rw c.if-not-is_put.false c.put_name.ensures
