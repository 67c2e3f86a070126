use Rattle.std.proofs.Common.{rules}
use Rattle.case_model.specs.CaseView.{content}
use Rattle.case_model.specs.SetTableView.{answer_of}
use Rattle.report.specs.SimesReport.{set_alone}
use Rattle.report.proofs.simes.put_alone_names.Goals as goal

pub returns : goal.returns
returns c = c.put_names.ensures (λ j. answer_of c.args.closed.now (set_alone (content c.args.case.now) j)) (λ j b q p. search rules)
