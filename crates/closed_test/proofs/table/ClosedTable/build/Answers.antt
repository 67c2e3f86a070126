use Rattle.std.proofs.Common.{subst, ◌∙◌}
use Rattle.case_model.specs.CaseView.{content}
use Rattle.case_model.specs.SetAnswers.{AreClosedFrom}
use Rattle.case_model.specs.SetTableView.{answer_of}
use Rattle.closed_test.proofs.SetAnswers.{closed_answers_are}
use Rattle.closed_test.proofs.table.ClosedTable.build.Goals as goal

pub returns-clause-closed : goal.returns-clause-closed
returns-clause-closed c =
    let local = answer_of c.in_ok-local.local in
    let closed = answer_of c.in_ok-closed.closed in
    closed_answers_are (content c.args.case.now) local closed
    (subst (λ m. AreClosedFrom m local closed 0) (c.in_ok-local.ensures.size ∙ c.in_ok-weights.ensures.size) c.in_ok-closed.ensures.answers)
    c.in_ok-local.ensures.answers
