use Rattle.std.proofs.Common.{subst, sym}
use Rattle.case_model.specs.CaseView.{content}
use Rattle.case_model.specs.SetTableView.{answer_of}
use Rattle.closed_test.specs.SetTests.{AreClosedAnswers}
use Rattle.discovery_bound.specs.BoundsView.{bound_of}
use Rattle.graph_cli.specs.Bounds.{bounds_stage}
use Rattle.graph_cli.proofs.SetAnswers.{closed_bounds}
use Rattle.graph_cli.proofs.commands.bounds.bounds_answer.Goals as goal

pub returns : goal.returns
unfolding bounds_stage
returns c = (
  c.in_ok-bounds_text.field-0,
  (
    c.in_ok-table.ensures.defined,
    (
      bound_of c.in_ok-bounds.bounds,
      closed_bounds (content c.args.case.now) c.size.result (answer_of c.closed_table.result.now)
          (bound_of c.in_ok-bounds.bounds) c.size.ensures.count
          (subst (λ t. AreClosedAnswers (content c.args.case.now) (answer_of t))
          (sym c.closed_table.ensures.table) c.in_ok-table.ensures.closed) c.in_ok-bounds.ensures.bounds,
      c.in_ok-bounds_text.ensures,
    ),
  ),
  c.done.ensures,
)
