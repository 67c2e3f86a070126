use Rattle.std.proofs.Common.{◌≢◌, ◌<◌, refl, sym, subst, inl, inr, length}
use Rattle.std.specs.List.{All, AllPairs}
use Rattle.case_model.specs.CaseView.{content}
use Rattle.case_model.specs.SetTableView.{answer_of}
use Rattle.closed_test.specs.WeightsView.{weight_at}
use Rattle.discovery_bound.specs.BoundsView.{bound_of}
use Rattle.report.specs.SimesReport.{IsSimesReport}
use Rattle.simes_test.specs.SimesAnswers.{AreSimesClosedAnswers}
use Rattle.graph_cli.specs.Simes.{ReportsSimes, simes_stage}
use Rattle.graph_cli.specs.declared.trouble.Trouble.{Trouble}
use Rattle.graph_cli.proofs.HandedOn.{part_err_on}
use Rattle.graph_cli.proofs.Refusing.{sums_refuse}
use Rattle.graph_cli.proofs.SimesCalls.{simes_bounds, leaders_apart}
use Rattle.graph_cli.proofs.commands.simes.simes_answer.Goals as goal

pub returns-in_err-table : goal.returns-in_err-table
unfolding simes_stage
returns-in_err-table c =
    part_err_on _ _ _ _ c.from_residual-in_err-table.ensures.1
    (λ (t : Trouble) h. inr (content c.args.case.now, (c.in_ok-weights.ensures.defined, refl), inl h))
    (sums_refuse (content c.args.case.now) _ c.in_err-table.field-0.0 c.in_ok-weights.ensures.weights c.in_err-table.ensures.fault)

pub simes_text-requires-clause-below : goal.simes_text-requires-clause-below
simes_text-requires-clause-below c =
    let case = content c.args.case.now in
    subst (All (λ j. j < length case.names)) (sym c.as_slice.ensures) (leaders_apart case c.in_ok-ranking.ranking c.in_ok-ranking.ensures).0

pub simes_text-requires-clause-apart : goal.simes_text-requires-clause-apart
simes_text-requires-clause-apart c =
    subst (AllPairs (λ i j. i ≢ j)) (sym c.as_slice.ensures) (leaders_apart (content c.args.case.now) c.in_ok-ranking.ranking c.in_ok-ranking.ensures).1

pub returns : goal.returns
unfolding simes_stage
returns c =
    let case = content c.args.case.now in
    let closed = answer_of c.closed_table-closed.result.now in
    let bound = bound_of c.in_ok-bounds.bounds in
    let ranking = c.in_ok-ranking.ranking in
    let text = c.in_ok-simes_text.field-0 in
    let answers = subst (λ t. AreSimesClosedAnswers case (answer_of t)) (sym c.closed_table-closed.ensures.table) c.in_ok-table.ensures.closed in
    let report : ReportsSimes case text = record {
      bound = bound;
      closed = closed;
      leaders = ranking;
      bounds = simes_bounds case c.size.result closed bound c.size.ensures.count answers c.in_ok-bounds.ensures.bounds;
      answers = answers;
      order = c.in_ok-ranking.ensures;
      text_is = subst (λ js. IsSimesReport case bound closed js text) c.as_slice.ensures c.in_ok-simes_text.ensures;
    } in (
      case,
      (c.in_ok-weights.ensures.defined, refl),
      (text, ((weight_at c.in_ok-weights.weights, c.in_ok-weights.ensures.weights, c.in_ok-table.ensures.defined), report), c.done.ensures),
    )
