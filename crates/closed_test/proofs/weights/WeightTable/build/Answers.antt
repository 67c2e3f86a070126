use Rattle.std.proofs.Common.{sym, subst, ◌∙◌, ap, ◌+◌, [], map, arith}
use Rattle.case_model.specs.CaseView.{content}
use Rattle.entangled.specs.CaseNetView.{case_state}
use Rattle.closed_test.specs.Paths.{number_without}
use Rattle.closed_test.specs.WeightsView.{weight_at}
use Rattle.closed_test.specs.Walks.{AreStatesAlong, AreLikeTheFirst}
use Rattle.closed_test.proofs.Openings.{opened_along, opened_alike}
use Rattle.closed_test.proofs.SetTables.{weights_are, runs_defined, first_wide_set}
use Rattle.closed_test.proofs.weights.WeightTable.build.Goals as goal

pub walk-requires-clause-along : goal.walk-requires-clause-along
walk-requires-clause-along c =
    let k = content c.args.case.now in
    subst (λ xs. AreStatesAlong k [] (map case_state xs)) (sym c.deref_mut.ensures.value)
    (opened_along k (map case_state c.in-Ok.nets.items) (c.size-size.result + 1) (omega arith) c.in-Ok.ensures.opened)

pub walk-requires-clause-alike : goal.walk-requires-clause-alike
walk-requires-clause-alike c =
    let k = content c.args.case.now in
    let alike = opened_alike k (map case_state c.in-Ok.nets.items) (c.size-size.result + 1) (omega arith) c.in-Ok.ensures.opened in
    subst (λ n. AreLikeTheFirst (n + 1) (map case_state c.deref_mut.result.now)) c.size-size.ensures.count
    (subst (λ xs. AreLikeTheFirst (c.size-size.result + 1) (map case_state xs)) (sym c.deref_mut.ensures.value) alike)

pub returns-in-Ok-walk-clause-weights : goal.returns-in-Ok-walk-clause-weights
returns-in-Ok-walk-clause-weights c = weights_are (content c.args.case.now) c.args.case.now.valid (weight_at c.walk.new.table) c.in-Ok-walk.ensures.walk

pub returns-in-Ok-walk-clause-defined : goal.returns-in-Ok-walk-clause-defined
returns-in-Ok-walk-clause-defined c = runs_defined (content c.args.case.now) c.args.case.now.valid (weight_at c.walk.new.table) c.in-Ok-walk.ensures.walk

pub returns-clause-fault : goal.returns-clause-fault
returns-clause-fault c =
    let k = content c.args.case.now in
    let left = c.walk.new.path.left.items in
    let size = c.in-Err-walk.ensures.path.0 ∙ c.in_ok-path.ensures.size ∙ c.size-size.ensures.count in (
      omega (arith, c.if-size-gt-MOST_HYPOTHESES.false, c.size-size.ensures.count),
      first_wide_set k left c.set.result c.in-Err-walk.wide (c.set.ensures ∙ ap (λ n. number_without n left) size) c.in-Err-walk.ensures.walk,
    )
