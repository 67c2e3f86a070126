use Rattle.std.proofs.Common.{ap, subst, ◌∙◌, [], ◌∷◌, ◌++◌}
use Rattle.field_core.specs.OrderOfSets.{IsListStep, IsLastList}
use Rattle.closed_test.specs.Paths.{number_without}
use Rattle.closed_test.proofs.SetLists.{listed_first, listed_next, all_listed}
use Rattle.closed_test.proofs.order.sets_in_order.Goals as goal

pub sets-init : goal.sets-init
sets-init c =
    let path = c.in_ok-path.path in
    record {
      size = c.in_ok-path.ensures.size;
      path = c.in_ok-path.ensures.path;
      listed = listed_first c.args.size c.set.result path.left.items _ c.in_ok-path.ensures.left
          (c.set.ensures ∙ ap (λ n. number_without n path.left.items) c.in_ok-path.ensures.size)
          (c.in_ok-push.ensures.pushed ∙ ap (λ xs. xs ++ c.set.result ∷ []) c.new-sets.ensures);
    }

pub sets-preserved : goal.sets-preserved
sets-preserved c =
    let old = c.sets.path.left.items in
    let new = c.step.new.self.left.items in
    let size = c.in-Some.ensures.size ∙ c.sets.invariant.size in
    let step = subst (λ n. IsListStep n old new c.in-Some.field-0) c.sets.invariant.size c.in-Some.ensures.step in
    record {
      size = size;
      path = c.in-Some.ensures.path;
      listed = listed_next c.args.size c.set-in-Some.result c.in-Some.field-0 c.sets.sets old new c.sets.invariant.listed step c.in-Some.ensures.later
          (c.set-in-Some.ensures ∙ ap (λ n. number_without n new) size) _ c.in_ok-push-in-Some.ensures.pushed;
    }

pub returns-in-None : goal.returns-in-None
returns-in-None c = all_listed c.args.size c.sets.sets c.sets.path.left.items c.sets.invariant.listed
    (subst (λ n. IsLastList n c.sets.path.left.items) c.sets.invariant.size c.in-None.ensures.step)
