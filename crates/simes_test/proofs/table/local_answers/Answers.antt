use Rattle.std.proofs.Common.{◌≡◌, refl, sym, ap, subst, ◌∙◌, ℕ, ◌^◌, ◌<◌, Bool, List, length}
use Rattle.field_core.specs.declared.ratio.Ratio.{Ratio}
use Rattle.field_core.specs.OrderOfSets.{IsAscending, IsListStep, IsLastList}
use Rattle.case_model.specs.CaseView.{content}
use Rattle.case_model.specs.SetTableView.{answer_of}
use Rattle.closed_test.specs.Paths.{number_without}
use Rattle.closed_test.specs.WeightsView.{weight_at}
use Rattle.closed_test.proofs.SetAnswers.{of_single}
use Rattle.closed_test.proofs.SetSteps.{set_fits}
use Rattle.simes_test.specs.SimesSums.{IsFirstWideSum}
use Rattle.simes_test.specs.Tested.{IsTested}
use Rattle.simes_test.proofs.SimesSets.{tested_first, tested_next, all_tested, first_wide, answers_are, all_defined}
use Rattle.simes_test.proofs.table.local_answers.Goals as goal

-- what is known of all sets, for the hypotheses and the level of the case
tested_in : (ps : List Ratio) (weight : ℕ → ℕ → Ratio) (told : ℕ → Bool) (m k : ℕ) (alpha level : Ratio) → m ≡ k → alpha ≡ level
    → ((n : ℕ) → n < 2 ^ m → IsTested m ps weight alpha n (told n)) → (n : ℕ) → n < 2 ^ k → IsTested k ps weight level n (told n)
tested_in ps weight told m k alpha level e f all =
    subst (λ i. (n : ℕ) → n < 2 ^ i → IsTested i ps weight level n (told n)) e
    (subst (λ a. (n : ℕ) → n < 2 ^ m → IsTested m ps weight a n (told n)) f all)

pub sets-init : goal.sets-init
sets-init c = record {
  size = c.in_ok-path.ensures.size ∙ c.size-size.ensures.count ∙ sym c.requires.size;
  path = c.in_ok-path.ensures.path;
  table = c.in_ok-local.ensures.size ∙ c.size-size.ensures.count ∙ sym c.requires.size;
  tested = tested_first c.args.weights.now.size c.single_p_values-p_values.result.now (weight_at c.args.weights.now) c.alpha-alpha.result
      (answer_of c.in_ok-local.local) c.in_ok-path.path.left.items c.in_ok-path.ensures.left;
}

pub is_rejected-requires-clause-set : goal.is_rejected-requires-clause-set
is_rejected-requires-clause-set c = set_fits c.set-set.result c.sets.path.size c.args.weights.now.size c.args.weights.now.size c.sets.path.left.items
    c.set-set.ensures c.sets.invariant.size refl

pub put-requires : goal.put-requires
put-requires c = set_fits c.set-set.result c.sets.path.size c.args.weights.now.size c.sets.local.size c.sets.path.left.items c.set-set.ensures
    c.sets.invariant.size c.sets.invariant.table

pub returns-in-Err-clause-fault : goal.returns-in-Err-clause-fault
returns-in-Err-clause-fault c =
    let k = content c.args.case.now in
    let m = c.args.weights.now.size in
    let ps = c.single_p_values-p_values.result.now in
    let weight = weight_at c.args.weights.now in
    let left = c.sets.path.left.items in
    let ascending = subst (λ n. IsAscending n 0 left) c.sets.invariant.size c.sets.invariant.path.ascending in
    let number = c.set-set.ensures ∙ ap (λ n. number_without n left) c.sets.invariant.size in
    let first = first_wide m ps weight c.alpha-alpha.result left ascending c.set-set.result number
    (answer_of c.sets.local) c.sets.invariant.tested c.in-Err.wide c.in-Err.ensures.wide in
    of_single (λ qs. IsFirstWideSum (length k.names) qs weight c.set-set.result c.in-Err.wide) k.inputs ps c.single_p_values-p_values.ensures.inputs
    (subst (λ n. IsFirstWideSum n ps weight c.set-set.result c.in-Err.wide) c.requires.size first)

pub sets-preserved : goal.sets-preserved
sets-preserved c =
    let m = c.args.weights.now.size in
    let ps = c.single_p_values-p_values.result.now in
    let weight = weight_at c.args.weights.now in
    let left = c.sets.path.left.items in
    let new = c.step.new.self.left.items in
    let ascending = subst (λ n. IsAscending n 0 left) c.sets.invariant.size c.sets.invariant.path.ascending in
    let number = c.set-set.ensures ∙ ap (λ n. number_without n left) c.sets.invariant.size in
    let step = subst (λ n. IsListStep n left new c.in-Some.field-0) c.sets.invariant.size c.in-Some.ensures.step in
    record {
      size = c.in-Some.ensures.size ∙ c.sets.invariant.size;
      path = c.in-Some.ensures.path;
      table = c.put.ensures.size ∙ c.sets.invariant.table;
      tested = tested_next m ps weight c.alpha-alpha.result left ascending c.set-set.result number
          (answer_of c.sets.local) c.sets.invariant.tested c.in-Ok.answer c.in-Ok.ensures.tested
          (answer_of c.put.new.self) c.put.ensures.put c.put.ensures.others new c.in-Some.field-0 step;
    }

pub returns-in-None-clause-answers : goal.returns-in-None-clause-answers
returns-in-None-clause-answers c =
    let k = content c.args.case.now in
    let m = c.args.weights.now.size in
    let ps = c.single_p_values-p_values.result.now in
    let weight = weight_at c.args.weights.now in
    let left = c.sets.path.left.items in
    let ascending = subst (λ n. IsAscending n 0 left) c.sets.invariant.size c.sets.invariant.path.ascending in
    let number = c.set-set.ensures ∙ ap (λ n. number_without n left) c.sets.invariant.size in
    let last = subst (λ n. IsLastList n left) c.sets.invariant.size c.in-None.ensures.step in
    let next = answer_of c.put.new.self in
    let all = all_tested m ps weight c.alpha-alpha.result left ascending c.set-set.result number
    (answer_of c.sets.local) c.sets.invariant.tested c.in-Ok.answer c.in-Ok.ensures.tested next c.put.ensures.put c.put.ensures.others last in
    answers_are k ps c.single_p_values-p_values.ensures.inputs weight next
    (tested_in ps weight next m (length k.names) c.alpha-alpha.result k.alpha c.requires.size c.alpha-alpha.ensures.alpha all) c.requires.weights

pub returns-in-None-clause-defined : goal.returns-in-None-clause-defined
returns-in-None-clause-defined c =
    let k = content c.args.case.now in
    let m = c.args.weights.now.size in
    let ps = c.single_p_values-p_values.result.now in
    let weight = weight_at c.args.weights.now in
    let left = c.sets.path.left.items in
    let ascending = subst (λ n. IsAscending n 0 left) c.sets.invariant.size c.sets.invariant.path.ascending in
    let number = c.set-set.ensures ∙ ap (λ n. number_without n left) c.sets.invariant.size in
    let last = subst (λ n. IsLastList n left) c.sets.invariant.size c.in-None.ensures.step in
    let next = answer_of c.put.new.self in
    let all = all_tested m ps weight c.alpha-alpha.result left ascending c.set-set.result number
    (answer_of c.sets.local) c.sets.invariant.tested c.in-Ok.answer c.in-Ok.ensures.tested next c.put.ensures.put c.put.ensures.others last in
    all_defined k ps c.single_p_values-p_values.ensures.inputs weight next
    (tested_in ps weight next m (length k.names) c.alpha-alpha.result k.alpha c.requires.size c.alpha-alpha.ensures.alpha all)
