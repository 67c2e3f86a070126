use Rattle.std.proofs.Common.{◌≡◌, sym, ap, ◌∙◌, ◌∷◌, ◌-◌, suc, drop, slice_get, arith}
use Rattle.std.proofs.Math.Seq.{drop-cons}
use Rattle.std.specs.Option.{option_and_then}
use Rattle.fraction.specs.View.{number_of}
use Rattle.case_model.specs.declared.spend_step.SpendStep.{SpendStep}
use Rattle.case_model.specs.Spends.{last_step}
use Rattle.case_model.proofs.StageLevels.{none_behind, step_passed, step_counts, last_behind}
use Rattle.case_model.proofs.stage_levels.table_level.Goals as goal
use Rattle.case_model.proofs.stage_levels.table_level.Goals.{After-index-steps-n}

rest : (c : After-index-steps-n) → drop (c.loop-n.n - 1) c.args.steps.now ≡ c.index-steps-n.result ∷ drop c.loop-n.n c.args.steps.now
rest c =
    let ss = c.args.steps.now in
    let n = c.loop-n.n in
    let s = c.index-steps-n.result in
    let next : suc (n - 1) ≡ n = omega arith in
    drop-cons ss (n - 1) s (omega arith) ∙ ap (λ x. x ∷ drop (suc (n - 1)) ss) (sym c.index-steps-n.is) ∙ ap (λ k. s ∷ drop k ss) next

pub loop-n-init : goal.loop-n-init
loop-n-init c = none_behind c.args.steps.now (number_of c.args.weight.now)

pub loop-n-preserved : goal.loop-n-preserved
loop-n-preserved c =
    let u = number_of c.args.weight.now in
    ap (λ ss. last_step ss u) (rest ((goal.at.loop-n-preserved c).After-index-steps-n))
    ∙ step_passed c.index-steps-n.result (drop c.loop-n.n c.args.steps.now) u c.loop-n.invariant (sym c.is_at_most.ensures ∙ c.if-is_at_most.false)

pub returns-then-is_at_most : goal.returns-then-is_at_most
returns-then-is_at_most c =
    let u = number_of c.args.weight.now in
    let ss = c.args.steps.now in
    let s = c.index-steps-n.result in
    let last = ap (λ ss. last_step ss u) (rest ((goal.at.returns-then-is_at_most c).After-index-steps-n))
    ∙ step_counts s (drop c.loop-n.n ss) u c.loop-n.invariant (sym c.is_at_most.ensures ∙ c.if-is_at_most.true) in
    c.at_stage.ensures ∙ ap (λ xs. slice_get xs (c.args.t - 1)) c.as_slice.ensures
    ∙ ap (option_and_then (λ (s : SpendStep). slice_get s.levels (c.args.t - 1))) (sym (last_behind (c.loop-n.n - 1) ss u s last))
