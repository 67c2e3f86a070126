use Rattle.std.proofs.Common.{◌≡◌, ◌++◌, ◌∷◌, [], sym, ap, ap₂, ◌∙◌, length, take, arith}
use Rattle.std.proofs.lemmas.List.{take_more}
use Rattle.std.proofs.Math.Seq.{take-length}
use Rattle.case_model.proofs.spend_step.SpendStep.copied.Goals as goal

pub loop-n-preserved : goal.loop-n-preserved
loop-n-preserved c =
    let steps = c.args.steps.now in
    c.in_ok-push.ensures.pushed ∙ ap₂ (λ xs x. xs ++ x ∷ []) c.loop-n.invariant (c.in_ok-copy.ensures ∙ c.index-steps-n.is)
    ∙ sym (take_more steps c.loop-n.n c.index-steps-n.result c.loop-n-test.true)

pub returns : goal.returns
returns c =
    let all : c.loop-n.n ≡ length c.args.steps.now = omega arith in
    c.loop-n.invariant ∙ ap (λ n. take n c.args.steps.now) all ∙ take-length c.args.steps.now
