use Rattle.std.proofs.Common.{◌≡◌, ◌++◌, ◌∷◌, [], sym, ap, ap₂, ◌∙◌, length, take, arith}
use Rattle.std.proofs.lemmas.List.{take_more}
use Rattle.std.proofs.lemmas.Option.{get_or_from_slice_get}
use Rattle.std.proofs.Math.Seq.{take-length}
use Rattle.staged_levels.proofs.study.copied.Goals as goal

pub loop-k-preserved : goal.loop-k-preserved
loop-k-preserved c =
    let all = c.args.stages.now.spend in
    let x = c.in_ok-copy.field-0 in
    let n = c.loop-k.k in
    c.in_ok-push.ensures.pushed
    ∙ ap₂ (λ xs y. xs ++ y ∷ []) c.loop-k.invariant (c.in_ok-copy.ensures ∙ sym (get_or_from_slice_get all n _ x c.spend.ensures))
    ∙ sym (take_more all n x (let q = c.loop-k-test.true in let e = c.requires in omega (arith, q, e)))

pub returns : goal.returns
returns c =
    let all : c.loop-k.k ≡ length c.args.stages.now.spend = let q = c.loop-k-test.false in let e = c.requires in omega (arith, q, e) in
    c.loop-k.invariant ∙ ap (λ n. take n c.args.stages.now.spend) all ∙ take-length c.args.stages.now.spend
