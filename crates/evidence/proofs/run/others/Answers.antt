use Rattle.std.proofs.Common.{◌∙◌, sym, ap, ◌++◌, ◌∷◌, [], not}
use Rattle.evidence.proofs.Lists.{others_none, others_more, others_same, any_listed}
use Rattle.evidence.proofs.run.others.Goals as goal
use Rattle.evidence.proofs.run.others.Goals.{then-is_missing+in_ok-push, else-is_missing}

pub loop-k-init : goal.loop-k-init
loop-k-init c = c.new-others.ensures ∙ sym (others_none c.args.listed.now)

pub loop-k-preserved : goal.loop-k-preserved
loop-k-preserved c =
    elim c.if-is_missing.branch [
      | then-is_missing+in_ok-push w ↦
          w.others-is ∙ w.in_ok-push.ensures.pushed ∙ ap (λ ks. ks ++ c.loop-k.k ∷ []) c.loop-k.invariant
          ∙ sym (others_more c.args.listed.now c.loop-k.k
          (ap not (sym (any_listed c.args.listed.now c.loop-k.k)) ∙ sym c.is_missing.ensures ∙ w.if-is_missing.true))
      | else-is_missing w ↦
          w.others-is ∙ c.loop-k.invariant
          ∙ sym (others_same c.args.listed.now c.loop-k.k
          (ap not (sym (any_listed c.args.listed.now c.loop-k.k)) ∙ sym c.is_missing.ensures ∙ w.if-is_missing.false))
    ]
