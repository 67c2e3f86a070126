use Rattle.std.proofs.Common.{refl, sym, ◌∙◌, subst, ◌+◌}
use Rattle.sequential.specs.Choices.{AreKeptBelow}
use Rattle.sequential.specs.TrialView.{trial}
use Rattle.sequential.proofs.KeptLines.{one_kept, one_gone}
use Rattle.sequential.proofs.decision.kept.Goals as goal
use Rattle.sequential.proofs.decision.kept.Goals.{then-is_in+in_ok-push, else-is_in}

pub loop-hypothesis-preserved : goal.loop-hypothesis-preserved
loop-hypothesis-preserved c =
    let s = (trial c.args.current.now).state in
    let k = c.loop-hypothesis.hypothesis in
    elim c.if-is_in.branch [
      | then-is_in+in_ok-push w ↦
          subst (AreKeptBelow (k + 1) s) (sym (w.lines-is ∙ w.in_ok-push.ensures.pushed))
          (one_kept k s c.loop-hypothesis.lines c.loop-hypothesis.invariant _ refl (sym c.is_in.ensures ∙ w.if-is_in.true) w.present_weight-weight.ensures)
      | else-is_in w ↦ subst (AreKeptBelow (k + 1) s) (sym w.lines-is)
          (one_gone k s c.loop-hypothesis.lines c.loop-hypothesis.invariant (sym c.is_in.ensures ∙ w.if-is_in.false))
    ]
