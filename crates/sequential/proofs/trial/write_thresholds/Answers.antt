use Rattle.std.proofs.Common.{◌≡◌, ◌+◌, ◌<◌, ◌∙◌, sym, ap, subst, ℕ, List, length, arith}
use Rattle.std.proofs.lemmas.List.{length-set}
use Rattle.field_core.specs.Arithmetic.{◌*ε◌}
use Rattle.field_core.specs.declared.ratio.Ratio.{Ratio}
use Rattle.fraction.specs.View.{number_of}
use Rattle.case_model.specs.Sums.{number_at}
use Rattle.sequential.proofs.OtherPValues.{one_more_threshold, read_at}
use Rattle.sequential.proofs.trial.write_thresholds.Goals as goal

pub loop-k-preserved : goal.loop-k-preserved
loop-k-preserved c =
    let ps = c.args.p_values.now in
    let alpha = number_of c.args.alpha.now in
    let k = c.loop-k.k in
    let here = c.least_weight.ensures ∙ ap number_of (read_at ps k c.index-p_values-k.result c.loop-k-test.true c.index-p_values-k.is) in
    record {
      room = ap length c.set.ensures ∙ length-set c.loop-k.thresholds k c.least_weight.result ∙ c.loop-k.invariant.room;
      each = subst (λ (ts : List Ratio). (i : ℕ) → i < k + 1 → number_at ts i *ε alpha ≡ number_at ps i) (sym c.set.ensures)
          (one_more_threshold ps c.loop-k.thresholds c.args.alpha.now c.least_weight.result k
          (let r = c.loop-k.invariant.room in let t = c.loop-k-test.true in omega (arith, r, t)) c.loop-k.invariant.each here);
    }
