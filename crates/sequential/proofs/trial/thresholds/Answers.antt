use Rattle.std.proofs.Common.{◌≡◌, sym, ap, subst, ◌∙◌, ℕ, ◌<◌, ◌+◌, length}
use Rattle.std.proofs.lemmas.List.{length-append}
use Rattle.field_core.specs.Arithmetic.{◌*ε◌}
use Rattle.fraction.specs.View.{number_of}
use Rattle.case_model.specs.Sums.{number_at}
use Rattle.case_model.proofs.SumSteps.{item_is}
use Rattle.sequential.proofs.RatioFacts.{threshold_more}
use Rattle.sequential.proofs.trial.thresholds.Goals as goal

pub loop-p-preserved : goal.loop-p-preserved
loop-p-preserved c =
    let ps = c.args.p_values.now in
    let n = c.loop-p.p-index in
    let more = c.in_ok-push.ensures.pushed in
    let item = item_is ps n c.p-item.result c.loop-p-test.true c.p-item.is in
    record {
      count = ap length more ∙ length-append c.loop-p.thresholds _ ∙ ap (λ m. m + 1) c.loop-p.invariant.count;
      each = subst (λ ts. (k : ℕ) → k < n + 1 → number_at ts k *ε number_of c.args.alpha.now ≡ number_at ps k) (sym more)
          (threshold_more ps c.loop-p.thresholds c.args.alpha.now c.least_weight.result n c.loop-p.invariant.count c.loop-p.invariant.each
          (c.least_weight.ensures ∙ ap number_of (sym item)));
    }
