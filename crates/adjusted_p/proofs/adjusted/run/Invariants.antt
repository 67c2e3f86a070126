use Rattle.std.proofs.Common.{◌≡◌, length}
use Rattle.case_model.specs.Content.{Content}
use Rattle.case_model.specs.Sums.{one_ratio}
use Rattle.sequential.specs.Trials.{IsTrialOf, number_left}
use Rattle.sequential.specs.TrialView.{trial}
use Rattle.adjusted_p.specs.Adjusting.{IsAdjustingSoFar}
use Rattle.adjusted_p.proofs.adjusted.run.Given as goal

abbrev pub invariant-loop-next : goal.invariant-loop-next
invariant-loop-next l = record {
  so_far : (c : Content) → IsTrialOf c (trial l.fn.current) → c.alpha ≡ one_ratio → IsAdjustingSoFar c (trial l.current) l.before l.values;
  count : length l.values ≡ length (trial l.current).p_values;
}

abbrev pub decreases-loop-next : goal.decreases-loop-next
decreases-loop-next l = let t = trial l.current in number_left t
