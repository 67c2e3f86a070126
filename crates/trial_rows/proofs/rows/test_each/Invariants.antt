use Rattle.std.proofs.Common.{◌<◌, ℕ, length, get_or}
use Rattle.case_model.specs.CaseView.{content}
use Rattle.sequential.specs.OtherPValues.{IsTrialOfGraph}
use Rattle.sequential.specs.TrialView.{trial}
use Rattle.trial_rows.specs.Rows.{IsRowTested, in_row}
use Rattle.trial_rows.proofs.rows.test_each.Given as goal

abbrev pub invariant-loop-row : goal.invariant-loop-row
invariant-loop-row l = record {
  graph : IsTrialOfGraph (content l.case) (trial l.current);
  tested : (k : ℕ) → k < l.row → IsRowTested (content l.case) (in_row (length (content l.case).names) l.doubles k)
      (in_row (length (content l.case).names) l.rejected k) (get_or l.statuses k 0);
}
