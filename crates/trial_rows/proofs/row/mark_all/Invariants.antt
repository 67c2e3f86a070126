use Rattle.std.proofs.Common.{◌<◌, ℕ, get_or}
use Rattle.case_model.specs.LegalOrder.{IsListed}
use Rattle.sequential.specs.TrialView.{trial}
use Rattle.trial_rows.specs.Rows.{IsMark}
use Rattle.trial_rows.proofs.row.mark_all.Given as goal

abbrev pub invariant-loop-j : goal.invariant-loop-j
invariant-loop-j l = (k : ℕ) → k < l.j → IsMark (IsListed (trial l.current).rejected k) (get_or l.marks k 0)
