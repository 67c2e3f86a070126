use Rattle.std.proofs.Common.{◌≡◌, ◌<◌, ℕ, Result, Ok}
use Rattle.evidence_check.specs.CheckSteps.{all_below}
use Rattle.evidence_check.specs.declared.event.CheckEvent.{CheckEvent}
use Rattle.evidence_check.proofs.sums.all_below.Given as goal

abbrev pub invariant-loop-i : goal.invariant-loop-i
invariant-loop-i g l = (f : ℕ → Result (Unit {0}) CheckEvent)
    → ((i : ℕ) (r : Result (Unit {0}) CheckEvent) → i < l.count → goal.T-post g l.test i r → r ≡ f i) → all_below l.i f ≡ Ok tt
