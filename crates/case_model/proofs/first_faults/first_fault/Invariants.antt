use Rattle.std.proofs.Common.{◌≡◌, ℕ, Option, None}
use Rattle.case_model.specs.declared.fault.CaseFault.{CaseFault}
use Rattle.case_model.specs.CaseFaults.{first_below}
use Rattle.case_model.proofs.FirstFaults.{found_at}
use Rattle.case_model.proofs.first_faults.first_fault.Given as goal

abbrev pub invariant-loop-i : goal.invariant-loop-i
invariant-loop-i g l = (row : ℕ → _ → Option CaseFault)
    → ((x : _) (i : ℕ) (r : Option CaseFault) → goal.F-post g l.test x i r → r ≡ row i x.now) → first_below (found_at row l.items) l.i ≡ None
