-- The written run of adjusted values (this project's own). It is that of the decision by ratios at the level 1, at which a least ratio is legal
-- exactly if it is at most 1. Step 0 is the opening of the case.
use Rattle.std.specs.Prelude.{◌≡◌, ℕ, zero, suc, Err}
use Rattle.field_core.specs.declared.place.WideAt.{WideAt}
use Rattle.case_model.specs.Content.{Content}
use Rattle.case_model.specs.CaseTests.{at_level}
use Rattle.case_model.specs.Sums.{one_ratio}
use Rattle.entangled.specs.CaseRun.{case_opening}
use Rattle.sequential.specs.WideDecisions.{IsWideDecision}
use Rattle.sequential.specs.declared.priority.Priority.TheVariants.{Ratio as ByRatio}
use Rattle.sequential.specs.declared.fault.RunFault.{RunFault}
use Rattle.sequential.specs.declared.fault.RunFault.TheVariants.{Wide, NoMemory}

-- the written run is undefined first at `w`, in this step
abbrev pub IsWideAdjusting : Content → ℕ → WideAt → Type 0
IsWideAdjusting c zero w = case_opening c ≡ Err w
IsWideAdjusting c (suc n) w = IsWideDecision (at_level c one_ratio) ByRatio (suc n) w

-- why there are no adjusted values: the written run is undefined; nothing is claimed of out-of-memory
abbrev pub IsAdjustFault : Content → RunFault → Type 0
IsAdjustFault c (Wide n w) = IsWideAdjusting c n w
IsAdjustFault c NoMemory = Unit {0}
