-- Why there is no table of all sets.
use Rattle.std.specs.Prelude.{◌≡◌, ◌<◌, ◌≤◌, length}
use Rattle.case_model.specs.Content.{Content}
use Rattle.closed_test.specs.SetRuns.{IsFirstWideSet}
use Rattle.closed_test.specs.declared.fault.ClosedFault.{ClosedFault}
use Rattle.closed_test.specs.declared.fault.ClosedFault.TheVariants.{TooMany, Wide, NoMemory}

-- there are more than 16 hypotheses; or there are at most 16, and this is the first set whose run is undefined; nothing is claimed of out-of-memory
abbrev pub IsClosedFault : Content → ClosedFault → Type 0
IsClosedFault c (TooMany n) = (n ≡ length c.names) × (16 < n)
IsClosedFault c (Wide n w) = (length c.names ≤ 16) × IsFirstWideSet c n w
IsClosedFault c NoMemory = Unit {0}
