-- Sizes of named graphs.
use Rattle.std.specs.Prelude.{ℕ, ◌+◌, ◌-◌, ◌^◌, ◌==◌, ◌||◌, Option, Some, None, nat_lt, if◌then◌else◌}
use Prim.Native.Nat.{min}
use Rattle.catalogue.specs.declared.fault.CatalogueFault.{CatalogueFault}
use Rattle.catalogue.specs.declared.fault.CatalogueFault.TheVariants.{Size}

-- a number of hypotheses is 0 or above 64
unfoldable pub size_fault : ℕ → Option CatalogueFault
size_fault n = if n == 0 || nat_lt 64 n then Some (Size n) else None

-- one of two sizes is 0, or else their sum is above 64; a sum above 2^64 - 1 is reported as 2^64 - 1
unfoldable pub sizes_fault : ℕ → ℕ → Option CatalogueFault
sizes_fault a b = if a == 0 || b == 0 then Some (Size 0) else size_fault (min (a + b) (2 ^ 64 - 1))
