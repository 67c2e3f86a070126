-- Sets beside the lists of what they leave out.
use Rattle.std.specs.Prelude.{◌≡◌, ℕ, List}
use Rattle.field_core.specs.Sets.{whole}
use Rattle.field_core.specs.Runs.{left_after}
use Rattle.field_core.specs.NumberedSets.{set_number}
use Rattle.field_core.specs.OrderOfSets.{IsAscending}

-- the number of the set that leaves out a list
abbrev pub number_without : ℕ → List ℕ → ℕ
number_without m js = set_number m (left_after whole js)

-- an ascending list, and the number of the set that leaves it out
pub record IsLeftOutOf (m set : ℕ) (left : List ℕ) : Type 0 where
  pub ascending : IsAscending m 0 left
  pub number : set ≡ number_without m left
