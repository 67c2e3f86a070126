-- All sets of some hypotheses, one after another.
use Rattle.std.specs.Prelude.{◌<◌, ◌^◌, ℕ, List, Contains}
use Rattle.std.specs.List.{All, AllPairs}
use Rattle.closed_test.specs.SetRuns.{IsEarlierSet}

-- the numbers of all sets of `m` hypotheses, each before those that come later in the order of sets
pub record AreSetsInOrder (m : ℕ) (sets : List ℕ) : Type 0 where
  pub sets_of : All (λ n. n < 2 ^ m) sets
  pub each : (n : ℕ) → n < 2 ^ m → Contains sets n
  pub ordered : AllPairs (IsEarlierSet m) sets
