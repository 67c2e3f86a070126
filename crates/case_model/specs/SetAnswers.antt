-- Tables of answers for all sets of `m` hypotheses, by the number of the set.
use Rattle.std.specs.Prelude.{◌≡◌, ◌<◌, ◌≤◌, ◌^◌, ◌↔◌, ℕ, Bool, true}
use Rattle.field_core.specs.Sets.{IsSubset}
use Rattle.field_core.specs.NumberedSets.{members, set_number}

-- a table answers true for a set
abbrev pub SaysYes : ℕ → (ℕ → Bool) → (ℕ → Bool) → Type 0
SaysYes m table K = table (set_number m K) ≡ true

-- a table answers for each set whether the set has the property `P`
abbrev pub AnswersFor : ℕ → ((ℕ → Bool) → Type 0) → (ℕ → Bool) → Type 0
AnswersFor m P table = (n : ℕ) → n < 2 ^ m → (table n ≡ true) ↔ P (members n)

-- a table answers true for each set that contains the set of `n`
abbrev pub IsYesAbove : ℕ → (ℕ → Bool) → ℕ → Type 0
IsYesAbove m table n = (o : ℕ) → o < 2 ^ m → IsSubset m (members n) (members o) → table o ≡ true

-- from the set of `first` on, the table `closed` answers for each set whether the table `local` answers true for all sets that contain it
abbrev pub AreClosedFrom : ℕ → (ℕ → Bool) → (ℕ → Bool) → ℕ → Type 0
AreClosedFrom m local closed first = (n : ℕ) → first ≤ n → n < 2 ^ m → (closed n ≡ true) ↔ IsYesAbove m local n
