-- The weights of all sets of a case.
use Rattle.std.specs.Prelude.{◌<◌, ◌^◌, ℕ, length}
use Rattle.field_core.specs.declared.ratio.Ratio.{Ratio}
use Rattle.field_core.specs.Sets.{IsIn}
use Rattle.field_core.specs.NumberedSets.{members}
use Rattle.fraction.specs.View.{number_of}
use Rattle.case_model.specs.Content.{Content, entangled}
use Rattle.case_model.specs.IntersectionWeight.{IsIntersectionWeight}

-- for each set and each of its members, this is the weight of the member in the set
abbrev pub AreIntersectionWeights : Content → (ℕ → ℕ → Ratio) → Type 0
AreIntersectionWeights c weight = (n k : ℕ) → n < 2 ^ length c.names → IsIn (length c.names) (members n) k
    → IsIntersectionWeight (entangled c) (members n) k (number_of (weight n k))
