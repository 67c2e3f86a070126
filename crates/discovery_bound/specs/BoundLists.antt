-- The bounds of the first sets, by their numbers. (No public contract cites this.)
use Rattle.std.specs.Prelude.{◌<◌, ℕ, Bool, List, get_or}
use Rattle.field_core.specs.NumberedSets.{members}
use Rattle.case_model.specs.SetAnswers.{SaysYes}
use Rattle.case_model.specs.DiscoveryBound.{IsBound}

-- numbers are the bounds of the first `count` sets by a table for `m` hypotheses
abbrev pub AreBounds : ℕ → (ℕ → Bool) → List ℕ → ℕ → Type 0
AreBounds m table bounds count = (n : ℕ) → n < count → IsBound m (SaysYes m table) (members n) (get_or bounds n 0)
