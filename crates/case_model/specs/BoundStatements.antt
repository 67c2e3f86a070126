-- The laws of bounds, and the law by which a table of the closed test is filled, as contracts name them.
use Rattle.std.specs.Prelude.{◌≡◌, ◌<◌, ◌≤◌, ◌+◌, ◌↔◌, ℕ, Bool, false}
use Rattle.field_core.specs.Number.{Number}
use Rattle.field_core.specs.Sets.{IsSubset, adding, size_of}
use Rattle.case_model.specs.EntangledGraph.{EntangledGraph}
use Rattle.case_model.specs.ClosedTest.{IsLocallyRejected, IsClosedRejected}
use Rattle.case_model.specs.SetAnswers.{SaysYes, AnswersFor}
use Rattle.case_model.specs.DiscoveryBound.{IsBound}

-- The closed test rejects a set exactly if the local test rejects it and the closed test rejects it with any one hypothesis more.
abbrev pub SetsAreRejectedByTheNextLarger : Type 0
SetsAreRejectedByTheNextLarger =
    (E : EntangledGraph) (p : ℕ → Number) (level : Number) (S : ℕ → Bool)
    → IsClosedRejected E p level S ↔ (IsLocallyRejected E p level S
    × ((k : ℕ) → k < E.hypotheses → S k ≡ false → IsClosedRejected E p level (adding k S)))

-- By any table of answers, each set has a bound.
abbrev pub BoundsExist : Type 0
BoundsExist = (m : ℕ) (table : ℕ → Bool) (S : ℕ → Bool) → (b : ℕ) × IsBound m (SaysYes m table) S b

-- A set has at most one bound by a table, and at most one by the closed test.
abbrev pub BoundsAreUnique : Type 0
BoundsAreUnique =
    ((m : ℕ) (table : ℕ → Bool) (S : ℕ → Bool) (a b : ℕ) → IsBound m (SaysYes m table) S a → IsBound m (SaysYes m table) S b → a ≡ b)
    × ((E : EntangledGraph) (p : ℕ → Number) (level : Number) (S : ℕ → Bool) (a b : ℕ) → IsBound E.hypotheses (IsClosedRejected E p level) S a
    → IsBound E.hypotheses (IsClosedRejected E p level) S b → a ≡ b)

-- A table of what the closed test rejects has the bounds of the closed test.
abbrev pub ClosedTablesGiveClosedBounds : Type 0
ClosedTablesGiveClosedBounds =
    (E : EntangledGraph) (p : ℕ → Number) (level : Number) (table : ℕ → Bool) (S : ℕ → Bool) (b : ℕ)
    → AnswersFor E.hypotheses (IsClosedRejected E p level) table
    → IsBound E.hypotheses (SaysYes E.hypotheses table) S b ↔ IsBound E.hypotheses (IsClosedRejected E p level) S b

-- A bound is at most the size of the set, and each subset with more members than the size minus the bound is rejected.
abbrev pub LargeSubsetsAreRejected : Type 0
LargeSubsetsAreRejected =
    (m : ℕ) (table : ℕ → Bool) (S : ℕ → Bool) (b : ℕ) → IsBound m (SaysYes m table) S b
    → (b ≤ size_of m S) × ((K : ℕ → Bool) → IsSubset m K S → size_of m S < b + size_of m K → SaysYes m table K)
