-- The laws of Simes' test, as contracts name them.
use Rattle.std.specs.Prelude.{◌≤◌, ◌↔◌, ℕ, Bool}
use Rattle.field_core.specs.Number.{Number}
use Rattle.field_core.specs.LimitParts.{IsUnit}
use Rattle.case_model.specs.EntangledGraph.{EntangledGraph, IsValidEntangled}
use Rattle.case_model.specs.ClosedTest.{IsLocallyRejected, IsClosedRejected, IsRejected}
use Rattle.case_model.specs.SetAnswers.{SaysYes, AnswersFor}
use Rattle.case_model.specs.DiscoveryBound.{IsBound}
use Rattle.simes_test.specs.SimesTest.{IsSimesRejected, IsSimesClosed, IsSimesClosedAlone}

-- Simes' test rejects each set that the local test by weights rejects.
abbrev pub LocalRejectionsAreOfSimes : Type 0
LocalRejectionsAreOfSimes =
    (E : EntangledGraph) (p : ℕ → Number) (level : Number) (I : ℕ → Bool) → IsValidEntangled E → IsUnit level
    → IsLocallyRejected E p level I → IsSimesRejected E p level I

-- The closed test of Simes' test rejects each set, and each hypothesis, that the closed test by weights rejects.
abbrev pub ClosedRejectionsAreOfSimes : Type 0
ClosedRejectionsAreOfSimes =
    (E : EntangledGraph) (p : ℕ → Number) (level : Number) → IsValidEntangled E → IsUnit level
    → ((S : ℕ → Bool) → IsClosedRejected E p level S → IsSimesClosed E p level S)
    × ((j : ℕ) → IsRejected E p level j → IsSimesClosedAlone E p level j)

-- No bound by the closed test of Simes' test is below that by the closed test by weights.
abbrev pub NoSimesBoundIsLower : Type 0
NoSimesBoundIsLower =
    (E : EntangledGraph) (p : ℕ → Number) (level : Number) (S : ℕ → Bool) (a b : ℕ) → IsValidEntangled E → IsUnit level
    → IsBound E.hypotheses (IsClosedRejected E p level) S a → IsBound E.hypotheses (IsSimesClosed E p level) S b → a ≤ b

-- A table of the sets that the closed test of Simes' test rejects gives its bounds.
abbrev pub SimesTablesGiveSimesBounds : Type 0
SimesTablesGiveSimesBounds =
    (E : EntangledGraph) (p : ℕ → Number) (level : Number) (table : ℕ → Bool) (S : ℕ → Bool) (b : ℕ)
    → AnswersFor E.hypotheses (IsSimesClosed E p level) table
    → IsBound E.hypotheses (SaysYes E.hypotheses table) S b ↔ IsBound E.hypotheses (IsSimesClosed E p level) S b
