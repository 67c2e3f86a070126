-- Parallel gatekeeping (Dmitrienko, Offen and Westfall 2003) with Holm's rule for the second family, and its graph (Bretz, Maurer, Brannath and Posch 2009).
-- The primary hypotheses are the positions below `a`, and the `b` secondary ones follow them.
use Rattle.std.specs.Prelude.{◌≡◌, ◌<◌, ◌⊎◌, ◌↔◌, ◌+◌, ◌-◌, ◌==◌, ℕ, Bool, pos, nat_lt, if◌then◌else◌}
use Rattle.field_core.specs.Number.{Number}
use Rattle.field_core.specs.Arithmetic.{number_zero, ◌*ε◌}
use Rattle.field_core.specs.Order.{◌≤ε◌, at_most}
use Rattle.field_core.specs.Fractions.{fraction, one_over}
use Rattle.field_core.specs.Graph.{Graph}
use Rattle.field_core.specs.LimitParts.{IsUnit}
use Rattle.field_core.specs.Sets.{size_of}
use Rattle.case_model.specs.EntangledGraph.{EntangledGraph, IsValidEntangled}
use Rattle.case_model.specs.ClosedTest.{IsRejected}
use Rattle.case_model.specs.TextbookGraphs.{IsAlone}
use Rattle.case_model.specs.TextbookRules.{IsHolmRejected}

-- ---- the graph

-- The primary hypotheses have equal weights, and each passes its weight to the secondary ones in equal parts. A secondary one passes its weight to the other
-- secondary ones in equal parts. Nothing is passed to a primary one.
abbrev pub gatekeeping_graph : ℕ → ℕ → Graph Number
gatekeeping_graph a b = record {
  weight = λ i. if nat_lt i a then one_over a else number_zero;
  edge = λ i k. if nat_lt k a then number_zero else (if nat_lt i a then one_over b else (if i == k then number_zero else one_over (b - 1)));
}

-- the graph of parallel gatekeeping with `a` primary and `b` secondary hypotheses
pub record IsGatekeepingGraph (a b : ℕ) (E : EntangledGraph) : Type 0 where
  pub families : E.hypotheses ≡ a + b
  pub graph : IsAlone (gatekeeping_graph a b) E

-- ---- the rule

-- (The p-values are `p`, and `level` is the level alpha of the whole test.)
module _ (p : ℕ → Number) (level : Number) (a b : ℕ) where
  -- whether a p-value is at most the level over the number of primary hypotheses
  abbrev pub is_small : ℕ → Bool
  is_small i = at_most (p i) (one_over a *ε level)

  -- A primary hypothesis is rejected: its p-value is at most its part of the level.
  pub record IsPrimaryRejected (j : ℕ) : Type 0 where
    pub primary : j < a
    pub small : p j ≤ε (one_over a *ε level)

  -- how many primary hypotheses are rejected
  abbrev pub rejected_primaries : ℕ
  rejected_primaries = size_of a is_small

  -- the level that is passed to the secondary hypotheses: that of the rejected primary ones
  abbrev pub passed_level : Number
  passed_level = fraction (pos rejected_primaries) (pos a) *ε level

  -- A secondary hypothesis is rejected: some primary one is, and Holm's rule rejects the secondary one among the secondary ones at the passed level.
  pub record IsSecondaryRejected (j : ℕ) : Type 0 where
    pub place : ℕ
    pub is_place : j ≡ a + place
    pub some : 0 < rejected_primaries
    pub holm : IsHolmRejected (λ i. p (a + i)) passed_level b place

  -- parallel gatekeeping rejects `j`
  abbrev pub IsGatekeepingRejected : ℕ → Type 0
  IsGatekeepingRejected j = IsPrimaryRejected j ⊎ IsSecondaryRejected j

-- ---- what the graph decides

-- The graph of parallel gatekeeping is valid.
abbrev pub GatekeepingGraphsAreValid : Type 0
GatekeepingGraphsAreValid = (E : EntangledGraph) (a b : ℕ) → IsGatekeepingGraph a b E → IsValidEntangled E

-- On the graph of parallel gatekeeping, the closed test rejects exactly what parallel gatekeeping rejects, at each level from 0 to 1.
abbrev pub GatekeepingGraphsDecideAsGatekeeping : Type 0
GatekeepingGraphsDecideAsGatekeeping =
    (E : EntangledGraph) (a b : ℕ) (p : ℕ → Number) (level : Number) (j : ℕ) → IsValidEntangled E → IsUnit level
    → IsGatekeepingGraph a b E → IsRejected E p level j ↔ IsGatekeepingRejected p level a b j
