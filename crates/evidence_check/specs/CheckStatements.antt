-- What the outcome of the written check implies for evidence.
use Rattle.std.specs.Prelude.{◌≡◌, ◌<◌, ℕ, List, map, Ok, Err, All}
use Rattle.field_core.specs.Exact.{Gives}
use Rattle.field_core.specs.Kind.{Parts, Kind}
use Rattle.fraction.specs.Plain.{IsFraction}
use Rattle.case_model.specs.EntangledGraph.{EntangledGraph, IsValidEntangled}
use Rattle.evidence_check.specs.Evidence.{EvidenceValues, MeetsConditions}
use Rattle.evidence_check.specs.EvidenceParts.{StepParts, KeepParts, part_at, step_values, keep_values}
use Rattle.evidence_check.specs.declared.verdict.Reason.{Reason}
use Rattle.evidence_check.specs.declared.event.CheckEvent.TheVariants.{Broken}
use Rattle.evidence_check.specs.WrittenCheck.{Loaded, written_check}

-- stored numbers with the values of an entangled graph
pub record IsLoaded (IsStored : Parts → Type 0) (L : Loaded) (E : EntangledGraph) : Type 0 where
  pub components : L.components ≡ E.components
  pub share : (c : ℕ) → c < E.components → Gives IsFraction (L.share c) (E.share c)
  pub weight : (c k : ℕ) → c < E.components → k < E.hypotheses → Gives IsStored (L.weight c k) ((E.graph c).weight k)
  pub edge : (c l k : ℕ) → c < E.components → l < E.hypotheses → k < E.hypotheses → Gives IsStored (L.edge c l k) ((E.graph c).edge l k)

-- steps and keeps of known hypotheses, with numbers that the kind stores
pub record AreStoredSteps (K : Kind) (IsStored : Parts → Type 0) (m : ℕ) (steps : List StepParts) (keeps : List KeepParts) : Type 0 where
  pub steps_below : All (λ s. s.hypothesis < m) steps
  pub steps_stored : All (λ s. (c e : ℕ) → IsStored (part_at K s.flows c e)) steps
  pub keeps_below : All (λ x. x.hypothesis < m) keeps
  pub keeps_stored : All (λ x. (c e : ℕ) → IsStored (part_at K x.exits c e)) keeps

-- steps and keeps by the values of their numbers
abbrev pub evidence_values : Kind → List StepParts → List KeepParts → EvidenceValues
evidence_values K steps keeps = record { steps = map (step_values K) steps; keeps = map (keep_values K) keeps }

-- If the written check finds nothing, the evidence meets its conditions.
abbrev pub ChecksAreSound : (K : Kind) → (Parts → Type 0) → Type 0
ChecksAreSound K IsStored =
    (L : Loaded) (E : EntangledGraph) (steps : List StepParts) (keeps : List KeepParts) → IsValidEntangled E → IsLoaded IsStored L E
    → AreStoredSteps K IsStored E.hypotheses steps keeps
    → written_check K L steps keeps ≡ Ok tt → MeetsConditions E L.p L.alpha (evidence_values K steps keeps)

-- If the written check finds a broken condition, the evidence doesn't meet its conditions.
abbrev pub ChecksAreFair : (K : Kind) → (Parts → Type 0) → Type 0
ChecksAreFair K IsStored =
    (L : Loaded) (E : EntangledGraph) (steps : List StepParts) (keeps : List KeepParts) (n : ℕ) (reason : Reason) → IsValidEntangled E
    → IsLoaded IsStored L E
    → AreStoredSteps K IsStored E.hypotheses steps keeps
    → written_check K L steps keeps ≡ Err (record { number = n; event = Broken reason })
    → ¬ MeetsConditions E L.p L.alpha (evidence_values K steps keeps)
