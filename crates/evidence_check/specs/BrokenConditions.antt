-- Which condition of evidence is broken, by the values of its numbers (this project's own).
use Rattle.std.specs.Prelude.{◌≡◌, ◌<◌, ◌⊎◌, ℕ, ◌+◌, true, List, [], ◌∷◌, ◌++◌, length}
use Rattle.field_core.specs.Number.{Number}
use Rattle.field_core.specs.Arithmetic.{number_zero, number_one, ◌*ε◌}
use Rattle.field_core.specs.Order.{◌≤ε◌, IsPositive}
use Rattle.field_core.specs.Sets.{set_of}
use Rattle.case_model.specs.EntangledGraph.{EntangledGraph}
use Rattle.case_model.specs.ClosedTest.{Passes}
use Rattle.evidence_check.specs.Evidence.{StepValues, KeepValues, EvidenceValues, listed, at_place, brought, leaving, allowed, shared}
use Rattle.evidence_check.specs.Evidence.{IsGoodStep, AreGoodSteps, IsGoodKeep}
use Rattle.evidence_check.specs.declared.verdict.Reason.{Reason}
use Rattle.evidence_check.specs.declared.verdict.Reason.TheVariants.{Repeated, Negative, Exceeds, NoLevel, AboveLevel}
use Rattle.evidence_check.specs.declared.verdict.Reason.TheVariants.{NegativeExit, ShortExit, AboveOne, Legal}

module _ (E : EntangledGraph) (p : ℕ → Number) (level : Number) where
  module _ (js : List ℕ) where
    -- the level of a step after steps of these hypotheses: the sum, over the components, of the share times the limit of what its flows bring to it
    abbrev pub step_level : StepValues → Number
    step_level s = shared E (λ c. brought (E.graph c) js (s.flow c) s.hypothesis)

    -- the level of a keep after steps of these hypotheses: the sum, over the components, of the share times the limit of what its exits allow
    abbrev pub keep_level : KeepValues → Number
    keep_level x = shared E (λ c. allowed (E.graph c) js (x.exit c) x.hypothesis)

    -- the condition of a step that a reason names is broken
    abbrev pub IsBrokenStep : StepValues → Reason → Type 0
    IsBrokenStep s Repeated = set_of js s.hypothesis ≡ true
    IsBrokenStep s (Negative c r) = (c < E.components) × (r < length js) × (¬ (number_zero ≤ε s.flow c r))
    IsBrokenStep s (Exceeds c r) = (c < E.components) × (r < length js) × (¬ (s.flow c r ≤ε brought (E.graph c) js (s.flow c) (at_place js r)))
    IsBrokenStep s NoLevel = ¬ IsPositive (step_level s)
    IsBrokenStep s AboveLevel = ¬ (p s.hypothesis ≤ε (step_level s *ε level))
    IsBrokenStep s (NegativeExit c r) = ⊥
    IsBrokenStep s (ShortExit c r) = ⊥
    IsBrokenStep s (AboveOne c) = ⊥
    IsBrokenStep s Legal = ⊥

    -- the condition of a keep that a reason names is broken
    abbrev pub IsBrokenKeep : KeepValues → Reason → Type 0
    IsBrokenKeep x (NegativeExit c r) = (c < E.components) × (r < length js) × (¬ (number_zero ≤ε x.exit c r))
    IsBrokenKeep x (ShortExit c r) =
        (c < E.components) × (r < length js) × (¬ (leaving (E.graph c) js (x.exit c) x.hypothesis (at_place js r) ≤ε x.exit c r))
    IsBrokenKeep x (AboveOne c) = (c < E.components) × (¬ (allowed (E.graph c) js (x.exit c) x.hypothesis ≤ε number_one))
    IsBrokenKeep x Legal = Passes (p x.hypothesis) (keep_level x) level
    IsBrokenKeep x Repeated = ⊥
    IsBrokenKeep x (Negative c r) = ⊥
    IsBrokenKeep x (Exceeds c r) = ⊥
    IsBrokenKeep x NoLevel = ⊥
    IsBrokenKeep x AboveLevel = ⊥

  -- of these steps, after steps of these hypotheses, the one with this number is broken for this reason, and those before it are good
  abbrev pub IsBrokenAmongSteps : List ℕ → List StepValues → ℕ → Reason → Type 0
  IsBrokenAmongSteps js [] n reason = ⊥
  IsBrokenAmongSteps js (s ∷ ss) n reason =
      ((n ≡ length js + 1) × IsBrokenStep js s reason) ⊎ (IsGoodStep E p level js s × IsBrokenAmongSteps (js ++ s.hypothesis ∷ []) ss n reason)

  -- of these keeps, which count from the number after `m`, the one with this number is broken for this reason, and those before it are good
  abbrev pub IsBrokenAmongKeeps : List ℕ → ℕ → List KeepValues → ℕ → Reason → Type 0
  IsBrokenAmongKeeps js m [] n reason = ⊥
  IsBrokenAmongKeeps js m (x ∷ xs) n reason =
      ((n ≡ m + 1) × IsBrokenKeep js x reason) ⊎ (IsGoodKeep E p level js x × IsBrokenAmongKeeps js (m + 1) xs n reason)

  -- The step or keep with this number is broken for this reason, and each before it is good. Keeps are numbered after the steps.
  abbrev pub IsBrokenBy : EvidenceValues → ℕ → Reason → Type 0
  IsBrokenBy v n reason =
      IsBrokenAmongSteps [] v.steps n reason
      ⊎ (AreGoodSteps E p level [] v.steps × IsBrokenAmongKeeps (listed v.steps) (length v.steps) v.keeps n reason)
