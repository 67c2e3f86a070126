-- Evidence with a broken condition doesn't meet its conditions.
use Rattle.std.proofs.Common.{ℕ, ◌+◌, inl, inr, List, [], ◌∷◌, ◌++◌}
use Rattle.std.specs.List.{All}
use Rattle.field_core.specs.Number.{Number}
use Rattle.case_model.specs.EntangledGraph.{EntangledGraph}
use Rattle.evidence_check.specs.Evidence.{StepValues, KeepValues, EvidenceValues, IsGoodStep, AreGoodSteps, IsGoodKeep, MeetsConditions}
use Rattle.evidence_check.specs.BrokenConditions.{IsBrokenStep, IsBrokenKeep, IsBrokenAmongSteps, IsBrokenAmongKeeps, IsBrokenBy}
use Rattle.evidence_check.specs.declared.verdict.Reason.{Reason}
use Rattle.evidence_check.specs.declared.verdict.Reason.TheVariants.{Repeated, Negative, Exceeds, NoLevel, AboveLevel}
use Rattle.evidence_check.specs.declared.verdict.Reason.TheVariants.{NegativeExit, ShortExit, AboveOne, Legal}
use Rattle.evidence_check.proofs.WrittenSums.{true_false}
use Rattle.evidence_check.proofs.WholeCheck.{all_first, all_rest}

module _ (E : EntangledGraph) (p : ℕ → Number) (level : Number) where
  step_not_good : (js : List ℕ) (s : StepValues) (reason : Reason) → IsBrokenStep E p level js s reason → ¬ IsGoodStep E p level js s
  step_not_good js s Repeated b g = true_false _ b g.new
  step_not_good js s (Negative c r) b g = b.2 ((g.flows c b.0).nonneg r b.1)
  step_not_good js s (Exceeds c r) b g = b.2 ((g.flows c b.0).within r b.1)
  step_not_good js s NoLevel b g = b g.passes.positive
  step_not_good js s AboveLevel b g = b g.passes.small
  step_not_good js s (NegativeExit c r) b g = b
  step_not_good js s (ShortExit c r) b g = b
  step_not_good js s (AboveOne c) b g = b
  step_not_good js s Legal b g = b

  keep_not_good : (js : List ℕ) (x : KeepValues) (reason : Reason) → IsBrokenKeep E p level js x reason → ¬ IsGoodKeep E p level js x
  keep_not_good js x (NegativeExit c r) b g = b.2 ((g.exits c b.0).nonneg r b.1)
  keep_not_good js x (ShortExit c r) b g = b.2 ((g.exits c b.0).above r b.1)
  keep_not_good js x (AboveOne c) b g = b.1 (g.exits c b.0).bounded
  keep_not_good js x Legal b g = g.fails b
  keep_not_good js x Repeated b g = b
  keep_not_good js x (Negative c r) b g = b
  keep_not_good js x (Exceeds c r) b g = b
  keep_not_good js x NoLevel b g = b
  keep_not_good js x AboveLevel b g = b

  steps_not_good : (ss : List StepValues) (js : List ℕ) (n : ℕ) (reason : Reason) → IsBrokenAmongSteps E p level js ss n reason
      → ¬ AreGoodSteps E p level js ss
  steps_not_good [] js n reason b g = b
  steps_not_good (s ∷ ss) js n reason b g =
      elim b [ inl h ↦ step_not_good js s reason h.1 g.0 | inr h ↦ steps_not_good ss (js ++ s.hypothesis ∷ []) n reason h.1 g.1 ]

  keeps_not_good : (xs : List KeepValues) (js : List ℕ) (m n : ℕ) (reason : Reason) → IsBrokenAmongKeeps E p level js m xs n reason
      → ¬ All (IsGoodKeep E p level js) xs
  keeps_not_good [] js m n reason b g = b
  keeps_not_good (x ∷ xs) js m n reason b g =
      elim b [
        | inl h ↦ keep_not_good js x reason h.1 (all_first (IsGoodKeep E p level js) x xs g)
        | inr h ↦ keeps_not_good xs js (m + 1) n reason h.1 (all_rest (IsGoodKeep E p level js) x xs g)
      ]

  pub broken_not_met : (v : EvidenceValues) (n : ℕ) (reason : Reason) → IsBrokenBy E p level v n reason → ¬ MeetsConditions E p level v
  broken_not_met v n reason b g =
      elim b [ inl h ↦ steps_not_good v.steps [] n reason h g.steps | inr h ↦ keeps_not_good v.keeps _ _ n reason h.1 g.keeps ]
