-- Written runs of decisions and of adjusted values on the graphs of textbook rules.
use Rattle.std.specs.Prelude.{◌≡◌, ◌<◌, ℕ, suc, pos, true}
use Rattle.field_core.specs.Fractions.{fraction}
use Rattle.field_core.specs.declared.place.WideAt.{WideAt}
use Rattle.case_model.specs.Content.{Content, entangled, is_plain}
use Rattle.case_model.specs.TextbookGraphs.{IsHolmGraph, IsSequenceGraph, IsFallbackGraph}
use Rattle.case_model.specs.Validity.{IsValidContent}
use Rattle.sequential.specs.WideDecisions.{IsWideDecision}
use Rattle.sequential.specs.declared.priority.Priority.{Priority}
use Rattle.adjusted_p.specs.WrittenRun.{IsWideAdjusting}
use Rattle.textbook.specs.Gatekeeping.{IsGatekeepingGraph}

-- No operation of the decision is undefined, by whatever priority.
abbrev pub AreDecisionsDefined : Content → Type 0
AreDecisionsDefined c = (priority : Priority) (n : ℕ) (w : WideAt) → ¬ IsWideDecision c priority n w

-- No operation of a decision or of the run of adjusted values is undefined.
pub record IsNeverWide (c : Content) : Type 0 where
  pub decisions : AreDecisionsDefined c
  pub adjusted : (n : ℕ) (w : WideAt) → ¬ IsWideAdjusting c n w

-- Cases of Holm's graph, without epsilon, are never too wide.
abbrev pub HolmDecisionsAreDefined : Type 0
HolmDecisionsAreDefined = (c : Content) → IsValidContent c → is_plain c ≡ true → IsHolmGraph (entangled c) → IsNeverWide c

-- Cases of a chain, without epsilon, whose weights have a common denominator of at most 100,000,000 are never too wide.
abbrev pub FallbackDecisionsAreDefined : Type 0
FallbackDecisionsAreDefined =
    (c : Content) (a : ℕ → ℕ) (d : ℕ) → IsValidContent c → is_plain c ≡ true → d < 100000000
    → IsFallbackGraph (λ i. fraction (pos (a i)) (pos (suc d))) (entangled c) → IsNeverWide c

-- Cases of the fixed sequence, without epsilon, are never too wide.
abbrev pub SequenceDecisionsAreDefined : Type 0
SequenceDecisionsAreDefined = (c : Content) → IsValidContent c → is_plain c ≡ true → IsSequenceGraph (entangled c) → IsNeverWide c

-- Cases of parallel gatekeeping, without epsilon, are never too wide.
abbrev pub GatekeepingDecisionsAreDefined : Type 0
GatekeepingDecisionsAreDefined =
    (c : Content) (a b : ℕ) → IsValidContent c → is_plain c ≡ true → IsGatekeepingGraph a b (entangled c) → IsNeverWide c
