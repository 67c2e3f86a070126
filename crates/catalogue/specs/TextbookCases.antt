-- What the closed test decides of named graphs.
use Rattle.std.specs.Prelude.{◌≡◌, ◌↔◌, ℕ, List, [], length}
use Rattle.field_core.specs.declared.ratio.Ratio.{Ratio}
use Rattle.fraction.specs.View.{number_of}
use Rattle.case_model.specs.Sums.{number_at}
use Rattle.case_model.specs.Content.{Content, IsRejectedIn}
use Rattle.case_model.specs.TextbookRules.{IsFallbackRejected, IsSequenceRejected, IsHolmRejected}

-- If there are p-values, the closed test on a case rejects exactly the hypotheses that a rule rejects.
abbrev pub DecidesAs : List Ratio → (ℕ → Type 0) → Content → Type 0
DecidesAs ps Rejects c = ¬ (ps ≡ []) → (j : ℕ) → IsRejectedIn c j ↔ Rejects j

-- Holm's rule for `n` hypotheses
abbrev pub DecidesAsHolm : ℕ → Ratio → List Ratio → Content → Type 0
DecidesAsHolm n alpha ps = DecidesAs ps (IsHolmRejected (number_at ps) (number_of alpha) n)

-- the fixed sequence of `n` hypotheses
abbrev pub DecidesAsSequence : ℕ → Ratio → List Ratio → Content → Type 0
DecidesAsSequence n alpha ps = DecidesAs ps (IsSequenceRejected (number_at ps) (number_of alpha) n)

-- fallback with these weights
abbrev pub DecidesAsFallback : List Ratio → Ratio → List Ratio → Content → Type 0
DecidesAsFallback ws alpha ps = DecidesAs ps (IsFallbackRejected (number_at ps) (number_of alpha) (length ws) (number_at ws))
