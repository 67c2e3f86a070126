-- Textbook rules for several hypotheses, without a graph: Holm (Holm 1979), fixed sequence (Maurer, Hothorn and Lehmacher 1995) and fallback (Wiens 2003).
-- The hypotheses are the positions below `n`, with p-values `p`; `level` is the level alpha of the whole test.
use Rattle.std.specs.Prelude.{ℕ, zero, suc, ◌<◌, ◌≤◌, Bool, not, ◌&&◌, if◌then◌else◌, List, [], ◌∷◌, get_or, take, ◌-◌}
use Rattle.field_core.specs.Number.{Number}
use Rattle.field_core.specs.Arithmetic.{number_zero, ◌+ε◌, ◌*ε◌}
use Rattle.field_core.specs.Order.{◌≤ε◌, at_most}
use Rattle.field_core.specs.Fractions.{one_over}
use Rattle.case_model.specs.ClosedTest.{Passes}
use Rattle.case_model.specs.LegalOrder.{IsListed}

-- whether a p-value passes at a weight and a level
unfoldable pub does_pass : Number → Number → Number → Bool
does_pass x weight level = not (at_most weight number_zero) && at_most x (weight *ε level)

module _ (p : ℕ → Number) where
  -- ---- the order of the p-values

  -- `j` comes before `k` in the order of the p-values, ties by position
  pub record Precedes (j k : ℕ) : Type 0 where
    pub not_above : p j ≤ε p k
    pub tie : p k ≤ε p j → j < k

  -- each one of a list comes before all that follow it
  abbrev pub IsByPValue : List ℕ → Type 0
  IsByPValue [] = Unit {0}
  IsByPValue (j ∷ js) = ((k : ℕ) → IsListed js k → Precedes j k) × IsByPValue js

  -- `k` put into a list by ascending p-value: after all that have no greater one
  unfoldable pub inserted : ℕ → List ℕ → List ℕ
  inserted k [] = k ∷ []
  inserted k (j ∷ js) = if at_most (p j) (p k) then j ∷ inserted k js else k ∷ j ∷ js

  -- the positions below `n` by ascending p-value, ties by position
  unfoldable pub by_p_value : ℕ → List ℕ
  by_p_value zero = []
  by_p_value (suc n) = inserted n (by_p_value n)

  module _ (level : Number) where
    -- ---- fallback

    -- the fraction of the level that a hypothesis is tested at: its own weight, plus the fraction of the one before it, if that was rejected
    unfoldable pub fallback_weight : (ℕ → Number) → ℕ → Number
    fallback_weight w zero = w zero
    fallback_weight w (suc i) = if does_pass (p i) (fallback_weight w i) level then w (suc i) +ε fallback_weight w i else w (suc i)

    -- the fallback rule rejects `j`: its p-value passes at this fraction
    pub record IsFallbackRejected (n : ℕ) (w : ℕ → Number) (j : ℕ) : Type 0 where
      pub below : j < n
      pub passes : Passes (p j) (fallback_weight w j) level

    -- ---- fixed sequence

    -- the fixed sequence rejects `j`: each p-value up to its own is at most the level
    pub record IsSequenceRejected (n : ℕ) (j : ℕ) : Type 0 where
      pub below : j < n
      pub each : (i : ℕ) → i ≤ j → p i ≤ε level

    -- ---- Holm

    -- The `i`-th by ascending p-value of `n` hypotheses, counted from 0, has a p-value of at most the level over `n - i`.
    abbrev pub IsSmallAt : ℕ → ℕ → Type 0
    IsSmallAt n i = p (get_or (by_p_value n) i 0) ≤ε (one_over (n - i) *ε level)

    -- `r` is the greatest number such that the first `r` by ascending p-value are small: these are, and the next one, if there is one, isn't.
    pub record IsHolmNumber (n r : ℕ) : Type 0 where
      pub within : r ≤ n
      pub each : (i : ℕ) → i < r → IsSmallAt n i
      pub next : r < n → ¬ IsSmallAt n r

    -- Holm's rule rejects `j`: it is among the first `r` by ascending p-value, where `r` is Holm's number.
    pub record IsHolmRejected (n j : ℕ) : Type 0 where
      pub number : ℕ
      pub is_number : IsHolmNumber n number
      pub among : IsListed (take number (by_p_value n)) j
