-- The adjusted values of a case, one for each hypothesis, by ascending position.
use Rattle.std.specs.Prelude.{◌≡◌, ◌<◌, ℕ, false, List, length, get_or}
use Rattle.case_model.specs.Content.{Content}
use Rattle.case_model.specs.CaseTests.{IsAdjustedIn}
use Rattle.case_model.specs.Sums.{one_ratio}
use Rattle.adjusted_p.specs.declared.adjusted.Adjusted.{Adjusted}

-- 1, not reached
abbrev pub not_reached : Adjusted
not_reached = record { value = one_ratio; reached = false }

-- the value at a place of a list, and 1, not reached, past its end
abbrev pub adjusted_at : List Adjusted → ℕ → Adjusted
adjusted_at xs j = get_or xs j not_reached

-- the adjusted values of a case, one for each hypothesis
pub record AreAdjusted (c : Content) (xs : List Adjusted) : Type 0 where
  pub count : length xs ≡ length c.names
  pub each : (j : ℕ) → j < length c.names → IsAdjustedIn c j (adjusted_at xs j).value (adjusted_at xs j).reached
