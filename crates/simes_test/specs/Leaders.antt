-- The hypotheses by ascending p-value.
use Rattle.std.specs.Prelude.{◌≡◌, ◌<◌, ◌↔◌, ℕ, List, length}
use Rattle.field_core.specs.Number.{Number}
use Rattle.case_model.specs.LegalOrder.{IsListed}
use Rattle.case_model.specs.TextbookRules.{IsByPValue}

-- a list has each position below `m` once, and no other, by ascending p-value, ties by position
pub record AreLeaders (m : ℕ) (p : ℕ → Number) (js : List ℕ) : Type 0 where
  pub all : (i : ℕ) → IsListed js i ↔ (i < m)
  pub count : length js ≡ m
  pub order : IsByPValue p js
