-- Adjusted p-values: the least levels at which the closed test rejects (Bretz, Maurer, Brannath and Posch 2009). That a value of 1 which
-- isn't reached is reported apart is this project's own.
use Rattle.std.specs.Prelude.{◌≡◌, ℕ, Bool, true, false}
use Rattle.field_core.specs.Number.{Number}
use Rattle.field_core.specs.Arithmetic.{number_one}
use Rattle.field_core.specs.Order.{◌≤ε◌}
use Rattle.field_core.specs.LimitParts.{IsUnit}
use Rattle.field_core.specs.declared.ratio.Ratio.{Ratio}
use Rattle.fraction.specs.View.{number_of}
use Rattle.case_model.specs.EntangledGraph.{EntangledGraph}
use Rattle.case_model.specs.ClosedTest.{IsRejected}

module _ (E : EntangledGraph) (p : ℕ → Number) where
  -- `a` is the least level from 0 to 1 at which the closed test rejects `j`
  pub record IsLeastLevel (j : ℕ) (a : Number) : Type 0 where
    pub unit : IsUnit a
    pub rejected : IsRejected E p a j
    pub least : (level : Number) → IsUnit level → IsRejected E p level j → a ≤ε level

  -- the closed test rejects `j` at no level from 0 to 1
  abbrev pub IsNeverRejected : ℕ → Type 0
  IsNeverRejected j = (level : Number) → IsUnit level → ¬ IsRejected E p level j

  -- the adjusted value of `j`: the least level from 0 to 1 at which the closed test rejects it, which is reached. If it rejects it at no level, the
  -- value is 1, not reached
  pub record IsAdjusted (j : ℕ) (value : Ratio) (reached : Bool) : Type 0 where
    pub least : reached ≡ true → IsLeastLevel j (number_of value)
    pub never : reached ≡ false → IsNeverRejected j × (number_of value ≡ number_one)
