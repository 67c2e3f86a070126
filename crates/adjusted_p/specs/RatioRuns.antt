-- Runs by least ratios: the hypothesis with the least ratio is removed, as long as the ratio is at most 1. The value of a step is the
-- greater of its ratio and of the value before it.
use Rattle.std.specs.Prelude.{◌≡◌, ◌⊎◌, ℕ, Bool, true, List, [], ◌∷◌, map}
use Rattle.std.specs.List.{AllByRecursion}
use Rattle.field_core.specs.Number.{Number}
use Rattle.field_core.specs.Arithmetic.{number_one}
use Rattle.field_core.specs.Order.{◌≤ε◌}
use Rattle.field_core.specs.Sets.{dropping}
use Rattle.field_core.specs.Runs.{left_after}
use Rattle.field_core.specs.declared.ratio.Ratio.{Ratio}
use Rattle.fraction.specs.View.{number_of}
use Rattle.case_model.specs.EntangledGraph.{EntangledGraph}
use Rattle.case_model.specs.LegalOrder.{IsListed, IsLeastRatio}
use Rattle.adjusted_p.specs.declared.adjusted.Adjusted.{Adjusted}
use Rattle.adjusted_p.specs.AdjustedLists.{not_reached}

-- a hypothesis and its value
pub record ValueStep : Type 0 where
  pub hypothesis : ℕ
  pub value : Ratio

-- `v` is the greater of `a` and `b`
pub record IsGreater (a b v : Number) : Type 0 where
  pub above_first : a ≤ε v
  pub above_second : b ≤ε v
  pub one_of : (v ≡ a) ⊎ (v ≡ b)

-- the hypotheses of steps, in their order
abbrev pub removed_ones : List ValueStep → List ℕ
removed_ones xs = map (λ x. x.hypothesis) xs

module _ (E : EntangledGraph) (p : ℕ → Number) where
  -- `j` has the least ratio in `I`, which is at most 1
  pub record IsLeastToOne (I : ℕ → Bool) (j : ℕ) : Type 0 where
    pub least : IsLeastRatio E p I j
    pub small : least.ratio ≤ε number_one

  -- one step while `I` remains, after the value `before`
  pub record IsValueStep (I : ℕ → Bool) (before : Number) (x : ValueStep) : Type 0 where
    pub next : IsLeastToOne I x.hypothesis
    pub greater : IsGreater before next.least.ratio (number_of x.value)

  -- steps one after another
  abbrev pub AreValueSteps : (ℕ → Bool) → Number → List ValueStep → Type 0
  AreValueSteps I before [] = Unit {0}
  AreValueSteps I before (x ∷ xs) = IsValueStep I before x × AreValueSteps (dropping x.hypothesis I) (number_of x.value) xs

  -- the steps of a run, until there is no ratio of at most 1
  pub record AreRunValues (I : ℕ → Bool) (before : Number) (xs : List ValueStep) : Type 0 where
    pub steps : AreValueSteps I before xs
    pub end : (j : ℕ) → ¬ IsLeastToOne (left_after I (removed_ones xs)) j

-- a value that is reached
abbrev pub reached_at : Ratio → Adjusted
reached_at v = record { value = v; reached = true }

-- a table of the values of steps: each hypothesis of a step has its value, and the others aren't reached
pub record IsTableOf (T : ℕ → Adjusted) (xs : List ValueStep) : Type 0 where
  pub valued : AllByRecursion (λ x. T x.hypothesis ≡ reached_at x.value) xs
  pub rest : (j : ℕ) → ¬ IsListed (removed_ones xs) j → T j ≡ not_reached
