-- Orders in which hypotheses are rejected one after another (Bretz, Maurer, Brannath and Posch 2009), and the priorities by which the next
-- one is taken (this project's own).
use Rattle.std.specs.Prelude.{◌≡◌, ◌<◌, ℕ, Bool, true, List, [], ◌∷◌}
use Rattle.field_core.specs.Number.{Number}
use Rattle.field_core.specs.Arithmetic.{◌/ε◌}
use Rattle.field_core.specs.Order.{◌≤ε◌, IsPositive}
use Rattle.field_core.specs.Sets.{IsIn, dropping, set_of}
use Rattle.field_core.specs.Runs.{left_after}
use Rattle.case_model.specs.EntangledGraph.{EntangledGraph}
use Rattle.case_model.specs.IntersectionWeight.{IsIntersectionWeight}
use Rattle.case_model.specs.ClosedTest.{IsLegal}

-- `j` is on a list
abbrev pub IsListed : List ℕ → ℕ → Type 0
IsListed js j = set_of js j ≡ true

-- (A rule decides which hypotheses may be rejected next while the set `I` remains.)
module _ (Rule : (ℕ → Bool) → ℕ → Type 0) where
  -- A list of rejections by the rule, from the set `I` on: the rule allows each one in the set that remains after the earlier ones.
  abbrev pub IsOrderBy : (ℕ → Bool) → List ℕ → Type 0
  IsOrderBy I [] = Unit {0}
  IsOrderBy I (j ∷ js) = Rule I j × IsOrderBy (dropping j I) js

  -- After the rejections of a list, the rule allows no other.
  abbrev pub IsCompleteBy : (ℕ → Bool) → List ℕ → Type 0
  IsCompleteBy I js = (k : ℕ) → ¬ Rule (left_after I js) k

  -- A list of rejections by the rule, until it allows no other.
  pub record IsRunBy (I : ℕ → Bool) (js : List ℕ) : Type 0 where
    pub order : IsOrderBy I js
    pub complete : IsCompleteBy I js

  -- The rule allows `j`, and no hypothesis before it.
  pub record IsFirst (I : ℕ → Bool) (j : ℕ) : Type 0 where
    pub allowed : Rule I j
    pub least : (k : ℕ) → k < j → ¬ Rule I k

  -- The rule allows `j`, and no hypothesis after it.
  pub record IsLast (I : ℕ → Bool) (j : ℕ) : Type 0 where
    pub allowed : Rule I j
    pub greatest : (k : ℕ) → j < k → ¬ Rule I k

module _ (E : EntangledGraph) (p : ℕ → Number) where
  -- `q` is the ratio of the member `k` of `I`: its p-value over its weight, which is above 0.
  pub record IsRatio (I : ℕ → Bool) (k : ℕ) (q : Number) : Type 0 where
    pub member : IsIn E.hypotheses I k
    pub weight : Number
    pub is_weight : IsIntersectionWeight E I k weight
    pub positive : IsPositive weight
    pub ratio : q ≡ p k /ε weight

  -- `j` has the least ratio in `I`, and is the first with this ratio.
  pub record IsLeastRatio (I : ℕ → Bool) (j : ℕ) : Type 0 where
    pub ratio : Number
    pub is_ratio : IsRatio I j ratio
    pub least : (k : ℕ) (q : Number) → IsRatio I k q → ratio ≤ε q
    pub first : (k : ℕ) → k < j → ¬ IsRatio I k ratio

  module _ (level : Number) where
    -- A legal order, from the set `I` on: each hypothesis of the list is legal in the set that remains after the earlier ones. So they are distinct.
    abbrev pub IsLegalOrder : (ℕ → Bool) → List ℕ → Type 0
    IsLegalOrder = IsOrderBy (IsLegal E p level)

    -- No hypothesis is legal in the set that remains.
    abbrev pub IsComplete : (ℕ → Bool) → List ℕ → Type 0
    IsComplete = IsCompleteBy (IsLegal E p level)

    -- `j` has the least ratio in `I`, and is legal.
    pub record IsLeastLegalRatio (I : ℕ → Bool) (j : ℕ) : Type 0 where
      pub least : IsLeastRatio I j
      pub legal : IsLegal E p level I j

    -- The order of the priority `first`: each time the first legal hypothesis, until none is legal.
    abbrev pub IsFirstOrder : (ℕ → Bool) → List ℕ → Type 0
    IsFirstOrder = IsRunBy (IsFirst (IsLegal E p level))

    -- The order of the priority `last`: each time the last legal hypothesis, until none is legal.
    abbrev pub IsLastOrder : (ℕ → Bool) → List ℕ → Type 0
    IsLastOrder = IsRunBy (IsLast (IsLegal E p level))

    -- The order of the priority `ratio`: each time the hypothesis with the least ratio, as long as it is legal.
    abbrev pub IsRatioOrder : (ℕ → Bool) → List ℕ → Type 0
    IsRatioOrder = IsRunBy IsLeastLegalRatio
