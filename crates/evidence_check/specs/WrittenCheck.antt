-- The written check of evidence: its tests and its written operations, in their order (this project's own).
use Rattle.std.specs.Prelude.{ℕ, zero, suc, ◌+◌, ◌++◌, not, Bool, List, [], ◌∷◌, Result, Ok, length}
use Rattle.std.specs.Ordering.{is_le}
use Rattle.field_core.specs.declared.place.Op.TheVariants.{Add, Mul}
use Rattle.field_core.specs.declared.place.Place.{Place}
use Rattle.field_core.specs.declared.place.Place.TheVariants.{Bound, Level, Exit}
use Rattle.field_core.specs.Number.{Number}
use Rattle.field_core.specs.Arithmetic.{number_zero}
use Rattle.field_core.specs.Field.{not_less}
use Rattle.field_core.specs.Sets.{set_of}
use Rattle.field_core.specs.Kind.{Parts, Kind, ok_map, or_wide, sign_of}
use Rattle.field_core.specs.Exact.{value_of}
use Rattle.field_core.specs.LimitParts.{limit_terms}
use Rattle.field_core.specs.Steps.{◌>>=◌, each_below}
use Rattle.fraction.specs.Plain.{plain, single}
use Rattle.case_model.specs.Draft.{at_most}
use Rattle.case_model.specs.TextbookRules.{does_pass}
use Rattle.evidence_check.specs.Evidence.{at_place}
use Rattle.evidence_check.specs.EvidenceParts.{StepParts, KeepParts, numbers_at, part_at}
use Rattle.evidence_check.specs.CheckSteps.{require, written_at, numbered, all_below}
use Rattle.evidence_check.specs.declared.verdict.Reason.TheVariants.{Repeated, Negative, Exceeds, NoLevel, AboveLevel, NegativeExit, ShortExit, AboveOne, Legal}
use Rattle.evidence_check.specs.declared.event.CheckEvent.{CheckEvent}
use Rattle.evidence_check.specs.declared.event.CheckEventAt.{CheckEventAt}

-- a case with its shares, weights and edges as they are loaded, the last two by component
pub record Loaded : Type 0 where
  pub components : ℕ
  pub share : ℕ → Parts
  pub weight : ℕ → ℕ → Parts
  pub edge : ℕ → ℕ → ℕ → Parts
  pub p : ℕ → Number
  pub alpha : Number

-- whether a number is above 0
unfoldable pub is_above_zero : Number → Bool
is_above_zero x = not (at_most x number_zero)

module _ (K : Kind) where
  -- a sum plus the product of two numbers: the product is written, and then the sum
  unfoldable pub with_product : ℕ → Place → Parts → Parts → Parts → Result Parts CheckEvent
  with_product c place sum x y = do
    product ← written_at c place (or_wide Mul (K.written Mul x y))
    written_at c place (or_wide Add (K.written Add sum product))

  -- `start` plus the products of the first `n` values of `f` and `g`, added one after another, each in its component
  unfoldable pub added : (ℕ → ℕ) → Place → Parts → (ℕ → Parts) → (ℕ → Parts) → ℕ → Result Parts CheckEvent
  added component place start f g zero = Ok start
  added component place start f g (suc n) = do
    sum ← added component place start f g n
    with_product (component n) place sum (f n) (g n)

-- the sum, over the components, of the share times the limit there, as fractions
unfoldable pub shared_sum : Loaded → ℕ → List Parts → Result Parts CheckEvent
shared_sum L k limits = added plain (λ c. c) (Level k) plain.zero L.share (numbers_at plain limits) L.components

-- the level of `k` by the limits that `f` gives in the components, all of which come before the sum
unfoldable pub level_by : Loaded → ℕ → (ℕ → Result Parts CheckEvent) → Result Parts CheckEvent
level_by L k f = do
  limits ← each_below L.components f
  shared_sum L k limits

module _ (K : Kind) (L : Loaded) where
  module _ (js : List ℕ) where
    -- ---- a step after steps of these hypotheses

    -- in a component, the weight of `k` plus what flows bring to `k`
    unfoldable pub brought_sum : Place → (ℕ → Parts) → ℕ → ℕ → Result Parts CheckEvent
    brought_sum place y k c = added K (λ _. c) place (L.weight c k) y (λ e. L.edge c (at_place js e) k) (length js)

    -- in a component, the flow through the hypothesis of the earlier step at place `r`
    unfoldable pub flow_check : (ℕ → Parts) → ℕ → ℕ → Result (Unit {0}) CheckEvent
    flow_check y c r = do
      _ ← require (not_less (sign_of (y r))) (Negative c r)
      sum ← brought_sum (Bound (at_place js r)) y (at_place js r) c
      order ← written_at c (Bound (at_place js r)) (K.compare (y r) sum)
      require (is_le order) (Exceeds c r)

    -- in a component, the limit of the weight of `j` plus what flows bring to `j`
    unfoldable pub level_limit : (ℕ → Parts) → ℕ → ℕ → Result Parts CheckEvent
    level_limit y j c = ok_map (λ x. single (limit_terms x)) (brought_sum (Level j) y j c)

    unfoldable pub step_check : StepParts → Result (Unit {0}) CheckEvent
    step_check s = do
      _ ← require (not (set_of js s.hypothesis)) Repeated
      _ ← all_below L.components (λ c. all_below (length js) (flow_check (part_at K s.flows c) c))
      level ← level_by L s.hypothesis (λ c. level_limit (part_at K s.flows c) s.hypothesis c)
      _ ← require (is_above_zero (value_of level)) NoLevel
      require (does_pass (L.p s.hypothesis) (value_of level) L.alpha) AboveLevel

    -- ---- a keep after all steps

    -- in a component, what leaves the hypothesis of the step at place `r` for `k`
    unfoldable pub leaving_sum : (ℕ → Parts) → ℕ → ℕ → ℕ → Result Parts CheckEvent
    leaving_sum h k c r = added K (λ _. c) (Exit (at_place js r) k) (L.edge c (at_place js r) k) (λ e. L.edge c (at_place js r) (at_place js e)) h (length js)

    -- in a component, the exit from the hypothesis of the step at place `r`
    unfoldable pub exit_check : (ℕ → Parts) → ℕ → ℕ → ℕ → Result (Unit {0}) CheckEvent
    exit_check h k c r = do
      _ ← require (not_less (sign_of (h r))) (NegativeExit c r)
      sum ← leaving_sum h k c r
      order ← written_at c (Exit (at_place js r) k) (K.compare sum (h r))
      require (is_le order) (ShortExit c r)

    -- in a component, the weight that exits allow
    unfoldable pub allowed_sum : (ℕ → Parts) → ℕ → ℕ → Result Parts CheckEvent
    allowed_sum h k c = added K (λ _. c) (Level k) (L.weight c k) (λ r. L.weight c (at_place js r)) h (length js)

    -- in a component, the limit of the weight that exits allow, which is at most 1
    unfoldable pub allowed_limit : (ℕ → Parts) → ℕ → ℕ → Result Parts CheckEvent
    allowed_limit h k c = do
      sum ← allowed_sum h k c
      order ← written_at c (Level k) (K.compare sum K.one)
      _ ← require (is_le order) (AboveOne c)
      Ok (single (limit_terms sum))

    unfoldable pub keep_check : KeepParts → Result (Unit {0}) CheckEvent
    keep_check x = do
      _ ← all_below L.components (λ c. all_below (length js) (exit_check (part_at K x.exits c) x.hypothesis c))
      level ← level_by L x.hypothesis (λ c. allowed_limit (part_at K x.exits c) x.hypothesis c)
      require (not (does_pass (L.p x.hypothesis) (value_of level) L.alpha)) Legal

  -- ---- the whole check

  -- steps after steps of these hypotheses
  unfoldable pub steps_check : List ℕ → List StepParts → Result (List ℕ) CheckEventAt
  steps_check js [] = Ok js
  steps_check js (s ∷ ss) = do
    _ ← numbered (length js + 1) (step_check js s)
    steps_check (js ++ s.hypothesis ∷ []) ss

  -- keeps after steps of these hypotheses, the first with the number after `n`
  unfoldable pub keeps_check : List ℕ → ℕ → List KeepParts → Result (Unit {0}) CheckEventAt
  keeps_check js n [] = Ok tt
  keeps_check js n (x ∷ xs) = do
    _ ← numbered (n + 1) (keep_check js x)
    keeps_check js (n + 1) xs

  -- The written check: all steps, and then all keeps. Its outcome is Ok, or the first event with its number.
  unfoldable pub written_check : List StepParts → List KeepParts → Result (Unit {0}) CheckEventAt
  written_check steps keeps = do
    js ← steps_check [] steps
    keeps_check js (length steps) keeps
