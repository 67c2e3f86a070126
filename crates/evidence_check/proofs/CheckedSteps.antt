-- The written check of a step by value.
use Rattle.std.proofs.Common.{◌≡◌, refl, sym, subst, ◌∙◌, ℕ, ◌<◌, false, not, List, length, Ok}
use Rattle.std.specs.Ordering.{is_le}
use Rattle.field_core.specs.declared.place.Place.TheVariants.{Bound, Level}
use Rattle.field_core.specs.Number.{Number}
use Rattle.field_core.specs.Arithmetic.{number_zero, ◌*ε◌}
use Rattle.field_core.specs.Order.{◌≤ε◌, IsPositive}
use Rattle.field_core.specs.Field.{not_less}
use Rattle.field_core.specs.NumberField.{number_field}
use Rattle.field_core.specs.Limit.{limit}
use Rattle.field_core.specs.LimitParts.{IsUnit, limit_terms}
use Rattle.field_core.specs.Sets.{IsIn, whole, set_of}
use Rattle.field_core.specs.Runs.{IsOrder, left_after}
use Rattle.field_core.specs.Kind.{Parts, Kind, sign_of}
use Rattle.field_core.specs.Exact.{IsExact, Gives, value_of}
use Rattle.field_core.proofs.WeightLaws.{weight_exists}
use Rattle.fraction.specs.Plain.{single, IsFraction}
use Rattle.case_model.specs.EntangledGraph.{EntangledGraph, IsValidEntangled}
use Rattle.case_model.specs.ClosedTest.{Passes}
use Rattle.case_model.specs.TextbookRules.{does_pass}
use Rattle.case_model.proofs.PassTests.{pass_tested, tested_pass}
use Rattle.case_model.proofs.RejectionOrders.{not_listed_left}
use Rattle.case_model.proofs.NoFaults.{not_true, not_false}
use Rattle.evidence_check.specs.Evidence.{at_place, brought, shared, AreFlows, IsGoodStep}
use Rattle.evidence_check.specs.EvidenceParts.{StepParts, part_at, step_values}
use Rattle.evidence_check.specs.CheckSteps.{require, written_at, all_below}
use Rattle.evidence_check.specs.BrokenConditions.{IsBrokenStep}
use Rattle.evidence_check.specs.declared.verdict.Reason.{Reason}
use Rattle.evidence_check.specs.declared.verdict.Reason.TheVariants.{Repeated, Negative, Exceeds, NoLevel, AboveLevel}
use Rattle.evidence_check.specs.WrittenCheck.{Loaded, is_above_zero, level_by, brought_sum, flow_check, level_limit, step_check}
use Rattle.evidence_check.specs.CheckStatements.{IsLoaded}
use Rattle.evidence_check.proofs.Duals.{brought_unit}
use Rattle.evidence_check.proofs.Tells.{Tells, tells_bind, tells_if, tells_map, require_tells, written_tells, all_tells}
use Rattle.evidence_check.proofs.WrittenSums.{true_false, positive_test, test_positive, sign_tells, compared}
use Rattle.evidence_check.proofs.CheckedSums.{limit_gives, level_tells, here, bring_tells}

module _ (K : Kind) (IsStored : Parts → Type 0) (X : IsExact K IsStored) (L : Loaded) (E : EntangledGraph) (V : IsValidEntangled E)
    (D : IsLoaded IsStored L E) where
  pub within : (c : ℕ) → c < L.components → c < E.components
  within c q = subst (λ n. c < n) D.components q

  pub back : (c : ℕ) → c < E.components → c < L.components
  back c q = subst (λ n. c < n) (sym D.components) q

  module _ (js : List ℕ) (o : IsOrder E.hypotheses whole js) where
    -- ---- flows

    module _ (c : ℕ) (q : c < E.components) (y : ℕ → Parts) (v : ℕ → Number) (Y : (e : ℕ) → Gives IsStored (y e) (v e)) where
      abbrev FlowFits : ℕ → Type 0
      FlowFits r = (number_zero ≤ε v r) × (v r ≤ε brought (E.graph c) js v (at_place js r))

      -- `Bad` holds of the reason whose condition a flow breaks
      flow_tells : (Bad : Reason → Type 0) (r : ℕ) → r < length js → (¬ (number_zero ≤ε v r) → Bad (Negative c r))
          → (¬ (v r ≤ε brought (E.graph c) js v (at_place js r)) → Bad (Exceeds c r)) → Tells (flow_check K L js y c r) (λ _. FlowFits r) Bad
      unfolding flow_check
      flow_tells Bad r p low high =
          let place = Bound (at_place js r) in
          tells_bind (require (not_less (sign_of (y r))) (Negative c r)) _ (λ _. number_zero ≤ε v r) _ Bad
          (sign_tells K IsStored X (y r) (v r) (Negative c r) Bad (Y r) low)
          (λ _ nonneg. tells_bind (brought_sum K L js place y (at_place js r) c) _ (λ x. Gives IsStored x (brought (E.graph c) js v (at_place js r))) _ Bad
          (bring_tells K IsStored X L E V D js o c q y v Y place (at_place js r) Bad (here K IsStored X L E V D js o r p))
          (λ sum S. tells_bind (written_at c place (K.compare (y r) sum)) _ (λ order. K.compare (y r) sum ≡ Ok order) _ Bad
          (written_tells c place (K.compare (y r) sum) Bad)
          (λ order e.
          let t = compared K IsStored X (y r) sum (v r) (brought (E.graph c) js v (at_place js r)) order (Y r) S e in
          require_tells (is_le order) (Exceeds c r) (FlowFits r) Bad (λ h. (nonneg, sym t ∙ h)) (λ h. high (λ f. true_false _ f (sym t ∙ h))))))

      pub flows_tell : (Bad : Reason → Type 0) → ((r : ℕ) → r < length js → ¬ (number_zero ≤ε v r) → Bad (Negative c r))
          → ((r : ℕ) → r < length js → ¬ (v r ≤ε brought (E.graph c) js v (at_place js r)) → Bad (Exceeds c r))
          → Tells (all_below (length js) (flow_check K L js y c)) (λ _. AreFlows (E.graph c) js v) Bad
      flows_tell Bad low high =
          tells_if (all_below (length js) (flow_check K L js y c)) _ _ _ (λ _ all. record { nonneg = λ r p. (all r p).0; within = λ r p. (all r p).1 })
          (all_tells (length js) (flow_check K L js y c) FlowFits Bad (λ r p. flow_tells Bad r p (low r p) (high r p)))

      -- what flows bring to a hypothesis that isn't listed is from 0 to 1
      pub level_unit : (k : ℕ) → k < E.hypotheses → set_of js k ≡ false → AreFlows (E.graph c) js v → IsUnit (brought (E.graph c) js v k)
      level_unit k p f A =
          let i : IsIn E.hypotheses (left_after whole js) k = record { below = p; member = not_listed_left js whole k refl f } in
          let W = weight_exists number_field E.hypotheses (E.graph c) (V.graph c q) (left_after whole js) k i in
          brought_unit E.hypotheses (E.graph c) (V.graph c q) js o v k W.0 A i W.1

      pub limit_tells : (k : ℕ) (Bad : Reason → Type 0) → k < E.hypotheses → set_of js k ≡ false → AreFlows (E.graph c) js v
          → Tells (level_limit K L js y k c) (λ x. Gives IsFraction x (limit (brought (E.graph c) js v k))) Bad
      unfolding level_limit
      limit_tells k Bad p f A =
          tells_map (λ x. single (limit_terms x)) (brought_sum K L js (Level k) y k c) _ _ Bad (λ x G. limit_gives K IsStored X x _ G (level_unit k p f A))
          (bring_tells K IsStored X L E V D js o c q y v Y (Level k) k Bad p)

    -- ---- a step

    module _ (s : StepParts) (s_in : s.hypothesis < E.hypotheses) (Y : (c e : ℕ) → IsStored (part_at K s.flows c e)) where
      abbrev value : ℕ → ℕ → Number
      value c e = value_of (part_at K s.flows c e)

      Y_gives : (c e : ℕ) → Gives IsStored (part_at K s.flows c e) (value c e)
      Y_gives c e = record { stored = Y c e; value = refl }

      abbrev bringing : ℕ → Number
      bringing c = brought (E.graph c) js (value c) s.hypothesis

      abbrev Good : Type 0
      Good = IsGoodStep E L.p L.alpha js (step_values K s)

      abbrev Bad : Reason → Type 0
      Bad = IsBrokenStep E L.p L.alpha js (step_values K s)

      abbrev AllFlows : Type 0
      AllFlows = (c : ℕ) → c < L.components → AreFlows (E.graph c) js (value c)

      pub all_flows_tell : Tells (all_below L.components (λ c. all_below (length js) (flow_check K L js (part_at K s.flows c) c))) (λ _. AllFlows) Bad
      all_flows_tell =
          all_tells L.components (λ c. all_below (length js) (flow_check K L js (part_at K s.flows c) c))
          (λ c. AreFlows (E.graph c) js (λ e. value_of (part_at K s.flows c e))) Bad
          (λ c q. flows_tell c (within c q) (part_at K s.flows c) (value c) (Y_gives c) Bad
          (λ r p b. (within c q, p, b)) (λ r p b. (within c q, p, b)))

      pub bringing_tells : (new : set_of js s.hypothesis ≡ false) (flows : AllFlows)
          → Tells (level_by L s.hypothesis (λ c. level_limit K L js (part_at K s.flows c) s.hypothesis c)) (λ t. Gives IsFraction t (shared E bringing)) Bad
      bringing_tells new flows =
          tells_if (level_by L s.hypothesis (λ c. level_limit K L js (part_at K s.flows c) s.hypothesis c)) _ _ _ (λ t g. g.0)
          (level_tells K IsStored X L E V D s.hypothesis (λ c. level_limit K L js (part_at K s.flows c) s.hypothesis c) (λ c. limit (bringing c))
          (λ _. Unit {0}) Bad
          (λ c q. tells_if (level_limit K L js (part_at K s.flows c) s.hypothesis c) _ _ _ (λ x g. (g, tt))
          (limit_tells c (within c q) (part_at K s.flows c) (value c) (Y_gives c) s.hypothesis Bad s_in new (flows c q))))

      pub step_tells : Tells (step_check K L js s) (λ _. Good) Bad
      unfolding step_check
      step_tells =
          tells_bind (require (not (set_of js s.hypothesis)) Repeated) _ (λ _. set_of js s.hypothesis ≡ false) _ Bad
          (require_tells (not (set_of js s.hypothesis)) Repeated (set_of js s.hypothesis ≡ false) Bad (λ h. not_true (set_of js s.hypothesis) h)
          (λ h. not_false (set_of js s.hypothesis) h))
          (λ _ new. tells_bind (all_below L.components (λ c. all_below (length js) (flow_check K L js (part_at K s.flows c) c))) _ (λ _. AllFlows) _ Bad
          all_flows_tell
          (λ _ flows. tells_bind (level_by L s.hypothesis (λ c. level_limit K L js (part_at K s.flows c) s.hypothesis c)) _
          (λ t. Gives IsFraction t (shared E bringing)) _ Bad
          (bringing_tells new flows)
          (λ level T. tells_bind (require (is_above_zero (value_of level)) NoLevel) _ (λ _. IsPositive (value_of level)) _ Bad
          (require_tells (is_above_zero (value_of level)) NoLevel (IsPositive (value_of level)) Bad (positive_test (value_of level))
          (λ h g. test_positive (value_of level) h (subst IsPositive (sym T.value) g)))
          (λ _ positive. tells_if (require (does_pass (L.p s.hypothesis) (value_of level) L.alpha) AboveLevel) _ _ _
          (λ _ passes. record {
            below = s_in;
            new = new;
            flows = λ c q. flows c (back c q);
            passes = subst (λ u. Passes (L.p s.hypothesis) u L.alpha) T.value passes;
          })
          (require_tells (does_pass (L.p s.hypothesis) (value_of level) L.alpha) AboveLevel (Passes (L.p s.hypothesis) (value_of level) L.alpha) Bad
          (tested_pass _ _ _)
          (λ h g. true_false _ (pass_tested _ _ _ (record { positive = positive; small = subst (λ u. L.p s.hypothesis ≤ε (u *ε L.alpha)) (sym T.value) g }))
          h))))))
