-- The run of adjusted values, step by step.
use Rattle.std.proofs.Common.{◌≡◌, ◌≢◌, refl, sym, ap, ◌∙◌, subst, subst₂, inl, inr, ℕ, zero, suc, ◌+◌, ◌<◌, Bool, replicate}
use Rattle.std.proofs.Common.{List, [], ◌∷◌, ◌++◌, length}
use Rattle.std.proofs.Math.ListN.{set}
use Rattle.std.proofs.lemmas.List.{map-append, get_or-set_same, get_or-set_other, length-set, length-map, length-replicate}
use Rattle.std.specs.List.{AllByRecursion}
use Rattle.field_core.specs.Number.{Number}
use Rattle.field_core.specs.Arithmetic.{number_zero, number_one}
use Rattle.field_core.specs.Order.{◌≤ε◌}
use Rattle.field_core.specs.Sets.{dropping, whole}
use Rattle.field_core.specs.Runs.{left_after}
use Rattle.field_core.specs.View.{terms}
use Rattle.field_core.specs.declared.ratio.Ratio.{Ratio}
use Rattle.case_model.specs.EntangledGraph.{EntangledGraph}
use Rattle.case_model.specs.LegalOrder.{IsListed}
use Rattle.fraction.specs.View.{number_of}
use Rattle.case_model.specs.Sums.{number_at, one_ratio}
use Rattle.case_model.specs.Content.{Content, entangled}
use Rattle.case_model.proofs.PriorityOrders.{legal_at_most}
use Rattle.case_model.proofs.RejectionOrders.{listed_here, listed_later, here_or_later}
use Rattle.sequential.specs.Trials.{TrialContent, IsTrialOf, MayReject}
use Rattle.sequential.specs.DecisionRuns.{IsEndOf, IsStepFault}
use Rattle.sequential.specs.Decisions.{hypotheses}
use Rattle.sequential.specs.WideDecisions.{IsChoiceDefined, IsWideDecision}
use Rattle.sequential.specs.Choices.{HasLeastRatioBelow}
use Rattle.field_core.specs.declared.place.WideAt.{WideAt}
use Rattle.sequential.specs.RatioSteps.{IsStepByRatio}
use Rattle.sequential.specs.declared.decision.RatioStep.{RatioStep}
use Rattle.sequential.specs.declared.priority.Priority.TheVariants.{Ratio as ByRatio}
use Rattle.sequential.proofs.ChoiceFacts.{least_with}
use Rattle.sequential.proofs.RunSteps.{run_start, run_step, run_end, run_fault}
use Rattle.sequential.proofs.TrialFacts.{may_legal, live_not_rejected}
use Rattle.adjusted_p.specs.declared.adjusted.Adjusted.{Adjusted}
use Rattle.adjusted_p.specs.AdjustedLists.{not_reached, adjusted_at}
use Rattle.adjusted_p.specs.RatioRuns.{ValueStep, IsGreater, removed_ones, IsValueStep, AreValueSteps, IsTableOf, reached_at}
use Rattle.adjusted_p.specs.Adjusting.{last_value, IsAdjustingSoFar, IsAdjustingRun}
use Rattle.adjusted_p.proofs.LevelOne.{one_is}

-- ---- lists of steps

last_next : (b : Number) (xs : List ValueStep) (x : ValueStep) → last_value b (xs ++ x ∷ []) ≡ number_of x.value
last_next b [] x = refl
last_next b (y ∷ xs) x = last_next (number_of y.value) xs x

values_next : (E : EntangledGraph) (p : ℕ → Number) (I : ℕ → Bool) (b : Number) (xs : List ValueStep) (x : ValueStep) → AreValueSteps E p I b xs
    → IsValueStep E p (left_after I (removed_ones xs)) (last_value b xs) x → AreValueSteps E p I b (xs ++ x ∷ [])
values_next E p I b [] x S X = (X, tt)
values_next E p I b (y ∷ xs) x S X = (S.0, values_next E p (dropping y.hypothesis I) (number_of y.value) xs x S.1 X)

module _ (T U : ℕ → Adjusted) (j : ℕ) (v : Ratio) (here : U j ≡ reached_at v) (other : (i : ℕ) → i ≢ j → U i ≡ T i) where
  valued_next : (xs : List ValueStep) → ¬ IsListed (removed_ones xs) j → AllByRecursion (λ x. T x.hypothesis ≡ reached_at x.value) xs
      → AllByRecursion (λ x. U x.hypothesis ≡ reached_at x.value) (xs ++ record { hypothesis = j; value = v } ∷ [])
  valued_next [] n H = (here, tt)
  valued_next (x ∷ xs) n H = (
    other x.hypothesis (λ e. n (subst (λ i. IsListed (x.hypothesis ∷ removed_ones xs) i) e (listed_here x.hypothesis (removed_ones xs)))) ∙ H.0,
    valued_next xs (λ l. n (listed_later x.hypothesis j (removed_ones xs) l)) H.1,
  )

  listed_before : (js : List ℕ) (i : ℕ) → IsListed js i → IsListed (js ++ j ∷ []) i
  listed_before [] i l = absurd (cc)
  listed_before (k ∷ js) i l = elim (here_or_later k i js l) [
    | inl e ↦ subst (λ a. IsListed (k ∷ (js ++ j ∷ [])) a) (sym e) (listed_here k (js ++ j ∷ []))
    | inr h ↦ listed_later k i (js ++ j ∷ []) (listed_before js i h)
  ]

  listed_last : (js : List ℕ) → IsListed (js ++ j ∷ []) j
  listed_last [] = listed_here j []
  listed_last (k ∷ js) = listed_later k j (js ++ j ∷ []) (listed_last js)

  table_next : (xs : List ValueStep) → IsTableOf T xs → ¬ IsListed (removed_ones xs) j → IsTableOf U (xs ++ record { hypothesis = j; value = v } ∷ [])
  table_next xs A n = record {
    valued = valued_next xs n A.valued;
    rest = λ i m. other i (λ e. m
        (subst (λ js. IsListed js i) (sym all) (subst (λ a. IsListed (removed_ones xs ++ j ∷ []) a) (sym e) (listed_last (removed_ones xs)))))
        ∙ A.rest i (λ l. m (subst (λ js. IsListed js i) (sym all) (listed_before (removed_ones xs) i l)));
  }
    where
      all : removed_ones (xs ++ record { hypothesis = j; value = v } ∷ []) ≡ removed_ones xs ++ j ∷ []
      all = map-append (λ x. x.hypothesis) xs (record { hypothesis = j; value = v } ∷ [])

-- ---- the run

module _ (c : Content) (level : c.alpha ≡ one_ratio) where
  at_one : (t : TrialContent) → IsTrialOf c t → number_of t.alpha ≡ number_one
  at_one t T = ap number_of (sym T.alpha ∙ level) ∙ one_is

  -- the step of a least ratio that is legal
  value_step : (old : TrialContent) (before v : Ratio) (x : RatioStep) (xs : List ValueStep) → IsTrialOf c old
      → IsChoiceDefined ByRatio old.p_values old.state → MayReject old x.line.hypothesis
      → HasLeastRatioBelow (length old.p_values) old.p_values old.state x.line.hypothesis (terms x.ratio) → last_value number_zero xs ≡ number_of before
      → IsGreater (number_of before) (number_of x.ratio) (number_of v)
      → IsValueStep (entangled c) (number_at old.p_values) (left_after whole old.rejected) (last_value number_zero xs)
      (record { hypothesis = x.line.hypothesis; value = v })
  value_step old before v x xs T defined legal least last G =
      let j = x.line.hypothesis in
      let L = least_with c old T defined j (terms x.ratio) least in
      let q = L.0.ratio in
      let small =
      legal_at_most (entangled c) (number_at old.p_values) (left_after whole old.rejected) (number_of old.alpha) j q L.0.is_ratio
      (may_legal c old T j legal) in
      record {
        next = record { least = L.0; small = subst (λ z. q ≤ε z) (at_one old T) small };
        greater = subst₂ (λ b r. IsGreater b r (number_of v)) (sym last) (sym L.1) G;
      }

  pub adjusting_step : (old new : TrialContent) (before v : Ratio) (table : List Adjusted) (x : RatioStep) → IsAdjustingSoFar c old before table
      → IsStepByRatio old new x → IsGreater (number_of before) (number_of x.ratio) (number_of v)
      → IsAdjustingSoFar c new v (set table x.line.hypothesis (reached_at v))
  adjusting_step old new before v table x S X G =
      let T : IsTrialOf c old = S.run.is_trial in
      let j = x.line.hypothesis in
      let here : ValueStep = record { hypothesis = j; value = v } in
      let E = entangled c in
      let A = S.are_steps in
      let next = value_step old before v x S.steps T X.step.defined X.step.legal X.least S.last G in
      let within : j < length table = subst (λ n. j < n) (sym A.count) X.step.legal.below in
      let fresh : ¬ IsListed (removed_ones S.steps) j =
      λ l. live_not_rejected c old T j X.step.legal.below X.step.legal.live (subst (λ js. IsListed js j) A.removed l) in
      record {
        lines = S.lines ++ x.line ∷ [];
        run = run_step c ByRatio S.lines old new x.line S.run X.step;
        steps = S.steps ++ here ∷ [];
        are_steps = record {
          removed = map-append (λ y. y.hypothesis) S.steps (here ∷ []) ∙ ap (λ js. js ++ j ∷ []) A.removed ∙ sym X.step.next.rejected;
          values = subst (λ ps. AreValueSteps E (number_at ps) whole number_zero (S.steps ++ here ∷ [])) (sym X.step.next.p_values)
              (values_next E (number_at old.p_values) whole number_zero S.steps here A.values
              (subst (λ js. IsValueStep E (number_at old.p_values) (left_after whole js) (last_value number_zero S.steps) here) (sym A.removed) next));
          is_table =
              table_next (adjusted_at table) (adjusted_at (set table j (reached_at v))) j v
              (get_or-set_same table j (reached_at v) not_reached within)
              (λ i n. get_or-set_other table j i (reached_at v) not_reached n) S.steps A.is_table fresh;
          count = length-set table j (reached_at v) ∙ A.count ∙ ap length (sym X.step.next.p_values);
        };
        last = last_next number_zero S.steps here;
      }

  pub adjusting_end : (old new : TrialContent) (before : Ratio) (table : List Adjusted) → IsAdjustingSoFar c old before table → IsEndOf ByRatio old new
      → IsAdjustingRun c new table
  adjusting_end old new before table S N = subst (λ t. IsAdjustingRun c t table) (sym N.same) (record {
    lines = S.lines;
    run = run_end c ByRatio S.lines old old S.run (record { choice = N.choice; same = refl; defined = N.defined });
    steps = S.steps;
    are_steps = S.are_steps;
  })

-- ---- the start

none_at : (n j : ℕ) → adjusted_at (replicate n not_reached) j ≡ not_reached
none_at zero j = refl
none_at (suc n) zero = refl
none_at (suc n) (suc j) = none_at n j

pub adjusting_start : (c : Content) (t : TrialContent) (before : Ratio) (n : ℕ) (table : List Adjusted) → IsTrialOf c t → t.rejected ≡ []
    → number_of before ≡ number_zero → table ≡ replicate n not_reached → n ≡ length t.p_values → IsAdjustingSoFar c t before table
adjusting_start c t before n table T none z e m = record {
  lines = [];
  run = run_start c ByRatio t T none;
  steps = [];
  are_steps = record {
    removed = sym none;
    values = tt;
    is_table = record { valued = tt; rest = λ j l. ap (λ ys. adjusted_at ys j) e ∙ none_at n j };
    count = ap length e ∙ length-replicate n not_reached ∙ m;
  };
  last = sym z;
}

-- ---- a fault

pub adjusting_fault : (c : Content) (t : TrialContent) (before : Ratio) (table : List Adjusted) (w : WideAt) (n : ℕ) → IsAdjustingSoFar c t before table
    → IsStepFault ByRatio t w → n ≡ length t.rejected → IsWideDecision c ByRatio (n + 1) w
adjusting_fault c t before table w n S F e =
    let many : length (hypotheses S.lines) ≡ length S.lines = simp length-map in
    subst (λ k. IsWideDecision c ByRatio (k + 1) w) (sym many ∙ ap length S.run.listed ∙ sym e) (run_fault c ByRatio S.lines t w S.run F)
