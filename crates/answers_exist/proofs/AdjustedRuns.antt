-- The run of adjusted values ends: with the values, or at a place where what is written is undefined.
use Rattle.std.proofs.Common.{◌≡◌, ◌⊎◌, inl, inr, refl, sym, ◌∙◌, subst, ℕ, zero, suc, ◌+◌, ◌<◌, ◌≤◌, arith, List, []}
use Rattle.std.proofs.Common.{length, replicate, None, Ok, Err}
use Rattle.std.proofs.Math.ListN.{set}
use Rattle.field_core.specs.Order.{at_most}
use Rattle.field_core.specs.declared.place.WideAt.{WideAt}
use Rattle.field_core.specs.declared.ratio.Ratio.{Ratio}
use Rattle.field_core.proofs.Live.{true_or_false, true_not_false}
use Rattle.fraction.specs.View.{number_of}
use Rattle.answers.proofs.Decided.{stage_ends}
use Rattle.case_model.specs.declared.inputs.Inputs.TheVariants.{Single}
use Rattle.case_model.specs.CaseTests.{at_level, IsUnstaged}
use Rattle.case_model.specs.Sums.{zero_ratio, one_ratio}
use Rattle.case_model.specs.Content.{Content}
use Rattle.case_model.specs.Validity.{IsValidContent}
use Rattle.case_model.proofs.Comparisons.{zero_is}
use Rattle.case_model.proofs.OtherLevels.{valid_at}
use Rattle.entangled.specs.CaseRun.{CaseState, case_opening, case_removal}
use Rattle.sequential.specs.declared.decision.RatioStep.{RatioStep}
use Rattle.sequential.specs.declared.fault.RunFault.TheVariants.{Wide}
use Rattle.sequential.specs.declared.priority.Priority.TheVariants.{Ratio as ByRatio}
use Rattle.sequential.specs.DecisionRuns.{IsStepFault, IsEndOf}
use Rattle.sequential.specs.RatioSteps.{IsStepByRatio}
use Rattle.sequential.specs.Trials.{TrialContent, IsTrialOf, number_left}
use Rattle.sequential.specs.WideDecisions.{IsDecideFault}
use Rattle.sequential.proofs.ChoiceFacts.{ratio_choice}
use Rattle.sequential.proofs.OtherLevels.{opening_at}
use Rattle.sequential.proofs.RunSteps.{step_smaller}
use Rattle.sequential.proofs.TrialFacts.{opened_trial}
use Rattle.adjusted_p.specs.declared.adjusted.Adjusted.{Adjusted}
use Rattle.adjusted_p.specs.Adjusting.{IsAdjustingSoFar, IsAdjustingRun}
use Rattle.adjusted_p.specs.AdjustedLists.{not_reached, AreAdjusted}
use Rattle.adjusted_p.specs.RatioRuns.{IsGreater, reached_at}
use Rattle.adjusted_p.specs.WrittenRun.{IsWideAdjusting}
use Rattle.adjusted_p.proofs.Done.{values_are, none_wide, faults_are}
use Rattle.adjusted_p.proofs.Greater.{first_greater, second_greater}
use Rattle.adjusted_p.proofs.LevelOne.{one_level}
use Rattle.adjusted_p.proofs.Steps.{adjusting_step, adjusting_end, adjusting_start, adjusting_fault}
use Rattle.answers_exist.proofs.Decisions.{weight_now, weight_is, next_trial, is_next_trial, ratios_or_wide, ratio_or_nothing, ratio_taken}

-- the greater of two fractions
greater : (x y : Ratio) → (v : Ratio) × IsGreater (number_of x) (number_of y) (number_of v)
greater x y = elim (true_or_false (at_most (number_of x) (number_of y))) [
  | inl up ↦ (y, second_greater (number_of x) (number_of y) up)
  | inr f ↦ (x, first_greater (number_of x) (number_of y) (λ up. true_not_false (sym up ∙ f)))
]

-- ---- steps

-- a run by ratios ends here, has one more step, or is undefined at a place
step_or_end : (c : Content) (t : TrialContent) → IsTrialOf c t
    → IsEndOf ByRatio t t ⊎ (((x : RatioStep) × (new : TrialContent) × IsStepByRatio t new x) ⊎ ((w : WideAt) × IsStepFault ByRatio t w))
step_or_end c t T = elim (ratios_or_wide t.p_values t.state) [
  | inr w ↦ inr (inr (w.0, inl w.1))
  | inl defined ↦ elim (ratio_or_nothing c t T defined) [
    | inr none ↦ inl (record { choice = λ d D. ratio_choice d t D None none defined; same = refl; defined = defined })
    | inl x ↦ elim (stage_ends (case_removal t.state x.0)) [
      | inl s ↦ inr (inl (
        record { line = record { hypothesis = x.0; weight = weight_now c t T x.0 }; ratio = x.1 },
        next_trial c t T x.0 s.0,
        record {
          step = record {
            choice = ratio_taken c t T defined x.0 x.1 x.2 x.3;
            legal = x.2;
            weight = weight_is c t T x.0;
            next = is_next_trial c t T x.0 s.0 s.1;
            defined = defined;
          };
          least = x.3;
        },
      ))
      | inr w ↦ inr (inr (
        w.0,
        inr (record { hypothesis = x.0; choice = ratio_taken c t T defined x.0 x.1 x.2 x.3; defined = defined; refused = w.1 }),
      ))
    ]
  ]
]

-- ---- runs

-- (a case at the level 1, and a trial of it in which nothing is rejected)
module _ (c : Content) (level : c.alpha ≡ one_ratio) (start : TrialContent) (begun : IsTrialOf c start) where
  -- the run so far, of whatever case this is a trial
  abbrev SoFar : TrialContent → Ratio → List Adjusted → Type 0
  SoFar t before table = (d : Content) → IsTrialOf d start → d.alpha ≡ one_ratio → IsAdjustingSoFar d t before table

  -- a run that is done
  record Done : Type 0 where
    trial : TrialContent
    table : List Adjusted
    run : (d : Content) → IsTrialOf d start → d.alpha ≡ one_ratio → IsAdjustingRun d trial table

  -- a run that is undefined first at a place of a step
  record Breaks : Type 0 where
    step : ℕ
    wide : WideAt
    is : (d : Content) → IsTrialOf d start → d.alpha ≡ one_ratio → IsDecideFault d ByRatio (Wide step wide)

  after_step : (t : TrialContent) (before : Ratio) (table : List Adjusted) → SoFar t before table
      → ((new : TrialContent) (v : Ratio) (more : List Adjusted) → SoFar new v more → number_left new < number_left t → Done ⊎ Breaks) → Done ⊎ Breaks
  after_step t before table S rest =
      let T : IsTrialOf c t = (S c begun level).run.is_trial in
      elim (step_or_end c t T) [
        | inl e ↦ inl (record { trial = t; table = table; run = λ d D l. adjusting_end d l t t before table (S d D l) e })
        | inr (inr w) ↦ inr (record {
          step = length t.rejected + 1;
          wide = w.0;
          is = λ d D l. adjusting_fault d t before table w.0 (length t.rejected) (S d D l) w.1 refl;
        })
        | inr (inl x) ↦
            let v = greater before x.0.ratio in
            rest x.1 v.0 (set table x.0.line.hypothesis (reached_at v.0))
            (λ d D l. adjusting_step d l t x.1 before v.0 table x.0 (S d D l) x.2 v.1)
            (step_smaller ByRatio t x.1 x.0.line ∣ record { content = c; is_trial = T } ∣₁ x.2.step)
      ]

  run_within : (n : ℕ) (t : TrialContent) (before : Ratio) (table : List Adjusted) → SoFar t before table → number_left t ≤ n → Done ⊎ Breaks
  run_within zero t before table S h = after_step t before table S (λ new v more R less. absurd (omega (arith, less, h)))
  run_within (suc n) t before table S h = after_step t before table S (λ new v more R less. run_within n new v more R (omega (arith, less, h)))

  run_ends : start.rejected ≡ [] → Done ⊎ Breaks
  run_ends none =
      let n = length start.p_values in
      run_within (number_left start) start zero_ratio (replicate n not_reached)
      (λ d D l. adjusting_start d start zero_ratio n (replicate n not_reached) D none (zero_is zero_ratio refl) refl refl) (omega arith)

-- ---- cases

module _ (c : Content) (ps : List Ratio) (V : IsValidContent c) (e : c.inputs ≡ Single ps) where
  -- the case at the level 1
  abbrev at_one : Content
  at_one = at_level c one_ratio

  valid_at_one : IsValidContent at_one
  valid_at_one = valid_at c one_ratio (subst IsUnstaged (sym e) tt) V one_level

  abbrev opened : CaseState → TrialContent
  opened s = record { p_values = ps; alpha = one_ratio; state = s; rejected = [] }

  opened_is : (s : CaseState) → case_opening c ≡ Ok s → IsTrialOf at_one (opened s)
  opened_is s o = opened_trial at_one (opened s) valid_at_one e refl refl (opening_at c one_ratio ∙ o)

  -- a case with a p-value for each hypothesis has adjusted values, and their run is defined; or it is undefined
  pub adjusted_or_wide : ((xs : List Adjusted) × ((n : ℕ) (w : WideAt) → ¬ IsWideAdjusting c n w) × AreAdjusted c xs)
      ⊎ ((n : ℕ) × (w : WideAt) × IsWideAdjusting c n w)
  adjusted_or_wide = elim (stage_ends (case_opening c)) [
    | inr w ↦ inr (zero, w.0, w.1)
    | inl s ↦ elim (run_ends at_one refl (opened s.0) (opened_is s.0 s.1) refl) [
      | inl D ↦ inl (
        D.table,
        none_wide c (opened s.0) D.trial one_ratio refl (opened_is s.0 s.1) (Ok D.table) D.run,
        values_are c (opened s.0) D.trial one_ratio refl (opened_is s.0 s.1) (Ok D.table) D.run,
      )
      | inr B ↦ inr (
        B.step,
        B.wide,
        faults_are c (opened s.0) (opened s.0) one_ratio refl (opened_is s.0 s.1) (Err (Wide B.step B.wide)) B.is,
      )
    ]
  ]
