-- The run of a decision ends: with a decision, or at a place where what is written is undefined.
use Rattle.std.proofs.Common.{◌≡◌, ◌⊎◌, inl, inr, refl, sym, ap, ◌∙◌, subst, ℕ, zero, suc, ◌+◌, ◌<◌, ◌≤◌, arith, List, []}
use Rattle.std.proofs.Common.{◌∷◌, ◌++◌, length, map, Some, None, Ok, add-one}
use Rattle.std.specs.List.{filter, range_with_len, AllByRecursion}
use Rattle.std.specs.Option.{option_map}
use Rattle.field_core.specs.Terms.{Terms, IsReduced}
use Rattle.field_core.specs.View.{terms}
use Rattle.field_core.specs.Order.{at_most}
use Rattle.field_core.specs.Laws.AtMostLaws.{positive_or_not, positive-not_at_most}
use Rattle.field_core.specs.declared.place.Op.TheVariants.{Div}
use Rattle.field_core.specs.declared.place.Place.TheVariants.{Ratio as AtRatio}
use Rattle.field_core.specs.declared.place.WideAt.{WideAt}
use Rattle.field_core.specs.declared.ratio.Ratio.{Ratio}
use Rattle.field_core.proofs.Live.{true_or_false, true_not_false}
use Rattle.field_core.proofs.Positions.{below_or_not, compared}
use Rattle.fraction.specs.View.{number_of}
use Rattle.fraction.specs.Plain.{single as single_parts}
use Rattle.fraction.specs.Laws.PlainLaws.{plain_is_exact}
use Rattle.answers.proofs.Decided.{stage_ends}
use Rattle.case_model.specs.declared.inputs.Inputs.TheVariants.{Single}
use Rattle.case_model.specs.Sums.{number, number_at, ratio_at}
use Rattle.case_model.specs.Content.{Content}
use Rattle.case_model.specs.Validity.{IsValidContent}
use Rattle.case_model.proofs.ExactSums.{stored_single}
use Rattle.case_model.proofs.OrderExistence.{passes_or_not}
use Rattle.entangled.specs.CaseRun.{CaseState, is_live_in_case, case_level, case_opening, case_removal}
use Rattle.entangled.proofs.CaseLevels.{case_lowest}
use Rattle.sequential.specs.declared.decision.Decision.{Decision}
use Rattle.sequential.specs.declared.decision.StepLine.{StepLine}
use Rattle.sequential.specs.declared.priority.Priority.{Priority}
use Rattle.sequential.specs.declared.priority.Priority.TheVariants.{First, Last, Ratio as ByRatio}
use Rattle.sequential.specs.Choices.{MayRejectNone, IsFirstToReject, IsLastToReject, HasNoRatioBelow, HasLeastRatioBelow, IsNextIn, HasPresentWeight}
use Rattle.sequential.specs.Choices.{AreKeptBelow, IsNoLegalRatio, no_ratio, not_legal}
use Rattle.sequential.specs.Decisions.{hypotheses, IsDecision}
use Rattle.sequential.specs.DecisionRuns.{IsStepOf, IsEndOf, IsStepFault, IsRunSoFar, IsRun}
use Rattle.sequential.specs.Trials.{TrialContent, IsTrialOf, MayReject, IsNextTrial, number_left}
use Rattle.sequential.specs.WideDecisions.{HasWrittenRatio, IsWrittenRatio, AreDefinedBelow, IsFirstWideRatio, IsChoiceDefined, IsWideChoice, IsWideDecision}
use Rattle.sequential.specs.WideDecisions.{written_ratio}
use Rattle.sequential.proofs.Candidates.{none_more, first_one, stays, takes}
use Rattle.sequential.proofs.ChoiceFacts.{first_choice, last_choice, ratio_choice}
use Rattle.sequential.proofs.Decided.{run_decision, never_wide}
use Rattle.sequential.proofs.RatioFacts.{level_divides}
use Rattle.sequential.proofs.RunSteps.{run_start, run_step, run_end, run_fault, step_smaller}
use Rattle.sequential.proofs.TrialFacts.{opened_trial, distinct}
use Rattle.answers_exist.proofs.Results.{given_or_none, not_given}
use Rattle.answers_exist.proofs.Searches.{HoldsForNone, first_or_none, last_or_none}

-- ---- ratios that are written

module _ (ps : List Ratio) (s : CaseState) where
  -- the ratio of a position is written, or isn't
  has_ratio_or_not : (k : ℕ) → HasWrittenRatio s k ⊎ ¬ HasWrittenRatio s k
  has_ratio_or_not k = elim (true_or_false (is_live_in_case s k)) [
    | inr f ↦ inr (λ h. true_not_false (sym h.live ∙ f))
    | inl t ↦ elim (positive_or_not (number (case_level s k))) [
      | inl p ↦ inl (record { live = t; positive = p })
      | inr n ↦ inr (λ h. positive-not_at_most (number (case_level s k)) h.positive n)
    ]
  ]

  -- the ratio of a position is written, and is undefined
  abbrev IsUndefined : ℕ → Type 0
  IsUndefined k = HasWrittenRatio s k × (written_ratio ps s k ≡ None)

  undefined_or_not : (k : ℕ) → IsUndefined k ⊎ ¬ IsUndefined k
  undefined_or_not k = elim (has_ratio_or_not k) [
    | inr n ↦ inr (λ h. n h.0)
    | inl w ↦ elim (given_or_none (written_ratio ps s k)) [ inl q ↦ inr (λ h. not_given (written_ratio ps s k) q.0 q.1 h.1) | inr n ↦ inl (w, n) ]
  ]

  defined_below : (n : ℕ) → ((k : ℕ) → k < n → ¬ IsUndefined k) → AreDefinedBelow n ps s
  defined_below n none k h w = elim (given_or_none (written_ratio ps s k)) [ inl q ↦ q | inr u ↦ absurd (none k h (w, u)) ]

  -- all ratios are defined, or there is a first one that isn't
  pub ratios_or_wide : AreDefinedBelow (length ps) ps s ⊎ ((w : WideAt) × IsFirstWideRatio ps s w)
  ratios_or_wide = elim (first_or_none IsUndefined undefined_or_not (length ps)) [
    | inr none ↦ inl (defined_below (length ps) none)
    | inl f ↦ inr (
      record { component = 0; place = AtRatio f.0; op = Div },
      record {
        hypothesis = f.0;
        below = f.1.below;
        wide = record { written = f.1.holds.0; refused = f.1.holds.1; place = refl };
        before = defined_below f.0 f.1.before;
      },
    )
  ]

  -- the position with the least ratio of those below a number, or that none has a ratio
  abbrev IsLeastOf : ℕ → ℕ → Terms → Type 0
  IsLeastOf n j q = HasLeastRatioBelow n ps s j q

  one_more : (n : ℕ) (j : ℕ) (q r : Terms) → IsLeastOf n j q → IsWrittenRatio ps s n r → (i : ℕ) × (t : Terms) × IsLeastOf (n + 1) i t
  one_more n j q r L R = elim (true_or_false (at_most (number q) (number r))) [
    | inl up ↦ (j, q, stays ps s n j q r L R up)
    | inr f ↦ (n, r, takes ps s n j q r L R (λ up. true_not_false (sym up ∙ f)))
  ]

  least_or_none : (n : ℕ) → AreDefinedBelow n ps s → ((j : ℕ) × (q : Terms) × IsLeastOf n j q) ⊎ HasNoRatioBelow n s
  least_or_none zero defined = inr (λ k h. absurd (omega (arith, h)))
  least_or_none (suc n) defined =
      let before = least_or_none n (λ k h w. defined k (omega (arith, h)) w) in
      subst (λ m. ((j : ℕ) × (q : Terms) × IsLeastOf m j q) ⊎ HasNoRatioBelow m s) (add-one n)
      (elim (has_ratio_or_not n) [
        | inr none ↦ elim before [
          | inl l ↦ inl (l.0, l.1, passed l.0 l.1 none l.2)
          | inr all ↦ inr (none_more ps s n all none)
        ]
        | inl w ↦
            let q = defined n (omega arith) w in
            let Q : IsWrittenRatio ps s n q.0 = record { written = w; quotient = q.1 } in
            elim before [ inl l ↦ inl (one_more n l.0 l.1 q.0 l.2 Q) | inr all ↦ inl (n, q.0, first_one ps s n q.0 all Q) ]
      ])
    where
      -- a position without a ratio changes nothing
      passed : (j : ℕ) (q : Terms) → ¬ HasWrittenRatio s n → IsLeastOf n j q → IsLeastOf (n + 1) j q
      passed j q none L = record {
        below = (let b = L.below in omega (arith, b));
        ratio = L.ratio;
        least = λ k r h R. elim (below_or_not k n) [
          | inl b ↦ L.least k r b R
          | inr o ↦ absurd (none (subst (HasWrittenRatio s) (at_end k h o) R.written))
        ];
        first = L.first;
      }
        where
          at_end : (k : ℕ) → k < n + 1 → ¬ (k < n) → k ≡ n
          at_end k h o = elim (compared k n) [
            | inl e ↦ e
            | inr (inl l) ↦ absurd (o l)
            | inr (inr l) ↦ absurd (omega (arith, h, l))
          ]

-- ---- choices

module _ (c : Content) (t : TrialContent) (T : IsTrialOf c t) where
  level_lowest : (k : ℕ) → IsReduced (case_level t.state k)
  level_lowest k = case_lowest c t.rejected t.state k T.valid (distinct c t T) T.state

  -- the present weight
  pub weight_now : ℕ → Ratio
  weight_now k = record { num = (case_level t.state k).num; den = (case_level t.state k).den; valid = level_lowest k }

  pub weight_is : (k : ℕ) → terms (weight_now k) ≡ case_level t.state k
  unfolding weight_now
  weight_is k = refl

  may_or_not : (k : ℕ) → MayReject t k ⊎ ¬ MayReject t k
  may_or_not k = elim (below_or_not k (length t.p_values)) [
    | inr n ↦ inr (λ m. n m.below)
    | inl b ↦ elim (true_or_false (is_live_in_case t.state k)) [
      | inr f ↦ inr (λ m. true_not_false (sym m.live ∙ f))
      | inl l ↦ elim (passes_or_not (number_at t.p_values k) (number (case_level t.state k)) (number_of t.alpha)) [
        | inl p ↦ inl (record { below = b; live = l; passes = p })
        | inr n ↦ inr (λ m. n m.passes)
      ]
    ]
  ]

  none_may : HoldsForNone (MayReject t) (length t.p_values) → MayRejectNone t
  none_may none k m = none k m.below m

  first_or_nothing : ((j : ℕ) × MayReject t j × IsFirstToReject t j) ⊎ MayRejectNone t
  first_or_nothing = elim (first_or_none (MayReject t) may_or_not (length t.p_values)) [
    | inl f ↦ inl (f.0, f.1.holds, record { allowed = f.1.holds; least = f.1.before })
    | inr none ↦ inr (none_may none)
  ]

  last_or_nothing : ((j : ℕ) × MayReject t j × IsLastToReject t j) ⊎ MayRejectNone t
  last_or_nothing = elim (last_or_none (MayReject t) may_or_not (length t.p_values)) [
    | inl f ↦ inl (f.0, f.1.holds, record { allowed = f.1.holds; greatest = λ k h m. f.1.after k h m.below m })
    | inr none ↦ inr (none_may none)
  ]

  -- a written ratio is in lowest terms
  ratio_lowest : (k : ℕ) (q : Terms) → IsWrittenRatio t.p_values t.state k q → IsReduced q
  unfolding written_ratio
  ratio_lowest k q Q =
      let w = case_level t.state k in
      (plain_is_exact.stored Div (single_parts (terms (ratio_at t.p_values k))) (single_parts w) (single_parts q)
      (stored_single _ (ratio_at t.p_values k).valid) (stored_single w (level_lowest k)) (level_divides w (level_lowest k) Q.written.positive)
      (ap (option_map single_parts) Q.quotient)).reduced

  -- the least ratio, in lowest terms
  lowest_ratio : (j : ℕ) (q : Terms) → IsWrittenRatio t.p_values t.state j q → Ratio
  lowest_ratio j q Q = record { num = q.num; den = q.den; valid = ratio_lowest j q Q }

  -- where the ratios are defined, the least one is legal, or there is no legal choice
  pub ratio_or_nothing : AreDefinedBelow (length t.p_values) t.p_values t.state
      → ((j : ℕ) × (q : Ratio) × MayReject t j × HasLeastRatioBelow (length t.p_values) t.p_values t.state j (terms q)) ⊎ IsNoLegalRatio t
  unfolding lowest_ratio
  ratio_or_nothing defined = elim (least_or_none t.p_values t.state (length t.p_values) defined) [
    | inr none ↦ inr (no_ratio none)
    | inl l ↦ elim (may_or_not l.0) [
      | inr n ↦ inr (not_legal l.0 l.1 l.2 n)
      | inl m ↦ inl (l.0, lowest_ratio l.0 l.1 l.2.ratio, m, l.2)
    ]
  ]

  -- it is what the priority takes next
  pub ratio_taken : AreDefinedBelow (length t.p_values) t.p_values t.state → (j : ℕ) (q : Ratio) → MayReject t j
      → HasLeastRatioBelow (length t.p_values) t.p_values t.state j (terms q) → (d : Content) → IsTrialOf d t → IsNextIn d t ByRatio j
  ratio_taken defined j q m L d D = ratio_choice d t D (Some (record { hypothesis = j; ratio = q })) (record { least = L; legal = m }) defined

  -- what a priority takes next, or that it takes none, where its choice is defined
  abbrev Takes : Priority → ℕ → Type 0
  Takes priority j = MayReject t j × ((c : Content) → IsTrialOf c t → IsNextIn c t priority j)

  abbrev TakesNone : Priority → Type 0
  TakesNone priority = (c : Content) → IsTrialOf c t → (k : ℕ) → ¬ IsNextIn c t priority k

  takes_or_none : (priority : Priority) → IsChoiceDefined priority t.p_values t.state → ((j : ℕ) × Takes priority j) ⊎ TakesNone priority
  takes_or_none First defined = elim first_or_nothing [
    | inl f ↦ inl (f.0, (f.1, λ d D. first_choice d t D (Some f.0) f.2))
    | inr none ↦ inr (λ d D. first_choice d t D None none)
  ]
  takes_or_none Last defined = elim last_or_nothing [
    | inl f ↦ inl (f.0, (f.1, λ d D. last_choice d t D (Some f.0) f.2))
    | inr none ↦ inr (λ d D. last_choice d t D None none)
  ]
  takes_or_none ByRatio defined = elim (ratio_or_nothing defined) [
    | inl x ↦ inl (x.0, (x.2, ratio_taken defined x.0 x.1 x.2 x.3))
    | inr none ↦ inr (λ d D. ratio_choice d t D None none defined)
  ]

  choice_or_wide : (priority : Priority) → IsChoiceDefined priority t.p_values t.state ⊎ ((w : WideAt) × IsWideChoice priority t.p_values t.state w)
  choice_or_wide First = inl tt
  choice_or_wide Last = inl tt
  choice_or_wide ByRatio = ratios_or_wide t.p_values t.state

  -- ---- steps

  -- a trial once a hypothesis is rejected
  abbrev pub next_trial : ℕ → CaseState → TrialContent
  next_trial j s = record { p_values = t.p_values; alpha = t.alpha; state = s; rejected = t.rejected ++ j ∷ [] }

  pub is_next_trial : (j : ℕ) (s : CaseState) → case_removal t.state j ≡ Ok s → IsNextTrial t j (next_trial j s)
  is_next_trial j s e = record { p_values = refl; alpha = refl; removed = e; rejected = refl }

  -- a run ends here, has one more step, or is undefined at a place
  step_or_end : (priority : Priority)
      → IsEndOf priority t t ⊎ (((x : StepLine) × (new : TrialContent) × IsStepOf priority t new x) ⊎ ((w : WideAt) × IsStepFault priority t w))
  unfolding weight_now
  step_or_end priority = elim (choice_or_wide priority) [
    | inr w ↦ inr (inr (w.0, inl w.1))
    | inl defined ↦ elim (takes_or_none priority defined) [
      | inr none ↦ inl (record { choice = none; same = refl; defined = defined })
      | inl j ↦ elim (stage_ends (case_removal t.state j.0)) [
        | inl s ↦ inr (inl (
          record { hypothesis = j.0; weight = weight_now j.0 },
          next_trial j.0 s.0,
          record { choice = j.1.1; legal = j.1.0; weight = refl; next = is_next_trial j.0 s.0 s.1; defined = defined },
        ))
        | inr w ↦ inr (inr (w.0, inr (record { hypothesis = j.0; choice = j.1.1; defined = defined; refused = w.1 })))
      ]
    ]
  ]

  -- ---- what is kept

  line : ℕ → StepLine
  line k = record { hypothesis = k; weight = weight_now k }

  lines : List ℕ → List StepLine
  lines ks = map line ks

  lines_named : (ks : List ℕ) → hypotheses (lines ks) ≡ ks
  unfolding lines line
  lines_named [] = refl
  lines_named (k ∷ ks) = ap (λ xs. k ∷ xs) (lines_named ks)

  lines_weighted : (ks : List ℕ) → AllByRecursion (HasPresentWeight t.state) (lines ks)
  unfolding lines line weight_now
  lines_weighted [] = tt
  lines_weighted (k ∷ ks) = (refl, lines_weighted ks)

  kept_lines : (kept : List StepLine) × AreKeptBelow (length t.p_values) t.state kept
  kept_lines =
      let ks = filter (is_live_in_case t.state) (range_with_len 0 (length t.p_values)) in
      (lines ks, record { listed = lines_named ks; weights = lines_weighted ks })

-- ---- runs

module _ (c : Content) (priority : Priority) where
  -- a run that is done
  record Done : Type 0 where
    steps : List StepLine
    trial : TrialContent
    run : IsRun c priority steps trial

  -- the run is undefined first at a place of a step
  abbrev Breaks : Type 0
  Breaks = (n : ℕ) × (w : WideAt) × IsWideDecision c priority n w

  -- a run ends, if it ends after each further step
  after_step : (steps : List StepLine) (t : TrialContent) → IsRunSoFar c priority steps t
      → ((more : List StepLine) (new : TrialContent) → IsRunSoFar c priority more new → number_left new < number_left t → Done ⊎ Breaks) → Done ⊎ Breaks
  after_step steps t R rest = elim (step_or_end c t R.is_trial priority) [
    | inl e ↦ inl (record { steps = steps; trial = t; run = run_end c priority steps t t R e })
    | inr (inr w) ↦ inr (length steps + 1, w.0, run_fault c priority steps t w.0 R w.1)
    | inr (inl x) ↦ rest (steps ++ x.0 ∷ []) x.1 (run_step c priority steps t x.1 x.0 R x.2)
        (step_smaller priority t x.1 x.0 ∣ record { content = c; is_trial = R.is_trial } ∣₁ x.2)
  ]

  run_within : (n : ℕ) (steps : List StepLine) (t : TrialContent) → IsRunSoFar c priority steps t → number_left t ≤ n → Done ⊎ Breaks
  run_within zero steps t R h = after_step steps t R (λ more new S less. absurd (omega (arith, less, h)))
  run_within (suc n) steps t R h = after_step steps t R (λ more new S less. run_within n more new S (omega (arith, less, h)))

  -- a trial in which nothing is rejected
  abbrev opened : List Ratio → CaseState → TrialContent
  opened ps s = record { p_values = ps; alpha = c.alpha; state = s; rejected = [] }

  run_from : (ps : List Ratio) → IsValidContent c → c.inputs ≡ Single ps → (s : CaseState) → case_opening c ≡ Ok s → Done ⊎ Breaks
  run_from ps V e s o =
      let t = opened ps s in
      run_within (number_left t) [] t (run_start c priority t (opened_trial c t V e refl refl o) refl) (omega arith)

  -- a case with a p-value for each hypothesis has a decision by the priority, and its run is defined; or its run is undefined
  pub decision_or_wide : (ps : List Ratio) → IsValidContent c → c.inputs ≡ Single ps
      → ((d : Decision) × ((n : ℕ) (w : WideAt) → ¬ IsWideDecision c priority n w) × IsDecision c priority d)
      ⊎ ((n : ℕ) × (w : WideAt) × IsWideDecision c priority n w)
  decision_or_wide ps V e = elim (stage_ends (case_opening c)) [
    | inr w ↦ inr (zero, w.0, w.1)
    | inl s ↦ elim (run_from ps V e s.0 s.1) [
      | inr w ↦ inr w
      | inl D ↦
          let K = kept_lines c D.trial D.run.so_far.is_trial in
          inl (
            record { steps = D.steps; kept = K.0 },
            never_wide c priority D.steps D.trial D.run,
            run_decision c priority D.steps D.trial D.run K.0 K.1,
          )
    ]
  ]
