-- Each look ends: it is taken, it is bad, or it stops part way; so does each list of looks.
use Rattle.std.proofs.Common.{◌≡◌, ◌⊎◌, inl, inr, refl, sym, ap, ◌∙◌, subst, ℕ, zero, suc, ◌+◌, ◌≤◌, arith, List, []}
use Rattle.std.proofs.Common.{◌∷◌, ◌++◌, length, is_some, Result, Ok, Err}
use Rattle.std.proofs.lemmas.List.{map_push}
use Rattle.std.specs.List.{Contains}
use Rattle.field_core.specs.Number.{Number}
use Rattle.field_core.specs.Sets.{IsIn, dropping, whole}
use Rattle.field_core.specs.Runs.{IsOrder, left_after}
use Rattle.field_core.specs.Terms.{IsReduced}
use Rattle.field_core.specs.declared.place.WideAt.{WideAt}
use Rattle.field_core.specs.declared.ratio.Ratio.{Ratio}
use Rattle.field_core.proofs.Live.{true_or_false, true_not_false}
use Rattle.field_core.proofs.Positions.{below_or_above}
use Rattle.field_core.proofs.RemovalLaws.{same_or_not}
use Rattle.fraction.specs.View.{number_of}
use Rattle.graph_io.specs.declared.keeper.Look.{Look}
use Rattle.case_model.specs.declared.draft_stages.Arrival.{Arrival}
use Rattle.case_model.specs.Content.{Content, entangled}
use Rattle.case_model.specs.Draft.{is_p_value}
use Rattle.case_model.specs.IntersectionWeight.{IsIntersectionWeight}
use Rattle.case_model.specs.LegalOrder.{IsRunBy, IsFirst}
use Rattle.case_model.specs.StagedCase.{spend_in, stages_in, IsStagedLegalIn}
use Rattle.case_model.specs.StagedTest.{Meets, AtStages}
use Rattle.case_model.specs.Validity.{IsValidContent}
use Rattle.case_model.proofs.LegalSteps.{legal_distinct_by}
use Rattle.case_model.proofs.LocalTests.{legal_passes_by}
use Rattle.case_model.proofs.RejectionOrders.{first_none, left_append}
use Rattle.case_model.proofs.StagedTests.{meets_or_not, settling_exists}
use Rattle.case_model.proofs.ValidContents.{valid_content}
use Rattle.entangled.specs.CaseRun.{CaseState, case_level, case_opening}
use Rattle.entangled.specs.CaseAfter.{case_after}
use Rattle.entangled.proofs.CaseLevels.{case_levels, case_lowest}
use Rattle.entangled.proofs.CaseRuns.{after_opening}
use Rattle.staged_levels.specs.declared.event.Settled.{Settled}
use Rattle.staged_levels.specs.declared.event.StepFault.TheVariants.{Known, StageRange, PRange}
use Rattle.staged_levels.specs.Studies.{StudyState, start, positions_of, remaining, IsStage, MayArrive, IsFirstStage, IsRejectionFrom, IsStudyOf, IsLegalNow}
use Rattle.staged_levels.specs.StudyCalls.{IsArrival, IsRejection, AreFirstRejections, Settles}
use Rattle.staged_levels.specs.StudyAnswers.{IsWideSettling}
use Rattle.staged_levels.specs.StudyContents.{value_at}
use Rattle.staged_levels.specs.Looks.{IsDefined, IsWideLook}
use Rattle.staged_levels.proofs.Calls.{settle_appends}
use Rattle.staged_levels.proofs.StudyFacts.{study_order, arrival_leaves, rejection_leaves}
use Rattle.staged_levels.proofs.Values.{known_from, unknown_from}
use Rattle.study_register.specs.declared.fault.RegisterFault.{RegisterFault}
use Rattle.study_register.specs.declared.fault.RegisterFault.TheVariants.{BadLook, Wide}
use Rattle.study_register.specs.Looking.{arrival_of, Takes, Follows, AreTaken}
use Rattle.study_register.specs.RegisterFaults.{IsBadLook, IsFirstStop, IsStopped}
use Rattle.study_register.specs.RegisterStatements.{EachLookEnds, EachOpeningEnds}
use Rattle.study_register.proofs.TakenLooks.{taken_study, taken_is_study}
use Rattle.staged_levels.proofs.StateFacts.{start_study}

-- ---- arrivals

stage_or_not : (c : Content) (t : ℕ) → IsStage c t ⊎ ¬ IsStage c t
stage_or_not c t = elim (below_or_above 0 t) [
  | inr z ↦ inr (λ s. let f = s.first in omega (arith, f, z))
  | inl p ↦ elim (below_or_above (stages_in c.inputs) t) [
    | inl q ↦ inr (λ s. let l = s.last in omega (arith, l, q))
    | inr q ↦ inl (record { first = omega (arith, p); last = q })
  ]
]

-- a look may arrive, or is bad
arrives_or_bad : (c : Content) (s : StudyState) (l : Look) → MayArrive c s.values (arrival_of l) ⊎ IsBadLook c s l
arrives_or_bad c s l = elim (below_or_above l.hypothesis (length c.names)) [
  | inr n ↦ inr (inl n)
  | inl b ↦ elim (stage_or_not c l.stage) [
    | inr n ↦ inr (inr (StageRange l.stage, (refl, n)))
    | inl t ↦ elim (true_or_false (is_some (value_at s.values l.hypothesis l.stage))) [
      | inl k ↦ inr (inr (Known l.hypothesis l.stage, (refl, refl, t, known_from s.values l.hypothesis l.stage k)))
      | inr u ↦ elim (true_or_false (is_p_value l.p)) [
        | inl p ↦ inl (record { below = b; stage = t; unknown = unknown_from s.values l.hypothesis l.stage u; p = p })
        | inr f ↦ inr (inr (PRange, (t, unknown_from s.values l.hypothesis l.stage u, λ e. true_not_false (sym e ∙ f))))
      ]
    ]
  ]
]

-- ---- the least stage

-- of the arrivals of a list for which something holds, one of the least stage
record Least (P : Arrival → Type 0) (values : List Arrival) : Type 0 where
  arrival : Arrival
  arrived : Contains values arrival
  holds : P arrival
  least : (a : Arrival) → Contains values a → P a → arrival.stage ≤ a.stage

here_or_behind : (b : Arrival) (bs : List Arrival) (a : Arrival) → Contains (b ∷ bs) a → (b ≡ a) ⊎ Contains bs a
here_or_behind b bs a (zero, q, e) = inl e
here_or_behind b bs a (suc i, q, e) = inr (i, omega (arith, q), e)

module _ (P : Arrival → Type 0) (decide : (a : Arrival) → P a ⊎ ¬ P a) where
  least_or_none : (values : List Arrival) → Least P values ⊎ ((a : Arrival) → Contains values a → ¬ P a)
  least_or_none [] = inr (λ a h. let q = h.1 in absurd (omega (arith, q)))
  least_or_none (b ∷ bs) = elim (decide b) [
    | inr n ↦ elim (least_or_none bs) [
      | inr none ↦ inr (λ a h p. elim (here_or_behind b bs a h) [ inl e ↦ n (subst P (sym e) p) | inr r ↦ none a r p ])
      | inl m ↦ inl (record {
        arrival = m.arrival;
        arrived = behind m.arrival m.arrived;
        holds = m.holds;
        least = λ a h p. elim (here_or_behind b bs a h) [ inl e ↦ absurd (n (subst P (sym e) p)) | inr r ↦ m.least a r p ];
      })
    ]
    | inl y ↦ elim (least_or_none bs) [
      | inr none ↦ inl (record {
        arrival = b;
        arrived = (zero, omega arith, refl);
        holds = y;
        least = λ a h p. elim (here_or_behind b bs a h) [ inl e ↦ subst (λ x. b.stage ≤ x.stage) e (omega arith) | inr r ↦ absurd (none a r p) ];
      })
      | inl m ↦ elim (below_or_above b.stage m.arrival.stage) [
        | inl less ↦ inl (record {
          arrival = b;
          arrived = (zero, omega arith, refl);
          holds = y;
          least = λ a h p. elim (here_or_behind b bs a h) [
            | inl e ↦ subst (λ x. b.stage ≤ x.stage) e (omega arith)
            | inr r ↦ let d = m.least a r p in omega (arith, less, d)
          ];
        })
        | inr more ↦ inl (record {
          arrival = m.arrival;
          arrived = behind m.arrival m.arrived;
          holds = m.holds;
          least = λ a h p. elim (here_or_behind b bs a h) [ inl e ↦ subst (λ x. m.arrival.stage ≤ x.stage) e more | inr r ↦ m.least a r p ];
        })
      ]
    ]
  ]
    where
      behind : (a : Arrival) → Contains bs a → Contains (b ∷ bs) a
      behind a h = (suc h.0, (let q = h.1 in omega (arith, q)), h.2)

-- an arrival of a hypothesis that meets the level of its stage at a weight
abbrev MeetsHere : Content → ℕ → Number → Arrival → Type 0
MeetsHere c k u a = (a.hypothesis ≡ k) × Meets (spend_in c k) (number_of c.alpha) a.stage u (number_of a.p)

meets_here_or_not : (c : Content) (k : ℕ) (u : Number) (a : Arrival) → MeetsHere c k u a ⊎ ¬ MeetsHere c k u a
meets_here_or_not c k u a = elim (same_or_not a.hypothesis k) [
  | inr n ↦ inr (λ t. n t.0)
  | inl e ↦ elim (meets_or_not (spend_in c k) (number_of c.alpha) a.stage u (number_of a.p)) [ inl m ↦ inl (e, m) | inr n ↦ inr (λ t. n t.1) ]
]

-- where a hypothesis passes at a weight, there is a least stage at which it does
stage_exists : (c : Content) (values : List Arrival) (k : ℕ) (u : Number) → AtStages (spend_in c) (number_of c.alpha) values k u
    → (t : ℕ) × IsFirstStage c values k u t
stage_exists c values k u h = elim (least_or_none (MeetsHere c k u) (meets_here_or_not c k u) values) [
  | inr none ↦ absurd (none h.arrival h.at.arrived (h.at.hypothesis, h.at.meets))
  | inl m ↦ (
    m.arrival.stage,
    record {
      arrival = m.arrival;
      meets = record { arrived = m.arrived; hypothesis = m.holds.0; meets = m.holds.1 };
      stage = refl;
      least = λ a q. m.least a q.arrived (q.hypothesis, q.meets);
    },
  )
]

-- ---- settlings

done_or_wide : (r : Result CaseState WideAt) → ((t : CaseState) × (r ≡ Ok t)) ⊎ ((w : WideAt) × (r ≡ Err w))
done_or_wide (Ok t) = inl (t, refl)
done_or_wide (Err w) = inr (w, refl)

module _ (c : Content) where
  module _ (s : StudyState) (S : IsStudyOf c s) (D : IsDefined c s) where
    -- the rejected ones are distinct
    rejected_order : IsOrder (length c.names) whole (positions_of s.rejected)
    unfolding entangled
    rejected_order = legal_distinct_by (entangled c) (valid_content c S.valid) (AtStages (spend_in c) (number_of c.alpha) s.values)
        (positions_of s.rejected) whole (study_order c s S)

    level_lowest : (j : ℕ) → IsReduced (case_level D.state j)
    level_lowest j = case_lowest c (positions_of s.rejected) D.state j S.valid rejected_order D.state_is

    -- the present weight
    weight_of : ℕ → Ratio
    weight_of j = record { num = (case_level D.state j).num; den = (case_level D.state j).den; valid = level_lowest j }

    weight_is : (j : ℕ) → IsIn (length c.names) (remaining s) j → IsIntersectionWeight (entangled c) (remaining s) j (number_of (weight_of j))
    unfolding weight_of
    weight_is j m = case_levels c (positions_of s.rejected) D.state j S.valid rejected_order D.state_is m

    -- a legal hypothesis has a line of rejection
    line_exists : (j : ℕ) → IsLegalNow c s j → (line : Settled) × (line.hypothesis ≡ j) × IsRejectionFrom c s.values (remaining s) line
    unfolding entangled
    line_exists j L =
        let is = weight_is j L.member in
        let passes = legal_passes_by (entangled c) (AtStages (spend_in c) (number_of c.alpha) s.values) (remaining s) j (number_of (weight_of j)) L is in
        let first = stage_exists c s.values j (number_of (weight_of j)) passes in
        (record { hypothesis = j; stage = first.0; weight = weight_of j }, refl, record { member = L.member; weight = is; stage = first.1 })

  -- a settling from a study stops part way at a place
  record Breaks (s : StudyState) (w : WideAt) : Type 0 where
    hypotheses : List ℕ
    stop : StudyState
    rejections : AreFirstRejections c s hypotheses stop
    is_defined : IsDefined c stop
    wide : IsWideSettling c stop w

  -- a settling from a study ends in another one
  record Ends (s t : StudyState) : Type 0 where
    settles : Settles c s t
    is_defined : IsDefined c t

  -- (the first legal hypothesis of a study that is defined)
  module _ (s : StudyState) (S : IsStudyOf c s) (D : IsDefined c s) (j : ℕ) (f : IsFirst (IsStagedLegalIn c s.values) (remaining s) j) where
    line : (line : Settled) × (line.hypothesis ≡ j) × IsRejectionFrom c s.values (remaining s) line
    line = line_exists s S D j f.allowed

    -- the study once it is rejected
    abbrev next : StudyState
    next = record { values = s.values; rejected = s.rejected ++ line.0 ∷ [] }

    rejection : IsRejection c s j next
    rejection = record { legal = f.allowed; line = line.0; hypothesis = line.1; line_is = line.2; values = refl; rejected = refl }

    next_study : IsStudyOf c next
    next_study = rejection_leaves c s S next line.0 line.2 refl refl

    one_more : positions_of next.rejected ≡ positions_of s.rejected ++ j ∷ []
    one_more = map_push (λ r. r.hypothesis) s.rejected line.0 ∙ ap (λ i. positions_of s.rejected ++ i ∷ []) line.1

    next_defined : (t : CaseState) → case_after c (positions_of s.rejected ++ j ∷ []) ≡ Ok t → IsDefined c next
    next_defined t e = record { state = t; state_is = ap (case_after c) one_more ∙ e }

    next_remains : remaining next ≡ dropping j (remaining s)
    next_remains = ap (left_after whole) one_more ∙ left_append (positions_of s.rejected) (j ∷ []) whole

    next_run : (js : List ℕ) → IsRunBy (IsFirst (IsStagedLegalIn c s.values)) (remaining s) (j ∷ js)
        → IsRunBy (IsFirst (IsStagedLegalIn c s.values)) (remaining next) js
    next_run js r = subst (λ I. IsRunBy (IsFirst (IsStagedLegalIn c s.values)) I js) (sym next_remains)
        (record { order = r.order.1; complete = r.complete })

    first_then_ends : (t : StudyState) → Ends next t → Ends s t
    first_then_ends t e = record {
      settles = record {
        hypotheses = j ∷ e.settles.hypotheses;
        rejections = (f, (next, rejection, e.settles.rejections));
        settled = e.settles.settled;
      };
      is_defined = e.is_defined;
    }

    first_then_breaks : (w : WideAt) → Breaks next w → Breaks s w
    first_then_breaks w b = record {
      hypotheses = j ∷ b.hypotheses;
      stop = b.stop;
      rejections = (f, (next, rejection, b.rejections));
      is_defined = b.is_defined;
      wide = b.wide;
    }

  -- along the settling of the test a study is settled, or the removal of the next one is undefined
  ends_or_breaks : (js : List ℕ) (s : StudyState) → IsStudyOf c s → IsDefined c s
      → IsRunBy (IsFirst (IsStagedLegalIn c s.values)) (remaining s) js
      → ((t : StudyState) × Ends s t) ⊎ ((w : WideAt) × Breaks s w)
  ends_or_breaks [] s S D r = inl (
    s,
    record {
      settles = record {
        hypotheses = [];
        rejections = refl;
        settled = first_none (IsStagedLegalIn c s.values) (remaining s) r.complete;
      };
      is_defined = D;
    },
  )
  ends_or_breaks (j ∷ js) s S D r = elim (done_or_wide (case_after c (positions_of s.rejected ++ j ∷ []))) [
    | inr w ↦ inr (
      w.0,
      record {
        hypotheses = [];
        stop = s;
        rejections = refl;
        is_defined = D;
        wide = record { next = j; is_first = r.order.0; wide = w.1 };
      },
    )
    | inl t ↦ elim
        (ends_or_breaks js (next s S D j r.order.0) (next_study s S D j r.order.0) (next_defined s S D j r.order.0 t.0 t.1)
        (next_run s S D j r.order.0 js r)) [
          | inl e ↦ inl (e.0, first_then_ends s S D j r.order.0 e.0 e.1)
          | inr b ↦ inr (b.0, first_then_breaks s S D j r.order.0 b.0 b.1)
        ]
  ]

  -- ---- looks

  -- (a study that is defined, and the next look)
  module _ (s : StudyState) (S : IsStudyOf c s) (D : IsDefined c s) (l : Look) where
    -- once it has arrived
    abbrev arrived : StudyState
    arrived = record { values = s.values ++ arrival_of l ∷ []; rejected = s.rejected }

    arrival : MayArrive c s.values (arrival_of l) → IsArrival c s (arrival_of l) arrived
    arrival m = record { may = m; values = refl; rejected = refl }

    takes : MayArrive c s.values (arrival_of l) → (t : StudyState) → Ends arrived t → Takes c s l t
    takes m t e =
        let added = settle_appends c arrived t e.settles in
        (added.0, record { arrived = arrived; arrival = arrival m; settles = e.settles; rejected = added.1; is_defined = e.is_defined })

    breaks_off : MayArrive c s.values (arrival_of l) → (w : WideAt) → Breaks arrived w → IsWideLook c s (arrival_of l) w
    breaks_off m w b = record {
      arrived = arrived;
      arrival = arrival m;
      rejected = b.hypotheses;
      stop = b.stop;
      rejections = b.rejections;
      is_defined = b.is_defined;
      wide = b.wide;
    }

    settled_or_broken : MayArrive c s.values (arrival_of l) → ((t : StudyState) × Takes c s l t) ⊎ ((w : WideAt) × IsWideLook c s (arrival_of l) w)
    settled_or_broken m =
        let run = settling_exists (spend_in c) (number_of c.alpha) arrived.values (entangled c) (remaining arrived) (valid_content c S.valid) in
        let study : IsStudyOf c arrived = arrival_leaves c s S arrived (arrival_of l) m refl refl in
        elim (ends_or_breaks run.0 arrived study (record { state = D.state; state_is = D.state_is }) run.1) [
          | inl e ↦ inl (e.0, takes m e.0 e.1)
          | inr b ↦ inr (b.0, breaks_off m b.0 b.1)
        ]

    pub look_ends : ((t : StudyState) × Takes c s l t) ⊎ (IsBadLook c s l ⊎ ((w : WideAt) × IsWideLook c s (arrival_of l) w))
    look_ends = elim (arrives_or_bad c s l) [
      | inr b ↦ inr (inl b)
      | inl m ↦ elim (settled_or_broken m) [ inl t ↦ inl t | inr w ↦ inr (inr w) ]
    ]

  -- ---- lists of looks

  follow_or_stop : (ls : List Look) (old : StudyState) (n : ℕ) → IsStudyOf c old → IsDefined c old
      → ((s : StudyState) × Follows c old ls s) ⊎ ((why : RegisterFault) × IsFirstStop c old n ls why)
  follow_or_stop [] old n S D = inl (old, refl)
  follow_or_stop (l ∷ ls) old n S D = elim (look_ends old S D l) [
    | inl t ↦ elim (follow_or_stop ls t.0 (n + 1) (taken_study c old t.0 l S t.1) t.1.1.is_defined) [
      | inl e ↦ inl (e.0, (t.0, t.1, e.1))
      | inr f ↦ inr (f.0, inr (t.0, t.1, f.1))
    ]
    | inr r ↦ elim r [
      | inl b ↦ inr (BadLook n l, inl (refl, refl, b))
      | inr w ↦ inr (Wide n w.0, inl (refl, w.1))
    ]
  ]

  -- looks that were taken lead to a state that is defined
  pub follows_defined : (ls : List Look) (old new : StudyState) → IsDefined c old → Follows c old ls new → IsDefined c new
  follows_defined [] old new D h = subst (IsDefined c) (sym h) D
  follows_defined (l ∷ ls) old new D h = follows_defined ls h.0 new h.1.1.is_defined h.2

-- ---- the laws

pub each_look_ends : EachLookEnds
each_look_ends c looks s l V T = look_ends c s (taken_is_study c V looks s T) (follows_defined c looks start s T.opened T.follows) l

-- a case that was opened
opened_ends : (c : Content) (looks : List Look) → IsValidContent c → IsDefined c start
    → ((s : StudyState) × AreTaken c looks s) ⊎ ((why : RegisterFault) × IsStopped c looks why)
opened_ends c looks V D = elim (follow_or_stop c looks start 1 (start_study c V) D) [
  | inl s ↦ inl (s.0, record { opened = D; follows = s.1 })
  | inr f ↦ inr (f.0, record { opened = D; first = f.1 })
]

pub each_opening_ends : EachOpeningEnds
each_opening_ends c looks V = elim (done_or_wide (case_opening c)) [
  | inr w ↦ inr (inr w)
  | inl t ↦ elim (opened_ends c looks V (record { state = t.0; state_is = after_opening c t.0 t.1 })) [ inl s ↦ inl s | inr f ↦ inr (inl f) ]
]
