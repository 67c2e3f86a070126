-- The looks at a case end: there is one for each arrival, or one of them is the first that stops part way.
use Rattle.std.proofs.Common.{◌≡◌, ◌⊎◌, inl, inr, refl, ap, ◌∙◌, ℕ, ◌+◌, arith, List, [], ◌∷◌, ◌++◌, Err}
use Rattle.std.proofs.lemmas.List.{append_assoc}
use Rattle.field_core.specs.declared.place.WideAt.{WideAt}
use Rattle.graph_io.specs.declared.keeper.Look.{Look}
use Rattle.answers.proofs.Decided.{stage_ends}
use Rattle.case_model.specs.declared.draft_stages.Arrival.{Arrival}
use Rattle.case_model.specs.Content.{Content}
use Rattle.case_model.specs.Validity.{IsValidContent}
use Rattle.entangled.specs.CaseRun.{case_opening}
use Rattle.entangled.proofs.CaseRuns.{after_opening}
use Rattle.staged_levels.specs.declared.event.Settled.{Settled}
use Rattle.staged_levels.specs.declared.event.StepFault.{StepFault}
use Rattle.staged_levels.specs.declared.event.StepFault.TheVariants.{Known, StageRange, PRange, Rejected, NotLegal, Wide}
use Rattle.staged_levels.specs.Looks.{arrivals_of, IsDefined, IsLook, IsWideLook, LooksLead, AreLooks, IsFirstWideLook, BreaksOff}
use Rattle.staged_levels.specs.Studies.{StudyState, start, MayArrive, IsStudyOf}
use Rattle.staged_levels.specs.StudyAnswers.{IsArriveFault}
use Rattle.staged_levels.proofs.CaseArrivals.{arrival_may}
use Rattle.staged_levels.proofs.LookSteps.{look_values}
use Rattle.study_register.specs.RegisterFaults.{IsBadLook}
use Rattle.study_register.proofs.EachEnd.{look_ends}
use Rattle.staged_levels.proofs.StateFacts.{start_study}
use Rattle.study_register.proofs.TakenLooks.{taken_study}

-- an arrival, as a look
abbrev look_of : Arrival → Look
look_of a = record { hypothesis = a.hypothesis; stage = a.stage; p = a.p }

module _ (c : Content) where
  -- what may arrive is refused for no reason
  not_refused : (s : StudyState) (a : Arrival) (f : StepFault) → MayArrive c s.values a → ¬ IsArriveFault c s a f
  not_refused s a (StageRange t) m h = h.1 m.stage
  not_refused s a (Known i t) m h = m.unknown h.3
  not_refused s a PRange m h = h.2 m.p
  not_refused s a (Rejected i) m h = h
  not_refused s a (NotLegal i) m h = h
  not_refused s a (Wide w) m h = h

  not_bad : (s : StudyState) (a : Arrival) → MayArrive c s.values a → ¬ IsBadLook c s (look_of a)
  not_bad s a m (inl n) = let b = m.below in absurd (omega (arith, n, b))
  not_bad s a m (inr f) = not_refused s a f.0 m f.1

  -- a p-value that may arrive makes a look, or one that stops part way
  look_or_break : (s : StudyState) → IsStudyOf c s → IsDefined c s → (a : Arrival) → MayArrive c s.values a
      → ((new : StudyState) × (added : List Settled) × IsLook c s a added new) ⊎ ((w : WideAt) × IsWideLook c s a w)
  look_or_break s S D a m = elim (look_ends c s S D (look_of a)) [
    | inl t ↦ inl (t.0, t.1.0, t.1.1)
    | inr (inl b) ↦ absurd (not_bad s a m b)
    | inr (inr w) ↦ inr w
  ]

  -- from a study on, the arrivals of a case that are still to come make looks, or one is the first that stops part way
  looks_or_break : IsValidContent c → (more : List Arrival) (s : StudyState) (i : ℕ) → IsStudyOf c s → IsDefined c s
      → s.values ++ more ≡ arrivals_of c.inputs
      → ((looks : List (List Settled)) × (end : StudyState) × LooksLead c s more looks end) ⊎ ((n : ℕ) × (w : WideAt) × IsFirstWideLook c s i more n w)
  looks_or_break V [] s i S D e = inl ([], s, refl)
  looks_or_break V (a ∷ more) s i S D e = elim (look_or_break s S D a (arrival_may c V s.values more a e)) [
    | inr w ↦ inr (i, w.0, inl (refl, w.1))
    | inl l ↦
        let values : l.0.values ≡ s.values ++ a ∷ [] = look_values c s l.0 a l.1 l.2 in
        let rest : l.0.values ++ more ≡ arrivals_of c.inputs = ap (λ vs. vs ++ more) values ∙ append_assoc s.values (a ∷ []) more ∙ e in
        elim (looks_or_break V more l.0 (i + 1) (taken_study c s l.0 (look_of a) S (l.1, l.2)) l.2.is_defined rest) [
          | inl ls ↦ inl (l.1 ∷ ls.0, ls.1, (l.0, l.2, ls.2))
          | inr f ↦ inr (f.0, f.1, inr (l.1, l.0, l.2, f.2))
        ]
  ]

  -- a case has looks; or its opening is undefined, or a look is the first that stops part way
  pub looks_or_wide : IsValidContent c → ((looks : List (List Settled)) × AreLooks c looks)
      ⊎ (((w : WideAt) × (case_opening c ≡ Err w)) ⊎ ((n : ℕ) × (w : WideAt) × BreaksOff c n w))
  looks_or_wide V = elim (stage_ends (case_opening c)) [
    | inr w ↦ inr (inl w)
    | inl t ↦
        let D : IsDefined c start = record { state = t.0; state_is = after_opening c t.0 t.1 } in
        elim (looks_or_break V (arrivals_of c.inputs) start 1 (start_study c V) D refl) [
          | inl ls ↦ inl (ls.0, record { opened = D; end = ls.1; lead = ls.2 })
          | inr f ↦ inr (inr (f.0, f.1, record { opened = D; first = f.2 }))
        ]
  ]
