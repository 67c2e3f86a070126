-- The written runs of a case end with a result, or at the first operation that is undefined.
use Rattle.std.specs.Prelude.{◌≡◌, ◌⊎◌, ℕ, List, Ok, Err}
use Rattle.field_core.specs.declared.place.WideAt.{WideAt}
use Rattle.field_core.specs.declared.ratio.Ratio.{Ratio}
use Rattle.case_model.specs.declared.inputs.Inputs.TheVariants.{Single}
use Rattle.case_model.specs.Content.{Content}
use Rattle.case_model.specs.Validity.{IsValidContent}
use Rattle.entangled.specs.CaseRun.{case_opening}
use Rattle.sequential.specs.declared.decision.Decision.{Decision}
use Rattle.sequential.specs.declared.priority.Priority.{Priority}
use Rattle.sequential.specs.Decisions.{IsDecision}
use Rattle.sequential.specs.WideDecisions.{IsWideDecision}
use Rattle.adjusted_p.specs.declared.adjusted.Adjusted.{Adjusted}
use Rattle.adjusted_p.specs.AdjustedLists.{AreAdjusted}
use Rattle.adjusted_p.specs.WrittenRun.{IsWideAdjusting}
use Rattle.staged_levels.specs.declared.event.Settled.{Settled}
use Rattle.staged_levels.specs.Looks.{AreLooks, BreaksOff}
use Rattle.closed_test.specs.SetRuns.{AreRunsDefined, IsFirstWideSet}
use Rattle.closed_test.specs.SetWeights.{AreIntersectionWeights}
use Rattle.evidence_check.specs.declared.evidence.Evidence.{Evidence}
use Rattle.evidence_check.specs.EvidenceView.{version_of, IsEvidenceFor}
use Rattle.evidence.specs.CaseFlows.{IsCompleteOrder, case_flows}
use Rattle.evidence.specs.FlowRun.{WideStep}
use Rattle.evidence.specs.Made.{written_evidence}

-- A case with a p-value for each hypothesis has a decision by each priority, and its written run is defined; or there is a first undefined operation of
-- the run.
abbrev pub DecisionsEnd : Type 0
DecisionsEnd =
    (c : Content) (priority : Priority) (ps : List Ratio) → IsValidContent c → c.inputs ≡ Single ps
    → ((d : Decision) × ((n : ℕ) (w : WideAt) → ¬ IsWideDecision c priority n w) × IsDecision c priority d)
    ⊎ ((n : ℕ) × (w : WideAt) × IsWideDecision c priority n w)

-- A case with a p-value for each hypothesis has adjusted values, and their written run is defined; or there is a first undefined operation of the run.
abbrev pub AdjustedRunsEnd : Type 0
AdjustedRunsEnd =
    (c : Content) (ps : List Ratio) → IsValidContent c → c.inputs ≡ Single ps
    → ((xs : List Adjusted) × ((n : ℕ) (w : WideAt) → ¬ IsWideAdjusting c n w) × AreAdjusted c xs)
    ⊎ ((n : ℕ) × (w : WideAt) × IsWideAdjusting c n w)

-- A case has looks; or its opening is undefined, or the look at one of its arrivals is the first that stops part way.
abbrev pub LooksEnd : Type 0
LooksEnd =
    (c : Content) → IsValidContent c
    → ((looks : List (List Settled)) × AreLooks c looks)
    ⊎ (((w : WideAt) × (case_opening c ≡ Err w)) ⊎ ((n : ℕ) × (w : WideAt) × BreaksOff c n w))

-- The runs of all sets of a case are defined, and the sets have weights; or there is a first set whose run is undefined.
abbrev pub SetRunsEnd : Type 0
SetRunsEnd =
    (c : Content) → IsValidContent c
    → (AreRunsDefined c × ((weight : ℕ → ℕ → Ratio) × AreIntersectionWeights c weight)) ⊎ ((n : ℕ) × (w : WideAt) × IsFirstWideSet c n w)

-- The flow run of a case along a complete legal order gives evidence of version 2 that fits the case, or it has a first undefined operation.
abbrev pub FlowRunsEnd : Type 0
FlowRunsEnd =
    (c : Content) (js : List ℕ) → IsValidContent c → IsCompleteOrder c js
    → ((e : Evidence) × IsEvidenceFor c e × (version_of e ≡ 2) × (case_flows c js ≡ Ok (written_evidence e)))
    ⊎ ((w : WideStep) × (case_flows c js ≡ Err w))
