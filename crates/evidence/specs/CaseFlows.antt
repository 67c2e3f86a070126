-- The written flow run of a case, and the evidence that it gives.
use Rattle.std.specs.Prelude.{◌≡◌, ℕ, Bool, true, false, List, Result, Err, map, length}
use Rattle.field_core.specs.Sets.{whole}
use Rattle.field_core.specs.Steps.{◌>>=◌}
use Rattle.fraction.specs.View.{number_of}
use Rattle.case_model.specs.Sums.{number_at}
use Rattle.case_model.specs.Content.{Content, entangled}
use Rattle.case_model.specs.Validity.{IsValidContent}
use Rattle.case_model.specs.LegalOrder.{IsLegalOrder, IsComplete}
use Rattle.case_numbers.specs.Numbers.{Numbers, numbers_of, kind_of}
use Rattle.entangled.specs.States.{graph_in, IsProperIn, removal_in}
use Rattle.entangled.specs.CaseRun.{CaseState, state_of, opening_in}
use Rattle.evidence_check.specs.Evidence.{KeepsOthers}
use Rattle.evidence_check.specs.CaseCheck.{p_values_of, values_in, MeetsIn, AreStepsOf, case_check}
use Rattle.evidence_check.specs.declared.verdict.Reason.{Reason}
use Rattle.evidence_check.specs.declared.event.CheckEvent.TheVariants.{Broken}
use Rattle.evidence_check.specs.declared.evidence.Evidence.{Evidence}
use Rattle.evidence_check.specs.declared.evidence.Evidence.TheVariants.{Plain, Eps}
use Rattle.sequential.specs.Decisions.{IsDecision, hypotheses}
use Rattle.sequential.specs.declared.decision.Decision.{Decision}
use Rattle.sequential.specs.declared.priority.Priority.{Priority}
use Rattle.evidence.specs.FlowRun.{WideStep, WrittenEvidence, at_step, evidence_run}
use Rattle.evidence.specs.FlowStatements.{IsOpened}
use Rattle.std.specs.Prelude.{Ok}

-- a complete legal order of a case: each hypothesis is legal at its place, and none is legal after the last
pub record IsCompleteOrder (c : Content) (js : List ℕ) : Type 0 where
  pub legal : IsLegalOrder (entangled c) (number_at (p_values_of c.inputs)) (number_of c.alpha) whole js
  pub complete : IsComplete (entangled c) (number_at (p_values_of c.inputs)) (number_of c.alpha) whole js

-- the written flow run of a case in these numbers: the opening is step 0
unfoldable pub flows_in : Numbers → Content → List ℕ → Result WrittenEvidence WideStep
flows_in n c js = do
  b ← at_step 0 (opening_in n c)
  evidence_run (kind_of n) (graph_in n) (removal_in n) b js

-- The written flow run of a case along a list of hypotheses.
unfoldable pub case_flows : Content → List ℕ → Result WrittenEvidence WideStep
case_flows c = flows_in (numbers_of c) c

-- The nets of a case are as just opened.
abbrev pub AreOpened : CaseState → Type 0
AreOpened (state_of n b) = IsOpened (kind_of n) (graph_in n) (IsProperIn n) b

-- The written run of the nets of a case, as just opened, along a list of hypotheses.
abbrev pub flows_from : CaseState → List ℕ → Result WrittenEvidence WideStep
flows_from (state_of n b) js = evidence_run (kind_of n) (graph_in n) (removal_in n) b js

-- whether evidence is in fractions
abbrev pub has_fractions : Evidence → Bool
has_fractions (Plain v) = true
has_fractions (Eps v) = false

-- The decision on a case lists a complete legal order of it, whatever the priority.
abbrev pub DecisionsAreCompleteOrders : Type 0
DecisionsAreCompleteOrders =
    (c : Content) (priority : Priority) (d : Decision) → IsValidContent c → IsDecision c priority d → IsCompleteOrder c (hypotheses d.steps)

-- The flow run of a case along a complete legal order gives evidence that meets the conditions.
abbrev pub CaseFlowsMeetConditions : Type 0
CaseFlowsMeetConditions =
    (c : Content) (js : List ℕ) (v : WrittenEvidence) → IsValidContent c → IsCompleteOrder c js → case_flows c js ≡ Ok v
    → MeetsIn c v.steps v.keeps

-- This evidence lists the hypotheses of the order.
abbrev pub CaseFlowsListOrders : Type 0
CaseFlowsListOrders =
    (c : Content) (js : List ℕ) (v : WrittenEvidence) → IsValidContent c → IsCompleteOrder c js → case_flows c js ≡ Ok v
    → map (λ s. s.hypothesis) v.steps ≡ js

-- This evidence has keeps for all others.
abbrev pub CaseFlowsKeepOthers : Type 0
CaseFlowsKeepOthers =
    (c : Content) (js : List ℕ) (v : WrittenEvidence) → IsValidContent c → IsCompleteOrder c js → case_flows c js ≡ Ok v
    → KeepsOthers (length c.names) (values_in c v.steps v.keeps)

-- The hypotheses of this evidence are those of the case, and its numbers are stored as those of the case.
abbrev pub CaseFlowsAreOfTheCase : Type 0
CaseFlowsAreOfTheCase =
    (c : Content) (js : List ℕ) (v : WrittenEvidence) → IsValidContent c → IsCompleteOrder c js → case_flows c js ≡ Ok v
    → AreStepsOf c v.steps v.keeps

-- The check of a case never finds a broken condition in this evidence.
abbrev pub CaseFlowsAreNotRefused : Type 0
CaseFlowsAreNotRefused =
    (c : Content) (js : List ℕ) (v : WrittenEvidence) (n : ℕ) (reason : Reason) → IsValidContent c → IsCompleteOrder c js → case_flows c js ≡ Ok v
    → ¬ (case_check c v.steps v.keeps ≡ Err (record { number = n; event = Broken reason }))
