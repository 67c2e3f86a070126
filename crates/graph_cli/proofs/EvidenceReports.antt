-- What `evidence` prints is evidence that `check` says yes to, and lists what the closed test rejects.
use Rattle.std.proofs.Common.{◌≡◌, ap, subst, ◌∙◌, ℕ, List, Ok}
use Rattle.answers.specs.declared.answer.Answer.{Answer}
use Rattle.case_model.specs.Content.{Content}
use Rattle.case_model.specs.Validity.{IsValidContent}
use Rattle.case_model.proofs.SingleInputs.{for_single}
use Rattle.command_words.specs.declared.command.CaseTask.TheVariants.{Evidence as EvidenceTask}
use Rattle.evidence_check.specs.declared.evidence.Evidence.{Evidence}
use Rattle.evidence_check.specs.declared.verdict.Verdict.TheVariants.{Yes}
use Rattle.evidence_check.specs.CaseCheck.{IsSingle, case_check, verdict_of}
use Rattle.evidence_check.specs.EvidenceView.{steps_of, keeps_of}
use Rattle.evidence_check.proofs.CaseChecked.{case_decides}
use Rattle.evidence_check.proofs.CheckAnswers.{yes_is, of_case, evidence_stored, keeps_others}
use Rattle.evidence.proofs.EvidenceSaid.{said}
use Rattle.evidence.proofs.MakeAnswers.{decision_order}
use Rattle.sequential.specs.declared.decision.Decision.{Decision}
use Rattle.sequential.specs.declared.priority.Priority.{Priority}
use Rattle.sequential.specs.Decisions.{IsDecisionWith, IsDecision}
use Rattle.graph_cli.specs.Check.{Said, said_of}
use Rattle.graph_cli.specs.Commands.{on_case as answers_on_case}
use Rattle.graph_cli.specs.Evidence.{IsFlowRun, text_said, evidence_stage}
use Rattle.graph_cli.specs.Laws.{PrintsEvidence, EvidenceIsOfTheClosedTest}
use Rattle.graph_cli.proofs.CheckedOrders.{checked_order}
use Rattle.graph_cli.proofs.ClosedReports.{reports_case}
use Rattle.graph_cli.proofs.FlowEvidence.{flown_evidence}

-- there is a decision where there are single p-values
single_inputs : (c : Content) (priority : Priority) (d : Decision) → IsDecision c priority d → IsSingle c.inputs
single_inputs c priority d h = for_single (λ ps. IsDecisionWith c ps priority d) IsSingle (λ ps D. tt) c.inputs h

printed : (c : Content) (v : Evidence) (decision : Decision) (text : List ℕ) → IsValidContent c → IsSingle c.inputs → IsFlowRun c decision v
    → verdict_of (case_check c (steps_of v) (keeps_of v)) ≡ Ok Yes → text ≡ text_said c (said_of v) → PrintsEvidence c text
printed c v decision text V single f holds e = record {
  evidence = v;
  fits = f.fits;
  says = said c v text e V f.fits;
  version = f.version;
  holds = holds;
  legal = checked_order c V single (steps_of v) (keeps_of v) (evidence_stored c v (of_case c v f.fits)) (yes_is _ holds);
  named = λ j. case_decides c V single (steps_of v) (keeps_of v) (evidence_stored c v (of_case c v f.fits)) (yes_is _ holds) (keeps_others c (steps_of v) (keeps_of v) (f.fits.all f.version)) j;
  keeps = f.fits.all f.version;
}

evidence_prints : (priority : Priority) (a : Answer) (c : Content) → IsValidContent c → (answers_on_case (EvidenceTask priority) c).Gives a
    → PrintsEvidence c a.text
unfolding answers_on_case evidence_stage
evidence_prints priority a c V h =
    -- the decision, the flow run and the check that the answer comes from
    let decision = h.0 in
    let flown = flown_evidence c V decision (decision_order c priority decision V h.1.1) h.2.0 h.2.1 in
    let said_is = flown.2 in
    let text = h.2.2.0 in
    let confirmed = h.2.2.1 in
    printed c flown.0 decision a.text V (single_inputs c priority decision h.1.1) flown.1
    (subst (λ (s : Said). verdict_of (case_check c s.steps s.keeps) ≡ Ok Yes) said_is confirmed.0)
    (ap (λ (x : Answer). x.text) h.2.2.2 ∙ confirmed.1 ∙ ap (text_said c) said_is)

pub evidence_closed_test : EvidenceIsOfTheClosedTest
evidence_closed_test words format priority case proof a asks h z =
    reports_case PrintsEvidence words format (EvidenceTask priority) case proof a (evidence_prints priority a) asks h z
