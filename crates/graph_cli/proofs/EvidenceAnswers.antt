-- `evidence` has at most one outcome on a case, and the check of what it makes finds no broken condition.
use Rattle.std.proofs.Common.{◌≡◌, sym, ◌∙◌, ℕ, Ok}
use Rattle.answers.specs.Stages.{IsDecided}
use Rattle.answers.proofs.Decided.{stage_decided, by_decided, then_decided, told_as_decided, only_decided}
use Rattle.fraction.specs.View.{number_of}
use Rattle.case_model.specs.Content.{Content}
use Rattle.case_model.specs.Sums.{number_at}
use Rattle.case_model.specs.Validity.{IsValidContent}
use Rattle.case_numbers.specs.Numbers.{numbers_of}
use Rattle.case_numbers.proofs.Components.{can_run}
use Rattle.evidence_check.specs.declared.evidence.Evidence.{Evidence}
use Rattle.evidence_check.specs.declared.verdict.Reason.{Reason}
use Rattle.evidence_check.specs.declared.verdict.Verdict.TheVariants.{No}
use Rattle.evidence_check.specs.EvidenceView.{steps_of, keeps_of}
use Rattle.evidence_check.specs.CaseCheck.{p_values_of, case_check, verdict_of}
use Rattle.evidence_check.proofs.CaseChecked.{case_fair}
use Rattle.evidence_check.proofs.CheckAnswers.{no_is, of_case, evidence_stored}
use Rattle.evidence.specs.CaseFlows.{IsCompleteOrder, case_flows}
use Rattle.evidence.proofs.CaseEvidence.{flows_meet}
use Rattle.sequential.specs.declared.decision.Decision.{Decision}
use Rattle.sequential.specs.declared.priority.Priority.{Priority}
use Rattle.sequential.specs.Decisions.{hypotheses}
use Rattle.graph_cli.specs.Check.{undefined_check}
use Rattle.graph_cli.specs.Evidence.{IsFlowRun, flown, confirmed, evidence_stage}
use Rattle.graph_cli.proofs.TestAnswers.{decision_decided}

-- ---- one outcome

pub evidence_decided : (priority : Priority) (c : Content) → IsDecided (evidence_stage priority c)
unfolding evidence_stage
evidence_decided priority c =
    then_decided _ _ (decision_decided priority c) (λ decision. then_decided (flown c decision) _ (told_as_decided _ _ (stage_decided _))
    (λ said. then_decided (confirmed c said) _ (told_as_decided (undefined_check said) _ (by_decided _ _ _ (λ text again m n same. m ∙ sym n)))
    (λ text. only_decided _)))

-- ---- no broken condition

pub never_no : (c : Content) (decision : Decision) (v : Evidence) → IsValidContent c → IsCompleteOrder c (hypotheses decision.steps)
    → IsFlowRun c decision v → (n : ℕ) (reason : Reason) → verdict_of (case_check c (steps_of v) (keeps_of v)) ≡ Ok (No n reason) → ⊥
unfolding case_flows
never_no c decision v V o f n reason h =
    case_fair c V (steps_of v) (keeps_of v) (evidence_stored c v (of_case c v f.fits)) n reason (no_is _ n reason h)
    ((flows_meet c V (number_at (p_values_of c.inputs)) (number_of c.alpha) (hypotheses decision.steps) o.legal (numbers_of c)
    (can_run c) o.complete _ f.run).0)
