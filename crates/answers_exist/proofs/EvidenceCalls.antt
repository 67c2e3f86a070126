-- The calls that make and check evidence end.
use Rattle.std.proofs.Common.{◌≡◌, refl, sym, subst, ℕ, List, Ok}
use Rattle.field_core.specs.declared.ratio.Ratio.{Ratio}
use Rattle.answers.specs.Lines.{done}
use Rattle.answers.specs.Stages.{Ends}
use Rattle.answers.proofs.Decided.{stage_ends, by_ends}
use Rattle.case_model.specs.declared.inputs.Inputs.TheVariants.{Single}
use Rattle.case_model.specs.Content.{Content}
use Rattle.case_model.specs.Validity.{IsValidContent}
use Rattle.evidence_check.specs.CaseCheck.{case_check, verdict_of}
use Rattle.evidence_check.specs.DocumentStatements.{case_reading}
use Rattle.evidence_check.specs.EvidenceView.{steps_of, keeps_of}
use Rattle.evidence_check.specs.declared.evidence.Evidence.{Evidence}
use Rattle.evidence_check.specs.declared.verdict.Verdict.{Verdict}
use Rattle.evidence_check.specs.declared.verdict.Verdict.TheVariants.{Yes, No}
use Rattle.evidence.specs.CaseFlows.{IsCompleteOrder}
use Rattle.evidence.proofs.MakeAnswers.{decision_order}
use Rattle.sequential.specs.Decisions.{hypotheses}
use Rattle.sequential.specs.declared.decision.Decision.{Decision}
use Rattle.sequential.specs.declared.priority.Priority.{Priority}
use Rattle.graph_cli.specs.Check.{Said, said_of, evidence_in, undefined_check, checked, answer_to, check_stage}
use Rattle.graph_cli.specs.Evidence.{IsFlowRun, flown, text_said, confirmed, evidence_stage}
use Rattle.graph_cli.specs.Test.{decided}
use Rattle.graph_cli.proofs.EvidenceAnswers.{never_no}
use Rattle.graph_cli.proofs.FlowEvidence.{flown_evidence}
use Rattle.answers_exist.proofs.DecidedCalls.{decided_ends}
use Rattle.answers_exist.proofs.Ends.{then_ends, told_ends, only_ends}

-- ---- checking

pub check_ends : (c : Content) (bytes : List ℕ) → Ends (check_stage c bytes)
unfolding check_stage
check_ends c bytes =
    then_ends (evidence_in c bytes) _ (told_ends _ _ (stage_ends (case_reading c bytes)))
    (λ said g. then_ends (checked c said) _ (told_ends (undefined_check said) _ (stage_ends _)) (λ verdict h. only_ends (answer_to c said verdict)))

-- ---- making

module _ (c : Content) (V : IsValidContent c) (d : Decision) (o : IsCompleteOrder c (hypotheses d.steps)) where
  -- the verdict on what was made is yes, if it is defined
  says_yes : (v : Evidence) → IsFlowRun c d v → (verdict : Verdict) → verdict_of (case_check c (steps_of v) (keeps_of v)) ≡ Ok verdict → Yes ≡ verdict
  says_yes v f Yes h = refl
  says_yes v f (No n reason) h = absurd (never_no c d v V o f n reason h)

  confirmed_ends : (said : Said) → (flown c d).Gives said → Ends (confirmed c said)
  confirmed_ends said g =
      let v = flown_evidence c V d o said g in
      subst (λ s. Ends (confirmed c s)) (sym v.2) (told_ends (undefined_check (said_of v.0)) _
      (by_ends (λ text. Yes) _ _ (λ verdict h. (text_said c (said_of v.0), says_yes v.0 v.1 verdict h, refl))))

pub evidence_ends : (c : Content) → IsValidContent c → (ps : List Ratio) → c.inputs ≡ Single ps → (priority : Priority) → Ends (evidence_stage priority c)
unfolding evidence_stage
evidence_ends c V ps e priority =
    then_ends (decided priority c) _ (decided_ends c V ps e priority)
    (λ d D. let o = decision_order c priority d V D.1 in
    then_ends (flown c d) _ (told_ends _ _ (stage_ends _)) (λ said g. then_ends (confirmed c said) _ (confirmed_ends c V d o said g) (λ text h. only_ends (done text))))
