-- What `evidence` answers.
use Rattle.std.specs.Prelude.{◌≡◌, ℕ, List, Ok}
use Rattle.answers.specs.declared.answer.Answer.{Answer}
use Rattle.answers.specs.Lines.{done}
use Rattle.answers.specs.Stages.{Stage, stage_of, by, and_then, told_as, only}
use Rattle.field_core.specs.Answers.{mapped}
use Rattle.text_lines.specs.Spelling.{text_of}
use Rattle.case_model.specs.Content.{Content}
use Rattle.case_numbers.specs.Numbers.{numbers_of}
use Rattle.evidence_check.specs.declared.evidence.Evidence.{Evidence}
use Rattle.evidence_check.specs.declared.verdict.Verdict.TheVariants.{Yes}
use Rattle.evidence_check.specs.EvidenceView.{version_of, steps_of, keeps_of, IsEvidenceFor}
use Rattle.evidence_check.specs.CaseCheck.{case_check, verdict_of}
use Rattle.evidence_check.specs.EvidenceLines.{evidence_lines}
use Rattle.evidence_check.specs.NumberReading.{case_frame}
use Rattle.evidence.specs.CaseFlows.{case_flows}
use Rattle.evidence.specs.FlowRun.{WideStep, WrittenEvidence}
use Rattle.refusals.specs.declared.wide.When.TheVariants.{EvidenceStep}
use Rattle.sequential.specs.declared.decision.Decision.{Decision}
use Rattle.sequential.specs.declared.priority.Priority.{Priority}
use Rattle.sequential.specs.Decisions.{hypotheses}
use Rattle.graph_cli.specs.Check.{Said, undefined_check}
use Rattle.graph_cli.specs.Test.{decided}
use Rattle.graph_cli.specs.declared.trouble.Trouble.{Trouble}
use Rattle.graph_cli.specs.declared.trouble.Trouble.TheVariants as troubles

-- evidence of version 2, with the steps and keeps of the written flow run along the steps of a decision
pub record IsFlowRun (c : Content) (decision : Decision) (v : Evidence) : Type 0 where
  pub fits : IsEvidenceFor c v
  pub version : version_of v ≡ 2
  pub run : case_flows c (hypotheses decision.steps) ≡ Ok (record { steps = steps_of v; keeps = keeps_of v })

-- the evidence of a flow run, as a document says it: of version 2, which keeps all that isn't rejected
abbrev pub said_in_full : WrittenEvidence → Said
said_in_full v = record { version = 2; steps = v.steps; keeps = v.keeps }

-- the evidence of the flow run; or the first operation of this run that is undefined
abbrev pub flown : Content → Decision → Stage Trouble Said
flown c decision = told_as (λ (wide : WideStep). troubles.Wide (EvidenceStep wide.step) wide.at)
    (stage_of (mapped said_in_full (case_flows c (hypotheses decision.steps))))

-- the text of evidence
abbrev pub text_said : Content → Said → List ℕ
text_said c said = text_of (evidence_lines (case_frame (numbers_of c) c) said.version said.steps said.keeps)

-- the text of evidence, if the verdict of the written check on it is yes; or the first operation of the check that is undefined
abbrev pub confirmed : Content → Said → Stage Trouble (List ℕ)
confirmed c said = told_as (undefined_check said) (by (λ text. Yes) (verdict_of (case_check c said.steps said.keeps)) (λ text. text ≡ text_said c said))

-- the decision, then the flow run along its steps, and the check of the evidence that it gives
unfoldable pub evidence_stage : Priority → Content → Stage Trouble Answer
evidence_stage priority c =
    and_then (decided priority c) (λ decision. and_then (flown c decision) (λ said. and_then (confirmed c said) (λ text. only (done text))))
