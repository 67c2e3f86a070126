-- Laws of the answers, as the definition of the outcome gives them.
use Rattle.std.specs.Prelude.{◌≡◌, ◌↔◌, ℕ, true, List, map, length, Option, Some, None, Ok}
use Rattle.field_core.specs.Sets.{whole}
use Rattle.fraction.specs.View.{number_of}
use Rattle.answers.specs.declared.answer.Answer.{Answer}
use Rattle.answers.specs.declared.status.Status.TheVariants.{Done}
use Rattle.answers.specs.Stages.{IsAnswerOf}
use Rattle.case_model.specs.CaseFaults.{case_fault}
use Rattle.case_model.specs.Content.{Content, ForSingle, content_of, entangled, IsRejectedIn}
use Rattle.case_model.specs.declared.draft.Draft.{Draft}
use Rattle.case_model.specs.LegalOrder.{IsListed, IsLegalOrder, IsComplete}
use Rattle.case_model.specs.Sums.{number_at}
use Rattle.catalogue.specs.Makings.{sample_case}
use Rattle.command_words.specs.Asked.{Encoding, on_case, check, sample}
use Rattle.command_words.specs.declared.command.CaseTask.TheVariants.{Test, Stages, Evidence as EvidenceTask}
use Rattle.case_model.specs.StagedCase.{IsStagedRejectedIn}
use Rattle.report.specs.StagesReport.{is_settled, stages_report}
use Rattle.report.specs.SampleReport.{sample_report}
use Rattle.report.specs.TestReport.{is_rejected, test_report}
use Rattle.report.specs.CheckReport.{check_report}
use Rattle.staged_levels.specs.declared.event.Settled.{Settled}
use Rattle.staged_levels.specs.Looks.{arrivals_of, AreLooks}
use Rattle.evidence_check.specs.declared.evidence.Evidence.{Evidence}
use Rattle.evidence_check.specs.Evidence.{others}
use Rattle.evidence_check.specs.EvidenceParts.{StepParts, KeepParts}
use Rattle.evidence_check.specs.DocumentStatements.{SaysEvidence}
use Rattle.evidence_check.specs.EvidenceView.{version_of, steps_of, keeps_of, IsEvidenceFor}
use Rattle.evidence_check.specs.CaseCheck.{case_check, verdict_of}
use Rattle.evidence_check.specs.declared.verdict.Verdict.TheVariants.{Yes}
use Rattle.adjusted_p.specs.declared.adjusted.Adjusted.{Adjusted}
use Rattle.adjusted_p.specs.AdjustedLists.{AreAdjusted}
use Rattle.sequential.specs.declared.decision.Decision.{Decision}
use Rattle.sequential.specs.declared.priority.Priority.{Priority}
use Rattle.sequential.specs.declared.priority.Priority.TheVariants.{First}
use Rattle.sequential.specs.Decisions.{hypotheses, IsDecision}
use Rattle.graph_cli.specs.Accepted.{grammar}
use Rattle.graph_cli.specs.Outcome.{AskFor, outcome}

-- for words, the bytes of a case and those of a proof there is at most one answer
abbrev pub HasOneAnswer : Type 0
HasOneAnswer = (words : List (List ℕ)) (case proof : List ℕ) (a b : Answer) → IsAnswerOf (outcome words (Some case) (Some proof)) a
    → IsAnswerOf (outcome words (Some case) (Some proof)) b → a ≡ b

-- by the p-values of a case, each hypothesis of a list is legal in the set that remains after the earlier ones
abbrev pub IsLegalOrderIn : Content → List ℕ → Type 0
IsLegalOrderIn c js = ForSingle c.inputs (λ ps. IsLegalOrder (entangled c) (number_at ps) (number_of c.alpha) whole js)

-- by the p-values of a case, no hypothesis is legal in the set that remains after a list
abbrev pub IsCompleteIn : Content → List ℕ → Type 0
IsCompleteIn c js = ForSingle c.inputs (λ ps. IsComplete (entangled c) (number_at ps) (number_of c.alpha) whole js)

-- The decision is that of a priority on a case, with the weights of its hypotheses. Its steps are a legal order, after which no hypothesis is legal.
-- They are of exactly the hypotheses that the closed test rejects.
pub record DecidesByTheClosedTest (priority : Priority) (c : Content) (decision : Decision) : Type 0 where
  pub decides : IsDecision c priority decision
  pub legal : IsLegalOrderIn c (hypotheses decision.steps)
  pub complete : IsCompleteIn c (hypotheses decision.steps)
  pub named : (j : ℕ) → (is_rejected decision.steps j ≡ true) ↔ IsRejectedIn c j

-- The text is the report of the decision of a priority, with the adjusted values, which are the least levels at which the closed test rejects the
-- hypotheses. Its line `rejected` names exactly the hypotheses that the closed test rejects.
pub record ReportsClosedTest (priority : Priority) (c : Content) (text : List ℕ) : Type 0 where
  pub decision : Decision
  pub adjusted : List Adjusted
  pub text_is : text ≡ test_report c decision adjusted
  pub decided : DecidesByTheClosedTest priority c decision
  pub values : AreAdjusted c adjusted

-- The text is the report of the case of a sample and of the decision that takes the first legal hypothesis each time. Its line `rejected` names exactly
-- the hypotheses that the closed test rejects.
pub record ReportsSample (c : Content) (seed : ℕ) (text : List ℕ) : Type 0 where
  pub decision : Decision
  pub text_is : text ≡ sample_report c seed decision
  pub decided : DecidesByTheClosedTest First c decision

-- the text is the report of the looks at a case, whose line `rejected` names exactly the hypotheses that the staged closed test
-- rejects on the p-values that arrived
pub record ReportsStagedTest (c : Content) (text : List ℕ) : Type 0 where
  pub looks : List (List Settled)
  pub text_is : text ≡ stages_report c looks
  pub are_looks : AreLooks c looks
  pub named : (j : ℕ) → (is_settled looks j ≡ true) ↔ IsStagedRejectedIn c (arrivals_of c.inputs) j

-- the bytes denote, in a format, a draft without a fault, and the text reports its case in the sense of `Reports`
pub record ReportsCase (Reports : Content → List ℕ → Type 0) (format : Encoding) (bytes text : List ℕ) : Type 0 where
  pub draft : Draft
  pub says : (grammar format bytes).Gives draft
  pub faultless : case_fault draft ≡ None
  pub reports : Reports (content_of draft) text

-- an answer with status 0 to words that request `test`, by any priority, reports the closed test on the case
abbrev pub ReportsAreOfTheClosedTest : Type 0
ReportsAreOfTheClosedTest = (words : List (List ℕ)) (format : Encoding) (priority : Priority) (case : List ℕ) (proof : Option (List ℕ)) (a : Answer)
    → AskFor words (on_case format (Test priority)) → IsAnswerOf (outcome words (Some case) proof) a → a.status ≡ Done
    → ReportsCase (ReportsClosedTest priority) format case a.text

-- an answer with status 0 to words that request `sample` reports the closed test on the sampled case
abbrev pub SamplesAreOfTheClosedTest : Type 0
SamplesAreOfTheClosedTest = (words : List (List ℕ)) (size seed : ℕ) (case proof : Option (List ℕ)) (a : Answer)
    → AskFor words (sample size seed) → IsAnswerOf (outcome words case proof) a → a.status ≡ Done
    → (c : Content) × (sample_case size seed ≡ Ok c) × ReportsSample c seed a.text

-- an answer with status 0 to words that request `stages` reports the staged closed test on the case
abbrev pub ReportsAreOfTheStagedTest : Type 0
ReportsAreOfTheStagedTest = (words : List (List ℕ)) (format : Encoding) (case : List ℕ) (proof : Option (List ℕ)) (a : Answer)
    → AskFor words (on_case format Stages) → IsAnswerOf (outcome words (Some case) proof) a → a.status ≡ Done
    → ReportsCase ReportsStagedTest format case a.text

-- the hypotheses of steps and of keeps, in their order
abbrev pub stepped : List StepParts → List ℕ
stepped steps = map (λ s. s.hypothesis) steps

abbrev pub retained : List KeepParts → List ℕ
retained keeps = map (λ x. x.hypothesis) keeps

-- The text is that of evidence of version 2 for a case, on which the verdict of the check is yes. Its steps are a legal order of exactly the hypotheses
-- that the closed test rejects, and it keeps exactly the others.
pub record PrintsEvidence (c : Content) (text : List ℕ) : Type 0 where
  pub evidence : Evidence
  pub fits : IsEvidenceFor c evidence
  pub says : SaysEvidence c text evidence
  pub version : version_of evidence ≡ 2
  pub holds : verdict_of (case_check c (steps_of evidence) (keeps_of evidence)) ≡ Ok Yes
  pub legal : IsLegalOrderIn c (stepped (steps_of evidence))
  pub named : (j : ℕ) → IsListed (stepped (steps_of evidence)) j ↔ IsRejectedIn c j
  pub keeps : retained (keeps_of evidence) ≡ others (length c.names) (stepped (steps_of evidence))

-- an answer with status 0 to words that request `evidence`, by any priority, is such evidence for the case
abbrev pub EvidenceIsOfTheClosedTest : Type 0
EvidenceIsOfTheClosedTest = (words : List (List ℕ)) (format : Encoding) (priority : Priority) (case : List ℕ) (proof : Option (List ℕ)) (a : Answer)
    → AskFor words (on_case format (EvidenceTask priority)) → IsAnswerOf (outcome words (Some case) proof) a → a.status ≡ Done
    → ReportsCase PrintsEvidence format case a.text

-- The text is the report of the evidence that a proof denotes for a case, on which the verdict of the check is yes. Its steps are a legal order of
-- hypotheses that the closed test rejects. In version 2 they are all that it rejects, and the evidence keeps exactly the others.
pub record ReportsEvidence (c : Content) (proof text : List ℕ) : Type 0 where
  pub evidence : Evidence
  pub fits : IsEvidenceFor c evidence
  pub says : SaysEvidence c proof evidence
  pub holds : verdict_of (case_check c (steps_of evidence) (keeps_of evidence)) ≡ Ok Yes
  pub text_is : text ≡ check_report c (version_of evidence) (stepped (steps_of evidence)) (retained (keeps_of evidence))
  pub legal : IsLegalOrderIn c (stepped (steps_of evidence))
  pub rejected : (j : ℕ) → IsListed (stepped (steps_of evidence)) j → IsRejectedIn c j
  pub all : version_of evidence ≡ 2 → (j : ℕ) → IsListed (stepped (steps_of evidence)) j ↔ IsRejectedIn c j
  pub keeps : version_of evidence ≡ 2 → retained (keeps_of evidence) ≡ others (length c.names) (stepped (steps_of evidence))

-- an answer with status 0 to words that request `check` lists only hypotheses that the closed test rejects, and in version 2 all of them
abbrev pub ChecksAreOfTheClosedTest : Type 0
ChecksAreOfTheClosedTest = (words : List (List ℕ)) (format : Encoding) (file : ℕ) (case proof : List ℕ) (a : Answer)
    → AskFor words (check format file) → IsAnswerOf (outcome words (Some case) (Some proof)) a → a.status ≡ Done
    → ReportsCase (λ c. ReportsEvidence c proof) format case a.text
