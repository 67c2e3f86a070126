-- What `check` answers.
use Rattle.std.specs.Prelude.{ℕ, List, map}
use Rattle.answers.specs.declared.answer.Answer.{Answer}
use Rattle.answers.specs.declared.status.Status.TheVariants as statuses
use Rattle.answers.specs.Lines.{done}
use Rattle.answers.specs.Stages.{Stage, stage_of, and_then, told_as, only}
use Rattle.case_model.specs.Content.{Content}
use Rattle.text_lines.specs.Faults.{FaultAt}
use Rattle.evidence_check.specs.declared.fault.ProofKind.{ProofKind}
use Rattle.evidence_check.specs.declared.verdict.CheckWide.{CheckWide}
use Rattle.evidence_check.specs.declared.verdict.Verdict.{Verdict}
use Rattle.evidence_check.specs.declared.verdict.Verdict.TheVariants.{Yes, No}
use Rattle.evidence_check.specs.CaseCheck.{case_check, verdict_of}
pub use Rattle.evidence_check.specs.Document.{Said}
pub use Rattle.evidence_check.specs.DocumentStatements.{said_of}
use Rattle.evidence_check.specs.DocumentStatements.{case_reading}
use Rattle.refusals.specs.ProofRefusal.{part_at, no_line}
use Rattle.refusals.specs.declared.wide.When.TheVariants.{Check}
use Rattle.report.specs.CheckReport.{check_report}
use Rattle.graph_cli.specs.declared.trouble.Trouble.{Trouble}
use Rattle.graph_cli.specs.declared.trouble.Trouble.TheVariants as troubles

-- the hypotheses of the steps, in their order
abbrev pub listed_in : Said → List ℕ
listed_in said = map (λ s. s.hypothesis) said.steps

-- the hypotheses that are retained, in their order
abbrev pub kept_in : Said → List ℕ
kept_in said = map (λ x. x.hypothesis) said.keeps

-- the evidence that a text denotes for a case, or the first line that isn't allowed in it
abbrev pub evidence_in : Content → List ℕ → Stage Trouble Said
evidence_in c bytes = told_as (λ (f : FaultAt ProofKind). troubles.Proof f.line f.kind) (stage_of (case_reading c bytes))

-- an operation of the check of evidence is undefined
abbrev pub undefined_check : Said → CheckWide → Trouble
undefined_check said wide = troubles.Wide (Check (part_at (listed_in said) (kept_in said) wide.step)) wide.at

-- the verdict of the written check, or its first operation that is undefined
abbrev pub checked : Content → Said → Stage Trouble Verdict
checked c said = told_as (undefined_check said) (stage_of (verdict_of (case_check c said.steps said.keeps)))

-- the answer to a verdict; that to a no names the first broken condition, and its status is another
abbrev pub answer_to : Content → Said → Verdict → Answer
answer_to c said Yes = done (check_report c said.version (listed_in said) (kept_in said))
answer_to c said (No n reason) = record { status = statuses.No; text = no_line c.names (listed_in said) (kept_in said) n reason }

-- the evidence, the verdict on it, and the answer to this verdict
unfoldable pub check_stage : Content → List ℕ → Stage Trouble Answer
check_stage c bytes = and_then (evidence_in c bytes) (λ said. and_then (checked c said) (λ verdict. only (answer_to c said verdict)))
