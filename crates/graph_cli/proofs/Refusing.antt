-- The faults of the calls that commands make, as what the commands refuse.
use Rattle.std.proofs.Common.{ℕ, List, Err, inl, inr, refl}
use Rattle.case_model.specs.Content.{Content}
use Rattle.closed_test.specs.SetWeights.{AreIntersectionWeights}
use Rattle.field_core.proofs.Results.{handed}
use Rattle.field_core.specs.declared.ratio.Ratio.{Ratio}
use Rattle.graph_cli.specs.Simes.{IsWideSimesSet}
use Rattle.evidence_check.specs.declared.fault.ProofText.{ProofText}
use Rattle.evidence_check.specs.declared.fault.ProofText.TheVariants as texts
use Rattle.evidence_check.proofs.DocumentLaws.{IsReading, evidence_refused}
use Rattle.evidence.specs.CaseFlows.{case_flows}
use Rattle.evidence.specs.Made.{MakesAll, written_evidence}
use Rattle.sequential.specs.Decisions.{hypotheses}
use Rattle.sequential.specs.declared.decision.Decision.{Decision}
use Rattle.sequential.specs.declared.fault.RunFault.{RunFault}
use Rattle.sequential.specs.declared.fault.RunFault.TheVariants as runs
use Rattle.staged_levels.specs.Looks.{IsLooksFault}
use Rattle.staged_levels.specs.declared.case_looks.LooksFault.{LooksFault}
use Rattle.staged_levels.specs.declared.case_looks.LooksFault.TheVariants as looks
use Rattle.graph_cli.specs.Check.{evidence_in}
use Rattle.graph_cli.specs.Evidence.{flown}
use Rattle.graph_cli.specs.Stages.{looked}
use Rattle.graph_cli.specs.Troubles.{IfRefused, of_run, of_simes, of_looks, of_text}
use Rattle.graph_cli.specs.declared.no_answer.Run.TheVariants.{Flows}
use Rattle.simes_test.specs.SimesFaults.{IsSimesFault}
use Rattle.simes_test.specs.declared.fault.SimesFault.{SimesFault}
use Rattle.simes_test.specs.declared.fault.SimesFault.TheVariants as simes

pub sums_refuse : (c : Content) (weight : ℕ → ℕ → Ratio) (f : SimesFault) → AreIntersectionWeights c weight → IsSimesFault c weight f
    → IfRefused (of_simes f) (IsWideSimesSet c)
sums_refuse c weight (simes.Wide n w) are h = (weight, are, n, w, h, refl)
sums_refuse c weight simes.NoMemory are h = tt

pub looks_refuse : (c : Content) (f : LooksFault) → IsLooksFault c f → IfRefused (of_looks f) (looked c).Refuses
looks_refuse c (looks.Opening w) h = inl (w, h, refl)
looks_refuse c (looks.Arriving n w) h = inr (n, w, h, refl)
looks_refuse c looks.NoMemory h = tt

pub flows_refuse : (c : Content) (d : Decision) (f : RunFault) → MakesAll written_evidence (Err f) (case_flows c (hypotheses d.steps))
    → IfRefused (of_run Flows f) (flown c d).Refuses
flows_refuse c d (runs.Wide n w) h = (record { step = n; at = w }, handed _ _ _ h, refl)
flows_refuse c d runs.NoMemory h = tt

pub text_refuses : (c : Content) (bytes : List ℕ) (f : ProofText) → IsReading c bytes (Err f) → IfRefused (of_text f) (evidence_in c bytes).Refuses
text_refuses c bytes (texts.Line n kind) h = (record { line = n; kind = kind }, evidence_refused c bytes n kind h, refl)
text_refuses c bytes texts.NoMemory h = tt
