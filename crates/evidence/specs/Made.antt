-- What the code returns for a written run of steps.
use Rattle.std.specs.Prelude.{◌≡◌, map, Result, Ok, Err}
use Rattle.sequential.specs.declared.fault.RunFault.{RunFault}
use Rattle.sequential.specs.declared.fault.RunFault.TheVariants.{Wide as MakeWide, NoMemory as MakeNoMemory}
use Rattle.field_core.specs.Kind.{Parts}
use Rattle.evidence_check.specs.declared.evidence.Steps.{Steps}
use Rattle.evidence_check.specs.declared.evidence.Evidence.{Evidence}
use Rattle.evidence_check.specs.EvidenceView.{step_parts, keep_parts, steps_of, keeps_of}
use Rattle.evidence.specs.FlowRun.{WideStep, WrittenEvidence}

-- What the code returns for a written run of steps. A value, seen through `view`, is that of the run, and a refusal as too wide is its first
-- undefined operation, with its step. When out of memory, nothing is claimed of the run.
abbrev pub MakesAll : {A B : Type 0} → (A → B) → Result A RunFault → Result B WideStep → Type 0
MakesAll view (Ok x) written = written ≡ Ok (view x)
MakesAll view (Err (MakeWide n w)) written = written ≡ Err (record { step = n; at = w })
MakesAll view (Err MakeNoMemory) written = Unit {0}

-- steps and keeps, with their numbers as they are stored
abbrev pub written_steps : {F : Type 0} → (F → Parts) → Steps F → WrittenEvidence
written_steps parts v = record { steps = map (step_parts parts) v.steps; keeps = map (keep_parts parts) v.keeps }

-- the steps and keeps of evidence, with their numbers as they are stored
abbrev pub written_evidence : Evidence → WrittenEvidence
written_evidence v = record { steps = steps_of v; keeps = keeps_of v }
