-- Reading as contracts of the reader see it.
use Rattle.std.specs.Prelude.{◌≡◌, ◌<◌, ℕ, List, [], map, length, get_or, Result}
use Rattle.field_core.specs.Answers.{IsUnless, told_as}
use Rattle.field_core.specs.Kind.{Parts, ok_map}
use Rattle.text_lines.specs.Faults.{FaultAt}
use Rattle.text_lines.specs.Forms.{words_seen, leaving, read}
use Rattle.text_lines.specs.Left.{Left}
use Rattle.case_model.specs.Names.{position_of}
use Rattle.case_model.specs.Content.{Content}
use Rattle.case_numbers.specs.Numbers.{Numbers}
use Rattle.evidence_check.specs.declared.fault.ProofKind.{ProofKind}
use Rattle.evidence_check.specs.declared.fault.ProofText.{ProofText}
use Rattle.evidence_check.specs.declared.fault.ProofText.TheVariants as faults
use Rattle.evidence_check.specs.Evidence.{others}
use Rattle.evidence_check.specs.DocumentLines.{Frame, kinds}
use Rattle.evidence_check.specs.declared.evidence.Steps.{Steps}
use Rattle.evidence_check.specs.Document.{Said, Lines}
use Rattle.evidence_check.specs.EvidenceView.{step_parts, keep_parts}
use Rattle.evidence_check.specs.NumberReading.{number_in_text}

-- the frame has the names, the components and the numbers of the case `c`, in the numbers `n`
pub record IsFrameFor (n : Numbers) (c : Content) (T : Frame) : Type 0 where
  pub name : (j : ℕ) → j < length c.names → T.name j ≡ get_or c.names j []
  pub position : (name : List ℕ) → T.position name ≡ position_of name c.names
  pub components : T.components ≡ length c.components
  pub others_are : (js : List ℕ) → T.others js ≡ others (length c.names) js
  pub numbers : (text : List ℕ) → T.number text ≡ number_in_text n text

-- the fault of a line
abbrev pub proof_fault : FaultAt ProofKind → ProofText
proof_fault fault = faults.Line fault.line fault.kind

-- The answer is what the form reads of the lines that were left, seen through `view`, and then these lines are left. Or it is the first fault, or the
-- call is out of memory.
abbrev pub Reads : {A B : Type 0} → Lines B → (A → B) → Left → Result A ProofText → Left → Type 0
Reads form view old result new =
    IsUnless faults.NoMemory (ok_map (λ x. leaving (words_seen new.rows) (view x)) result) (told_as proof_fault (read kinds form (words_seen old.rows) old.end))

-- evidence in some numbers, as a document says it
abbrev pub said_in : {F : Type 0} → (F → Parts) → Steps F → Said
said_in parts v = record { version = v.version; steps = map (step_parts parts) v.steps; keeps = map (keep_parts parts) v.keeps }
