-- Documents of evidence: which line may be where, and what they say.
use Rattle.std.specs.Prelude.{ℕ, ◌==◌, if◌then◌else◌, List, [], map}
use Rattle.std.specs.List.{range_with_len}
use Rattle.field_core.specs.Kind.{Parts}
use Rattle.text_lines.specs.Forms.{Form, Say, Line, Then, Many}
use Rattle.text_lines.specs.Kinds.{each_of}
use Rattle.evidence_check.specs.declared.fault.ProofKind.{ProofKind}
use Rattle.evidence_check.specs.declared.quantity.Quantity.{Quantity}
use Rattle.evidence_check.specs.declared.quantity.Quantity.TheVariants.{Flow, Exit}
use Rattle.evidence_check.specs.EvidenceParts.{StepParts, KeepParts}
use Rattle.evidence_check.specs.DocumentLines.{Words, Frame, version_line, step_line, number_line, keep_line, end_line}

-- what a document says
pub record Said : Type 0 where
  pub version : ℕ
  pub steps : List StepParts
  pub keeps : List KeepParts

-- lines that say something of `A`
abbrev pub Lines : Type 0 → Type 1
Lines A = Form Words ProofKind A

-- a number of this component for each of these hypotheses
abbrev pub component_numbers : Frame → Quantity → List ℕ → ℕ → Lines (List Parts)
component_numbers F q js c = each_of (λ j. Line (number_line F q c j)) js

-- for each component, a number for each of these hypotheses
abbrev pub numbers : Frame → Quantity → List ℕ → Lines (List (List Parts))
numbers F q js = each_of (component_numbers F q js) (range_with_len 0 F.components)

-- the hypotheses of steps
abbrev pub named : List StepParts → List ℕ
named ss = map (λ s. s.hypothesis) ss

-- what follows the line of a step: a flow through the hypothesis of each earlier step
abbrev pub step : Frame → List StepParts → ℕ → Lines StepParts
step F earlier j = Then (numbers F Flow (named earlier)) (λ flows. Say (record { hypothesis = j; flows = flows }))

-- the line of a keep, and an exit from each of the hypotheses of the steps
abbrev pub keep : Frame → List ℕ → ℕ → Lines KeepParts
keep F js k = Then (Line (keep_line F k)) (λ k. Then (numbers F Exit js) (λ exits. Say (record { hypothesis = k; exits = exits })))

-- the hypotheses that a version keeps after steps of these hypotheses
abbrev pub kept : Frame → ℕ → List ℕ → List ℕ
kept F v js = if v == 2 then F.others js else []

-- what follows the last step: the keeps, and the end
abbrev pub last : Frame → ℕ → List StepParts → Lines Said
last F v steps = Then (each_of (keep F (named steps)) (kept F v (named steps))) (λ keeps.
    Then (Line end_line) (λ _. Say (record { version = v; steps = steps; keeps = keeps })))

-- A document of evidence: its version, its steps, the hypotheses that it keeps, and the end.
abbrev pub document : Frame → Lines Said
document F = Then (Line version_line) (λ v. Then (Many (step_line F) (step F) []) (λ steps. last F v steps))
