-- The text of evidence, line by line, and what it denotes.
use Rattle.std.specs.Prelude.{◌≡◌, ℕ, List, [], ◌∷◌, ◌++◌}
use Rattle.text_lines.specs.Spelling.{line_spelt}
use Rattle.text_lines.specs.Faults.{FaultAt}
use Rattle.case_model.specs.Content.{Content}
use Rattle.case_model.specs.Validity.{IsValidContent}
use Rattle.evidence_check.specs.declared.evidence.Evidence.{Evidence}
use Rattle.evidence_check.specs.declared.fault.ProofKind.{ProofKind}
use Rattle.evidence_check.specs.EvidenceView.{IsEvidenceFor, version_of, steps_of, keeps_of}
use Rattle.evidence_check.specs.DocumentLines.{Words}
use Rattle.evidence_check.specs.DocumentStatements.{SaysEvidence, HasFault, evidence_text}

-- a line of these words, with its line feed
abbrev pub line_text : Words → List ℕ
line_text words = line_spelt words ++ 10 ∷ []

-- ---- laws

-- The text of evidence for a case denotes this evidence.
abbrev pub EvidenceTextsSayTheirs : Type 0
EvidenceTextsSayTheirs = (c : Content) (v : Evidence) → IsValidContent c → IsEvidenceFor c v → SaysEvidence c (evidence_text c v) v

-- The text of evidence for a case denotes no other evidence for the case.
abbrev pub EvidenceTextsSayNoOther : Type 0
EvidenceTextsSayNoOther =
    (c : Content) (v w : Evidence) → IsValidContent c → IsEvidenceFor c v → IsEvidenceFor c w → SaysEvidence c (evidence_text c v) w
    → (version_of w ≡ version_of v) × (steps_of w ≡ steps_of v) × (keeps_of w ≡ keeps_of v)

-- The text of evidence for a case has no fault.
abbrev pub EvidenceTextsHaveNoFault : Type 0
EvidenceTextsHaveNoFault =
    (c : Content) (v : Evidence) (fault : FaultAt ProofKind) → IsValidContent c → IsEvidenceFor c v → ¬ HasFault c (evidence_text c v) fault

-- Evidence with the same text is the same.
abbrev pub EvidenceTextsTellApart : Type 0
EvidenceTextsTellApart =
    (c : Content) (v w : Evidence) → IsValidContent c → IsEvidenceFor c v → IsEvidenceFor c w → evidence_text c v ≡ evidence_text c w
    → (version_of v ≡ version_of w) × (steps_of v ≡ steps_of w) × (keeps_of v ≡ keeps_of w)
