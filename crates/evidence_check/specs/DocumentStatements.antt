-- What documents of evidence promise.
use Rattle.std.specs.Prelude.{◌≡◌, ◌≢◌, ◌⊎◌, ◌↔◌, ℕ, List, map, Some, Result, Ok, Err, All}
use Rattle.field_core.specs.Kind.{Parts}
use Rattle.std.specs.List.{AllByRecursion}
use Rattle.text_lines.specs.Lines.{rows_of, end_of}
use Rattle.text_lines.specs.Faults.{FaultAt}
use Rattle.text_lines.specs.Forms.{Seen, words_seen, reading, IsDocument}
use Rattle.text_lines.specs.FormStatements.{IsWhereNoneGoesOn, IsUnfinished, IsFirstWrong, NoneGoesOnIsFault as FirstIsFault}
use Rattle.text_lines.specs.Spelling.{text_of, IsLine}
use Rattle.case_model.specs.Content.{Content}
use Rattle.case_numbers.specs.Numbers.{Numbers, numbers_of, IsStoredIn}
use Rattle.evidence_check.specs.declared.evidence.Evidence.{Evidence}
use Rattle.evidence_check.specs.declared.fault.ProofKind.{ProofKind}
use Rattle.evidence_check.specs.declared.fault.ProofKind.TheVariants.{Ended}
use Rattle.evidence_check.specs.EvidenceParts.{StepParts, KeepParts}
use Rattle.evidence_check.specs.EvidenceView.{FitsCase, IsEvidenceFor, version_of, steps_of, keeps_of}
use Rattle.evidence_check.specs.DocumentLines.{Words, Frame, kinds}
use Rattle.evidence_check.specs.Document.{Said, document}
use Rattle.evidence_check.specs.EvidenceLines.{evidence_lines}
use Rattle.evidence_check.specs.ReadView.{IsFrameFor}
use Rattle.evidence_check.specs.NumberReading.{case_frame}

-- what a text denotes, or its first fault
abbrev pub evidence_reading : Frame → List ℕ → Result Said (FaultAt ProofKind)
evidence_reading T bytes = reading kinds (document T) (words_seen (rows_of bytes)) (end_of bytes)

-- ---- what a text says of a case

-- what the lines of a text denote for a case, or the first fault
unfoldable pub case_reading : Content → List ℕ → Result Said (FaultAt ProofKind)
case_reading c bytes = evidence_reading (case_frame (numbers_of c) c) bytes

-- this evidence, as a document says it
abbrev pub said_of : Evidence → Said
said_of v = record { version = version_of v; steps = steps_of v; keeps = keeps_of v }

-- the lines of a text denote this evidence
abbrev pub SaysEvidence : Content → List ℕ → Evidence → Type 0
SaysEvidence c bytes v = case_reading c bytes ≡ Ok (said_of v)

-- the first fault of a text, and what is wrong there: a line that denotes nothing at its place, after lines that denote something. Or lines that end
-- too early
abbrev pub HasFault : Content → List ℕ → FaultAt ProofKind → Type 0
HasFault c bytes fault = case_reading c bytes ≡ Err fault

-- ---- laws

-- There is a frame for each case.
abbrev pub CasesHaveFrames : Type 0
CasesHaveFrames = (n : Numbers) (c : Content) → IsFrameFor n c (case_frame n c)

-- What is read from a text is what its lines denote.
abbrev pub ReadingsAreDocuments : Type 0
ReadingsAreDocuments =
    (T : Frame) (bytes : List ℕ) (said : Said) → (evidence_reading T bytes ≡ Ok said) ↔ IsDocument (document T) (words_seen (rows_of bytes)) said

-- The fault that is read is the first one: it is in the first line with which no document continues, or the lines end too early. This holds of each
-- frame with a number that is read from its text.
abbrev pub FaultsAreFirst : Type 0
FaultsAreFirst =
    (T : Frame) (x : Parts) (bytes : List ℕ) → T.number (T.text x) ≡ Some x
    → IsFirstWrong kinds (document T) (words_seen (rows_of bytes)) (end_of bytes)
    × FirstIsFault kinds (document T) (words_seen (rows_of bytes)) (end_of bytes)

-- Lines denote at most one evidence.
abbrev pub LinesSayOneEvidence : Type 0
LinesSayOneEvidence =
    (T : Frame) (rows : List (Seen Words)) (a b : Said) → IsDocument (document T) rows a → IsDocument (document T) rows b → a ≡ b

-- What is read from a text for a case is evidence that fits the case.
abbrev pub ReadingsAreEvidence : Type 0
ReadingsAreEvidence =
    (c : Content) (bytes : List ℕ) (said : Said) → case_reading c bytes ≡ Ok said → (v : Evidence) × IsEvidenceFor c v × (said ≡ said_of v)

-- ---- the lines of evidence

-- a number is read from its text
abbrev pub IsPrinted : Frame → Parts → Type 0
IsPrinted T x = T.number (T.text x) ≡ Some x

-- the hypotheses of steps are found by their names, and all numbers are read from their texts
pub record ArePrinted (T : Frame) (steps : List StepParts) (keeps : List KeepParts) : Type 0 where
  pub names : All (λ s. T.position (T.name s.hypothesis) ≡ Some s.hypothesis) steps
  pub flows : All (λ s. All (All (IsPrinted T)) s.flows) steps
  pub exits : All (λ x. All (All (IsPrinted T)) x.exits) keeps

-- The lines of evidence that fits a case denote this evidence, whatever their numbers among the lines of a text.
abbrev pub LinesSayTheirEvidence : Type 0
LinesSayTheirEvidence =
    (n : Numbers) (c : Content) (T : Frame) (v : ℕ) (ss : List StepParts) (xs : List KeepParts) → IsFrameFor n c T → FitsCase c v ss xs
    → ArePrinted T ss xs
    → (rows : List (Seen Words)) → map (λ row. row.line) rows ≡ evidence_lines T v ss xs
    → IsDocument (document T) rows (record { version = v; steps = ss; keeps = xs })

-- A stored number of a case is read from its text.
abbrev pub StoredNumbersArePrinted : Type 0
StoredNumbersArePrinted = (n : Numbers) (c : Content) (x : Parts) → IsStoredIn n x → IsPrinted (case_frame n c) x

-- ---- where no document continues

-- The first fault is in the first line with which no document continues, and isn't that the text ended. Or the lines only begin a document, and the
-- fault is that they end.
abbrev pub FaultsAreWhereNoneGoesOn : Type 0
FaultsAreWhereNoneGoesOn =
    (c : Content) (bytes : List ℕ) (fault : FaultAt ProofKind) → HasFault c bytes fault
    → ((fault.kind ≢ Ended) × IsWhereNoneGoesOn (document (case_frame (numbers_of c) c)) (words_seen (rows_of bytes)) fault.line)
    ⊎ ((fault ≡ record { line = end_of bytes; kind = Ended }) × IsUnfinished (document (case_frame (numbers_of c) c)) (words_seen (rows_of bytes)))

-- If the lines before a line begin some document, and together with it they begin none, the first fault is in this line.
abbrev pub NoneGoesOnIsFault : Type 0
NoneGoesOnIsFault =
    (c : Content) (bytes : List ℕ) (number : ℕ) → IsWhereNoneGoesOn (document (case_frame (numbers_of c) c)) (words_seen (rows_of bytes)) number
    → (kind : ProofKind) × HasFault c bytes (record { line = number; kind = kind })

-- ---- the text of evidence

-- the text of evidence for a case: its lines, with one blank between words and a line feed after each line
abbrev pub evidence_text : Content → Evidence → List ℕ
evidence_text c v = text_of (evidence_lines (case_frame (numbers_of c) c) (version_of v) (steps_of v) (keeps_of v))

-- The text of evidence denotes the evidence, if its names and numbers are words.
abbrev pub EvidenceTextsSayIt : Type 0
EvidenceTextsSayIt =
    (c : Content) (v : Evidence) → IsEvidenceFor c v → ArePrinted (case_frame (numbers_of c) c) (steps_of v) (keeps_of v)
    → AllByRecursion IsLine (evidence_lines (case_frame (numbers_of c) c) (version_of v) (steps_of v) (keeps_of v)) → SaysEvidence c (evidence_text c v) v
