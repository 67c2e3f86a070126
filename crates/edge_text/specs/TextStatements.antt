-- What the form of texts and its first faults promise.
use Rattle.std.specs.Prelude.{◌≡◌, ◌≢◌, ◌⊎◌, ℕ, List}
use Rattle.case_model.specs.declared.case.Case.{Case}
use Rattle.case_model.specs.declared.fault.Refused.{Refused}
use Rattle.case_model.specs.CaseView.{content}
use Rattle.case_model.specs.declared.draft.Draft.{Draft}
use Rattle.edge_text.specs.declared.fault.LineKind.{LineKind}
use Rattle.edge_text.specs.declared.fault.LineKind.TheVariants.{Ended}
use Rattle.edge_text.specs.declared.fault.TextFault.{TextFault}
use Rattle.edge_text.specs.declared.fault.TextFault.TheVariants as faults
use Rattle.text_lines.specs.Forms.{texts_seen}
use Rattle.text_lines.specs.FormStatements.{IsWhereNoneGoesOn, IsUnfinished}
use Rattle.text_lines.specs.Lines.{rows_of, end_of}
use Rattle.edge_text.specs.Document.{document, IsText}
use Rattle.edge_text.specs.Faults.{IsFirstFault}
use Rattle.edge_text.specs.Reading.{IsCaseOf, IsRefusedText, IsTextFault}
use Rattle.edge_expression.specs.EntryReading.{IsEntryText, IsExprFault}
use Rattle.edge_expression.specs.declared.fault.ExprFault.{ExprFault}
use Rattle.field_core.specs.declared.ratio.Ratio.{Ratio}

-- a text denotes at most one draft
abbrev pub TextsSayOneDraft : Type 0
TextsSayOneDraft = (bytes : List ℕ) (d e : Draft) → IsText bytes d → IsText bytes e → d ≡ e

-- a text has at most one first fault
abbrev pub TextsHaveOneFault : Type 0
TextsHaveOneFault = (bytes : List ℕ) (m n : ℕ) (j k : LineKind) → IsFirstFault bytes m j → IsFirstFault bytes n k → (m ≡ n) × (j ≡ k)

-- a text denotes a draft or has a first fault
abbrev pub TextsSayOrFail : Type 0
TextsSayOrFail = (bytes : List ℕ) → ((d : Draft) × IsText bytes d) ⊎ ((n : ℕ) × (kind : LineKind) × IsFirstFault bytes n kind)

-- a text that denotes a draft has no first fault
abbrev pub TextsDontSayAndFail : Type 0
TextsDontSayAndFail = (bytes : List ℕ) (d : Draft) (n : ℕ) (kind : LineKind) → IsText bytes d → ¬ IsFirstFault bytes n kind

-- the first fault of a text is in the first line with which no document continues; or, if the lines only begin a document, after the last line
abbrev pub FirstFaultsEndDocuments : Type 0
FirstFaultsEndDocuments =
    (bytes : List ℕ) (number : ℕ) (kind : LineKind) → IsFirstFault bytes number kind →
    ((kind ≢ Ended) × IsWhereNoneGoesOn document (texts_seen (rows_of bytes)) number)
    ⊎ ((kind ≡ Ended) × (number ≡ end_of bytes) × IsUnfinished document (texts_seen (rows_of bytes)))

-- the first line with which no document continues has the first fault
abbrev pub WhereNoneGoesOnIsFault : Type 0
WhereNoneGoesOnIsFault = (bytes : List ℕ) (number : ℕ) → IsWhereNoneGoesOn document (texts_seen (rows_of bytes)) number → (kind : LineKind) × IsFirstFault bytes number kind

-- a text that only begins a document has its first fault after its last line
abbrev pub UnfinishedTextsEnd : Type 0
UnfinishedTextsEnd = (bytes : List ℕ) → IsUnfinished document (texts_seen (rows_of bytes)) → IsFirstFault bytes (end_of bytes) Ended

-- the cases of a text have one content
abbrev pub TextsHaveOneCase : Type 0
TextsHaveOneCase = (bytes : List ℕ) (c d : Case) → IsCaseOf bytes c → IsCaseOf bytes d → content c ≡ content d

-- a text whose draft is refused is refused for one fault, with the same names
abbrev pub TextsHaveOneRefusal : Type 0
TextsHaveOneRefusal = (bytes : List ℕ) (r s : Refused) → IsRefusedText bytes r → IsRefusedText bytes s → (r.fault ≡ s.fault) × (r.names ≡ s.names)

-- a text with a first fault has no draft that is refused
abbrev pub FaultsArentRefusals : Type 0
FaultsArentRefusals = (bytes : List ℕ) (n : ℕ) (kind : LineKind) (refused : Refused) → IsFirstFault bytes n kind → ¬ IsRefusedText bytes refused

-- if a text denotes a case, the only possible fault is out of memory
abbrev pub CasesHaveNoFault : Type 0
CasesHaveNoFault = (bytes : List ℕ) (c : Case) (fault : TextFault) → IsCaseOf bytes c → IsTextFault bytes fault → fault ≡ faults.NoMemory

-- ---- expressions

-- a text is an expression of an entry, or has a fault
abbrev pub TextsHaveEntriesOrFaults : Type 0
TextsHaveEntriesOrFaults = (text : List ℕ) → ((entry : List Ratio) × IsEntryText text entry) ⊎ ((fault : ExprFault) × IsExprFault text fault)

-- a text is an expression of one entry at most
abbrev pub TextsHaveOneEntry : Type 0
TextsHaveOneEntry = (text : List ℕ) (e f : List Ratio) → IsEntryText text e → IsEntryText text f → e ≡ f

-- a text has one fault at most
abbrev pub TextsHaveOneExprFault : Type 0
TextsHaveOneExprFault = (text : List ℕ) (f g : ExprFault) → IsExprFault text f → IsExprFault text g → f ≡ g

-- a text that is an expression of an entry has no fault
abbrev pub EntriesHaveNoFault : Type 0
EntriesHaveNoFault = (text : List ℕ) (entry : List Ratio) (fault : ExprFault) → IsEntryText text entry → ¬ IsExprFault text fault
