-- What a reader of texts answers.
use Rattle.std.specs.Prelude.{◌≡◌, ℕ, List, Some, None}
use Rattle.case_model.specs.declared.case.Case.{Case}
use Rattle.case_model.specs.declared.fault.Refused.{Refused}
use Rattle.case_model.specs.CaseFaults.{case_fault}
use Rattle.case_model.specs.CaseView.{content}
use Rattle.case_model.specs.Content.{content_of}
use Rattle.case_model.specs.declared.draft.Draft.{Draft}
use Rattle.edge_text.specs.declared.fault.TextFault.{TextFault}
use Rattle.edge_text.specs.declared.fault.TextFault.TheVariants.{Line, Case as RefusedCase, NoMemory}
use Rattle.edge_text.specs.Document.{IsText}
use Rattle.edge_text.specs.Faults.{IsFirstFault}

-- The text denotes a draft without fault, and the case has its content.
pub record IsCaseOf (bytes : List ℕ) (case : Case) : Type 0 where
  pub draft : Draft
  pub says : IsText bytes draft
  pub faultless : case_fault draft ≡ None
  pub content_is : content case ≡ content_of draft

-- The text denotes a draft that is refused for its first fault, with its names.
pub record IsRefusedText (bytes : List ℕ) (refused : Refused) : Type 0 where
  pub draft : Draft
  pub says : IsText bytes draft
  pub fault_is : case_fault draft ≡ Some refused.fault
  pub names_are : refused.names ≡ draft.names

-- Why a text gives no case: a line that isn't allowed, the first one; or else a draft that is refused; or out of memory.
unfoldable pub IsTextFault : List ℕ → TextFault → Type 0
IsTextFault bytes (Line number kind) = IsFirstFault bytes number kind
IsTextFault bytes (RefusedCase refused) = IsRefusedText bytes refused
IsTextFault bytes NoMemory = Unit {0}
