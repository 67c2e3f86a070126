-- Many rows of p-values on the case of a text, from C.
use Rattle.std.specs.Prelude.{◌≡◌, ℕ, List, length, Some}
use Rattle.answers.specs.Codes.{cause_code}
use Rattle.answers.specs.declared.refusal.Refusal.{Refusal}
use Rattle.case_model.specs.CaseTests.{IsUnstaged}
use Rattle.case_model.specs.Content.{Content}
use Rattle.command_words.specs.Asked.{text}
use Rattle.graph_cli.specs.Accepted.{accepted}
use Rattle.graph_cli.specs.declared.kind.InputKind.TheVariants.{Any}
use Rattle.graph_cli.specs.declared.needs.Needs.{Needs}
use Rattle.trial_rows.specs.Rows.{AreRows, AreRowsTested, IsOpeningDefined, IsRowsFault}
use Rattle.trial_rows.specs.declared.fault.RowsFault.{RowsFault}
use Rattle.trial_rows.specs.declared.fault.RowsFault.TheVariants.{Lengths, Wide, NoMemory}

-- any case that the program takes, with p-values or without
abbrev pub any_case : Needs
any_case = record { kind = Any; most = 64 }

-- the bytes are a text that denotes a case without stages, with this content
pub record IsCaseOf (bytes : List ℕ) (c : Content) : Type 0 where
  pub denoted : (accepted text any_case (Some bytes)).Gives c
  pub unstaged : IsUnstaged c.inputs

-- Why there is no case, by the status: the text is refused; the case that it denotes has stages; or the call is out of memory.
pub data IsNoCase (bytes : List ℕ) (status : ℕ) : Type 0 where
  refused : (r : Refusal) → (accepted text any_case (Some bytes)).Refuses r → status ≡ cause_code r.cause → IsNoCase bytes status
  staged : (c : Content) → (accepted text any_case (Some bytes)).Gives c → ¬ IsUnstaged c.inputs → status ≡ 3 → IsNoCase bytes status
  memory : status ≡ 8 → IsNoCase bytes status

-- the status of a call that decides no row of a case
abbrev pub fault_code : RowsFault → ℕ
fault_code Lengths = 11
fault_code (Wide at) = 5
fault_code NoMemory = 8

-- Each row is tested on the case that the text denotes, and the status is 0. Or no row is tested, for one of two reasons: there is no case, or the rows
-- or the opening have a fault. Then no mark and no status of a row is written.
pub data TestsRows (bytes doubles old_marks marks old_statuses statuses : List ℕ) (result : ℕ) : Type 0 where
  tested : (c : Content) → IsCaseOf bytes c → AreRows (length c.names) (length doubles) (length old_marks) (length old_statuses) → IsOpeningDefined c
      → AreRowsTested c doubles marks statuses → result ≡ 0 → TestsRows bytes doubles old_marks marks old_statuses statuses result
  kept : (c : Content) → IsCaseOf bytes c → (fault : RowsFault) → IsRowsFault c (length doubles) (length old_marks) (length old_statuses) fault
      → result ≡ fault_code fault → marks ≡ old_marks → statuses ≡ old_statuses → TestsRows bytes doubles old_marks marks old_statuses statuses result
  no_case : IsNoCase bytes result → marks ≡ old_marks → statuses ≡ old_statuses → TestsRows bytes doubles old_marks marks old_statuses statuses result
