-- The laws of drafts and of their spends, as contracts name them.
use Rattle.std.specs.Prelude.{◌≡◌, ◌↔◌, ℕ, true, None}
use Rattle.case_model.specs.declared.draft.Draft.{Draft}
use Rattle.case_model.specs.CaseFaults.{case_fault}
use Rattle.case_model.specs.Content.{Content, content_of}
use Rattle.case_model.specs.Draft.{have_known_ends, have_known_arrivals}
use Rattle.case_model.specs.Spends.{IsRisingSpend}
use Rattle.case_model.specs.StagedCase.{has_short_fractions, spend_in}
use Rattle.case_model.specs.Validity.{IsValidContent, IsOneCase}

-- A draft whose edges and arrivals are of its hypotheses has no fault exactly if its content is valid and it is one case.
abbrev pub DraftsAreFaultlessWhereValid : Type 0
DraftsAreFaultlessWhereValid =
    (d : Draft) → have_known_ends d ≡ true → have_known_arrivals d ≡ true → (case_fault d ≡ None) ↔ (IsValidContent (content_of d) × IsOneCase d)

-- What is spent in a case isn't below 0, and doesn't fall from step to step.
abbrev pub SpendsOfCasesRise : Type 0
SpendsOfCasesRise = (c : Content) (k t : ℕ) → IsValidContent c → IsRisingSpend (spend_in c k) t

-- The fractions that are spent in a case have parts of at most 10,000.
abbrev pub FractionsOfCasesAreShort : Type 0
FractionsOfCasesAreShort = (c : Content) (k : ℕ) → IsValidContent c → has_short_fractions (spend_in c k) ≡ true
