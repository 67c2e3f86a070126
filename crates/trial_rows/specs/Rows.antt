-- Rows of p-values, given as doubles, and what is decided with each.
use Rattle.std.specs.Prelude.{◌≡◌, ◌<◌, ◌+◌, ◌*◌, ◌⊎◌, ℕ, List, length, get_or, Some, None, Err}
use Rattle.field_core.specs.declared.place.WideAt.{WideAt}
use Rattle.field_core.specs.declared.ratio.Ratio.{Ratio}
use Rattle.case_model.specs.Content.{Content, IsRejectedIn}
use Rattle.case_model.specs.Sums.{ratio_at}
use Rattle.entangled.specs.CaseRun.{case_opening}
use Rattle.entangled.specs.OpenFaults.{OpenFault}
use Rattle.field_core.specs.declared.fault.Fault.TheVariants as openings
use Rattle.sequential.specs.OtherPValues.{with_p}
use Rattle.sequential.specs.WideDecisions.{IsWideDecision}
use Rattle.sequential.specs.declared.priority.Priority.TheVariants.{First}
use Rattle.typed_numbers.specs.Readings.{reading_of}
use Rattle.trial_rows.specs.declared.fault.RowsFault.{RowsFault}
use Rattle.trial_rows.specs.declared.fault.RowsFault.TheVariants.{Lengths, Wide, NoMemory}

-- these are the readings of the first `m` doubles
pub record AreReadings (m : ℕ) (doubles : ℕ → ℕ) (ps : List Ratio) : Type 0 where
  pub count : length ps ≡ m
  pub each : (j : ℕ) → j < m → reading_of (doubles j) ≡ Some (ratio_at ps j)

-- some of the first `m` doubles has no reading
pub record HasUnread (m : ℕ) (doubles : ℕ → ℕ) : Type 0 where
  pub place : ℕ
  pub below : place < m
  pub unread : reading_of (doubles place) ≡ None

-- a mark is 1 exactly if the given fact holds, and else 0
abbrev pub IsMark : Type 0 → ℕ → Type 0
IsMark P mark = (P × (mark ≡ 1)) ⊎ ((¬ P) × (mark ≡ 0))

-- each of `m` marks is 0
abbrev pub AreUnmarked : ℕ → (ℕ → ℕ) → Type 0
AreUnmarked m marks = (j : ℕ) → j < m → marks j ≡ 0

-- the written run of the decision with these p-values is defined
abbrev pub IsRunDefined : Content → List Ratio → Type 0
IsRunDefined c ps = (step : ℕ) (at : WideAt) → ¬ IsWideDecision (with_p c ps) First step at

-- What a row of doubles gives: a mark for each hypothesis of the case, and a status. Either each double has a reading, and the run with these is defined;
-- or one has none; or each has one, and the run is undefined. Exactly one of the three holds, since a double has at most one reading.
pub data IsRowTested (c : Content) (doubles marks : ℕ → ℕ) (status : ℕ) : Type 0 where
  decided : status ≡ 0 → (ps : List Ratio) → AreReadings (length c.names) doubles ps → IsRunDefined c ps
      → ((j : ℕ) → j < length c.names → IsMark (IsRejectedIn (with_p c ps) j) (marks j)) → IsRowTested c doubles marks status
  unread : status ≡ 3 → HasUnread (length c.names) doubles → AreUnmarked (length c.names) marks → IsRowTested c doubles marks status
  wide : status ≡ 5 → (ps : List Ratio) → AreReadings (length c.names) doubles ps → (step : ℕ) → (at : WideAt)
      → IsWideDecision (with_p c ps) First step at → AreUnmarked (length c.names) marks → IsRowTested c doubles marks status

-- the value at place `j` of a row, where each row has `m` places and rows follow one another
abbrev pub in_row : ℕ → List ℕ → ℕ → ℕ → ℕ
in_row m xs row j = get_or xs (row * m + j) 0

-- Each row is tested.
abbrev pub AreRowsTested : Content → List ℕ → List ℕ → List ℕ → Type 0
AreRowsTested c doubles marks statuses = (row : ℕ) → row < length statuses
    → IsRowTested c (in_row (length c.names) doubles row) (in_row (length c.names) marks row) (get_or statuses row 0)

-- there are exactly one double and one mark for each of `m` hypotheses in each row
pub record AreRows (m doubles marks rows : ℕ) : Type 0 where
  pub doubles_are : doubles ≡ rows * m
  pub marks_are : marks ≡ doubles

-- the fault of an opening as a fault of rows
abbrev pub of_opening : OpenFault → RowsFault
of_opening (openings.Wide at) = Wide at
of_opening openings.NoMemory = NoMemory

-- Why no row is decided: the lengths don't fit; or they do, and the opening is undefined, or the call is out of memory.
abbrev pub IsRowsFault : Content → ℕ → ℕ → ℕ → RowsFault → Type 0
IsRowsFault c doubles marks rows Lengths = ¬ AreRows (length c.names) doubles marks rows
IsRowsFault c doubles marks rows (Wide at) = AreRows (length c.names) doubles marks rows × (case_opening c ≡ Err at)
IsRowsFault c doubles marks rows NoMemory = AreRows (length c.names) doubles marks rows

-- the opening of the case is defined
abbrev pub IsOpeningDefined : Content → Type 0
IsOpeningDefined c = (at : WideAt) → ¬ (case_opening c ≡ Err at)
