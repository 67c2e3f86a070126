-- What the command `bounds` prints of a case and the bounds of its sets.
use Rattle.std.specs.Prelude.{◌≡◌, ℕ, ◌==◌, List, [], ◌++◌, length, codes, if◌then◌else◌}
use Rattle.std.specs.Fmt.{decimal}
use Rattle.std.specs.List.{flat_map}
use Rattle.answers.specs.Lines.{line}
use Rattle.field_core.specs.NumberedSets.{members}
use Rattle.case_model.specs.Content.{Content}
use Rattle.closed_test.specs.SetLists.{AreSetsInOrder}
use Rattle.report.specs.TestReport.{names_where}

-- the line of the bound of a set and of the names of its members, by ascending position
unfoldable pub members_line : Content → (ℕ → ℕ) → ℕ → List ℕ
members_line case bound n = line (codes "bound " ++ decimal (bound n) ++ codes " of" ++ names_where case (members n))

-- the line of a set, and nothing for the empty set
abbrev pub bound_line : Content → (ℕ → ℕ) → ℕ → List ℕ
bound_line case bound n = if n == 0 then [] else members_line case bound n

-- the number of hypotheses, the lines of sets, and the last line
unfoldable pub bounds_report : Content → (ℕ → ℕ) → List ℕ → List ℕ
bounds_report case bound sets = line (codes "bounds " ++ decimal (length case.names)) ++ flat_map (bound_line case bound) sets ++ line (codes "end")

-- the text is the report of all sets of the case in their order
abbrev pub IsBoundsReport : Content → (ℕ → ℕ) → List ℕ → Type 0
IsBoundsReport case bound text = (sets : List ℕ) × AreSetsInOrder (length case.names) sets × (text ≡ bounds_report case bound sets)
