-- What the command `simes` prints of a case, the bounds of its sets, which of them a closed test rejects, and its hypotheses by ascending p-value.
use Rattle.std.specs.Prelude.{◌≡◌, ℕ, ◌+◌, Bool, List, ◌++◌, length, take, codes}
use Rattle.std.specs.Fmt.{decimal}
use Rattle.std.specs.List.{flat_map, range_with_len}
use Rattle.answers.specs.Lines.{line}
use Rattle.field_core.specs.Sets.{set_of}
use Rattle.field_core.specs.NumberedSets.{set_number}
use Rattle.case_model.specs.ClosedTest.{only}
use Rattle.case_model.specs.Content.{Content}
use Rattle.closed_test.specs.SetLists.{AreSetsInOrder}
use Rattle.report.specs.BoundsReport.{bound_line}
use Rattle.report.specs.TestReport.{names_where}

-- the number of the set of the first `k` on a list
abbrev pub first_set : Content → List ℕ → ℕ → ℕ
first_set case js k = set_number (length case.names) (set_of (take k js))

-- the line of the bound of the first `k` on a list
unfoldable pub top_line : Content → (ℕ → ℕ) → List ℕ → ℕ → List ℕ
top_line case bound js k = line (codes "top " ++ decimal k ++ codes " bound " ++ decimal (bound (first_set case js k)))

-- the lines of the first one on a list, of the first two, and so on to all
abbrev pub top_lines : Content → (ℕ → ℕ) → List ℕ → List ℕ
top_lines case bound js = flat_map (λ k. top_line case bound js (k + 1)) (range_with_len 0 (length js))

-- the number of the set of one hypothesis
abbrev pub set_alone : Content → ℕ → ℕ
set_alone case j = set_number (length case.names) (only j)

-- the line of the names of the hypotheses that are rejected alone, by ascending position
unfoldable pub alone_line : Content → (ℕ → Bool) → List ℕ
alone_line case closed = line (codes "rejected" ++ names_where case (λ j. closed (set_alone case j)))

-- the number of hypotheses, the lines of sets, those of the leaders, the names of the hypotheses that are rejected alone, and the last line
unfoldable pub simes_report : Content → (ℕ → ℕ) → (ℕ → Bool) → List ℕ → List ℕ → List ℕ
simes_report case bound closed leaders sets =
    line (codes "simes " ++ decimal (length case.names)) ++ flat_map (bound_line case bound) sets
    ++ top_lines case bound leaders ++ alone_line case closed ++ line (codes "end")

-- the text is the report of all sets of the case in their order
abbrev pub IsSimesReport : Content → (ℕ → ℕ) → (ℕ → Bool) → List ℕ → List ℕ → Type 0
IsSimesReport case bound closed leaders text = (sets : List ℕ) × AreSetsInOrder (length case.names) sets
    × (text ≡ simes_report case bound closed leaders sets)
