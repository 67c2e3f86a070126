-- What the command `weights` prints of a case and the weights of its sets.
use Rattle.std.specs.Prelude.{◌≡◌, ℕ, ◌==◌, List, [], ◌++◌, length, codes, if◌then◌else◌}
use Rattle.std.specs.Fmt.{decimal}
use Rattle.std.specs.List.{flat_map, range_with_len}
use Rattle.answers.specs.Lines.{line}
use Rattle.field_core.specs.NumberedSets.{members}
use Rattle.field_core.specs.View.{terms}
use Rattle.field_core.specs.declared.ratio.Ratio.{Ratio}
use Rattle.fraction.specs.Spelling.{spelling}
use Rattle.case_model.specs.Content.{Content}
use Rattle.closed_test.specs.SetLists.{AreSetsInOrder}
use Rattle.report.specs.TestReport.{spaced_name}

-- a space, the name of a member of a set, and its weight there
unfoldable pub member_weight : Content → (ℕ → ℕ → Ratio) → ℕ → ℕ → List ℕ
member_weight case weight n k = spaced_name case k ++ codes "=" ++ spelling (terms (weight n k))

-- a space, the name and the weight of a hypothesis that is a member of a set, and nothing for another one
abbrev pub weight_if_member : Content → (ℕ → ℕ → Ratio) → ℕ → ℕ → List ℕ
weight_if_member case weight n k = if members n k then member_weight case weight n k else []

-- the line of the weights of the members of a set, by ascending position
unfoldable pub members_line : Content → (ℕ → ℕ → Ratio) → ℕ → List ℕ
members_line case weight n = line (codes "set" ++ flat_map (weight_if_member case weight n) (range_with_len 0 (length case.names)))

-- the line of a set, and nothing for the empty set
abbrev pub set_line : Content → (ℕ → ℕ → Ratio) → ℕ → List ℕ
set_line case weight n = if n == 0 then [] else members_line case weight n

-- the number of hypotheses, the lines of sets, and the last line
unfoldable pub weights_report : Content → (ℕ → ℕ → Ratio) → List ℕ → List ℕ
weights_report case weight sets = line (codes "weights " ++ decimal (length case.names)) ++ flat_map (set_line case weight) sets ++ line (codes "end")

-- the text is the report of all sets of the case in their order
abbrev pub IsWeightsReport : Content → (ℕ → ℕ → Ratio) → List ℕ → Type 0
IsWeightsReport case weight text = (sets : List ℕ) × AreSetsInOrder (length case.names) sets × (text ≡ weights_report case weight sets)
