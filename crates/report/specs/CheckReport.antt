-- What the command `check` prints of evidence that holds.
use Rattle.std.specs.Prelude.{ℕ, ◌==◌, List, [], ◌++◌, if◌then◌else◌, codes}
use Rattle.std.specs.List.{flat_map}
use Rattle.answers.specs.Lines.{line}
use Rattle.case_model.specs.Content.{Content}
use Rattle.report.specs.TestReport.{spaced_name}

-- the line of the hypotheses of the steps, in the order of the steps
unfoldable pub listed_line : Content → List ℕ → List ℕ
listed_line case js = line (codes "listed" ++ flat_map (spaced_name case) js)

-- the line of the hypotheses of the keeps, in their order; only version 2 has this line
unfoldable pub keeps_line : Content → ℕ → List ℕ → List ℕ
keeps_line case version ks = if version == 2 then line (codes "kept" ++ flat_map (spaced_name case) ks) else []

-- the answer, the hypotheses of the steps, those of the keeps, and the last line
unfoldable pub check_report : Content → ℕ → List ℕ → List ℕ → List ℕ
check_report case version js ks = line (codes "yes") ++ listed_line case js ++ keeps_line case version ks ++ line (codes "end")
