-- What the command `test` prints of a case, the decision on it and its adjusted values.
use Rattle.std.specs.Prelude.{ℕ, ◌+◌, ◌<◌, ◌==◌, Bool, List, [], ◌∷◌, ◌++◌, length, get_or, codes, if◌then◌else◌}
use Rattle.std.specs.Fmt.{decimal}
use Rattle.std.specs.List.{All, flat_map, list_any, range_with_len}
use Rattle.answers.specs.Lines.{line}
use Rattle.field_core.specs.View.{terms}
use Rattle.field_core.specs.declared.ratio.Ratio.{Ratio}
use Rattle.fraction.specs.Spelling.{spelling}
use Rattle.case_model.specs.declared.inputs.Inputs.{Inputs}
use Rattle.case_model.specs.declared.inputs.Inputs.TheVariants.{Bare, Single, Staged}
use Rattle.case_model.specs.Content.{Content}
use Rattle.case_model.specs.Sums.{ratio_at}
use Rattle.sequential.specs.declared.decision.StepLine.{StepLine}
use Rattle.sequential.specs.declared.decision.Decision.{Decision}
use Rattle.adjusted_p.specs.declared.adjusted.Adjusted.{Adjusted}
use Rattle.report.specs.EachText.{each}

-- each line is of a hypothesis of the case
abbrev pub AreOfCase : Content → List StepLine → Type 0
AreOfCase case lines = All (λ x. x.hypothesis < length case.names) lines

-- the p-values, and the empty list if there are no single ones
abbrev pub p_values : Inputs → List Ratio
p_values (Single ps) = ps
p_values Bare = []
p_values (Staged stages) = []

-- a space and the name of the hypothesis at a position
abbrev pub spaced_name : Content → ℕ → List ℕ
spaced_name case j = 32 ∷ get_or case.names j []

-- a space and the name of the hypothesis at a position if `is_put` is true, and else nothing
abbrev pub name_if : Content → ℕ → Bool → List ℕ
name_if case j is_put = if is_put then spaced_name case j else []

-- the names of the hypotheses for which a test is true, by ascending position
abbrev pub names_where : Content → (ℕ → Bool) → List ℕ
names_where case test = flat_map (λ j. name_if case j (test j)) (range_with_len 0 (length case.names))

-- the name of a hypothesis, its p-value and its weight
unfoldable pub figures : Content → StepLine → List ℕ
figures case x = spaced_name case x.hypothesis ++ codes " p " ++ spelling
    (terms (ratio_at (p_values case.inputs) x.hypothesis)) ++ codes " weight " ++ spelling (terms x.weight)

-- the line of the level
unfoldable pub alpha_line : Content → List ℕ
alpha_line case = line (codes "alpha " ++ spelling (terms case.alpha))

-- the line of the step of this number
unfoldable pub step_line : Content → ℕ → StepLine → List ℕ
step_line case n x = line (codes "step " ++ decimal n ++ figures case x)

-- the lines of the steps in their order, counted from 1
abbrev pub step_lines : Content → List StepLine → List ℕ
step_lines case steps = each (λ i x. step_line case (i + 1) x) 0 steps

-- the line of a retained hypothesis
unfoldable pub kept_line : Content → StepLine → List ℕ
kept_line case x = line (codes "kept" ++ figures case x)

-- whether the hypothesis at a position is that of a step
unfoldable pub is_rejected : List StepLine → ℕ → Bool
is_rejected steps j = list_any (λ x. x.hypothesis == j) steps

-- the line of the names of the rejected hypotheses, by ascending position
unfoldable pub rejected_line : Content → List StepLine → List ℕ
rejected_line case steps = line (codes "rejected" ++ names_where case (is_rejected steps))

-- what is printed after a value: nothing if the value is reached
abbrev pub reached_words : Bool → List ℕ
reached_words reached = if reached then [] else codes " not reached"

-- the line of the adjusted value of the hypothesis at a position
unfoldable pub adjusted_line : Content → ℕ → Adjusted → List ℕ
adjusted_line case j x = line (codes "adjusted" ++ spaced_name case j ++ codes " " ++ spelling (terms x.value) ++ reached_words x.reached)

-- the lines of adjusted values in their order, of which each is that of the hypothesis at its place
abbrev pub adjusted_lines : Content → List Adjusted → List ℕ
adjusted_lines case values = each (adjusted_line case) 0 values

-- the level, the steps, the retained hypotheses, the names of the rejected ones, the adjusted values, and the last line
unfoldable pub test_report : Content → Decision → List Adjusted → List ℕ
test_report case decision adjusted =
    alpha_line case ++ step_lines case decision.steps ++ each (λ _ x. kept_line case x) 0 decision.kept
    ++ rejected_line case decision.steps ++ adjusted_lines case adjusted ++ line (codes "end")
