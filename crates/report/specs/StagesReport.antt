-- What the command `stages` prints of a case and the looks at it.
use Rattle.std.specs.Prelude.{ℕ, ◌<◌, ◌==◌, Bool, List, [], ◌++◌, length, get_or, codes}
use Rattle.std.specs.Fmt.{decimal}
use Rattle.std.specs.List.{All, list_any}
use Rattle.answers.specs.Lines.{line}
use Rattle.field_core.specs.View.{terms}
use Rattle.fraction.specs.Spelling.{spelling}
use Rattle.case_model.specs.declared.draft_stages.Arrival.{Arrival}
use Rattle.case_model.specs.Content.{Content}
use Rattle.staged_levels.specs.declared.event.Settled.{Settled}
use Rattle.staged_levels.specs.Looks.{arrivals_of}
use Rattle.report.specs.EachText.{each}
use Rattle.report.specs.TestReport.{spaced_name, names_where, alpha_line}

-- each rejection is of a hypothesis of the case
abbrev pub AreRejectionsOf : Content → List Settled → Type 0
AreRejectionsOf case look = All (λ r. r.hypothesis < length case.names) look

-- the line of an arrival: the hypothesis, the stage and the p-value
unfoldable pub arrive_line : Content → Arrival → List ℕ
arrive_line case a = line (codes "arrive" ++ spaced_name case a.hypothesis ++ codes " " ++ decimal a.stage ++ codes " " ++ spelling (terms a.p))

-- the line of a rejection: the hypothesis, the stage and the weight
unfoldable pub reject_line : Content → Settled → List ℕ
reject_line case r = line (codes "reject" ++ spaced_name case r.hypothesis ++ codes " stage "
    ++ decimal r.stage ++ codes " weight " ++ spelling (terms r.weight))

-- an arrival, and the rejections that it brings
unfoldable pub look_lines : Content → Arrival → List Settled → List ℕ
look_lines case a look = arrive_line case a ++ each (λ _ r. reject_line case r) 0 look

-- the arrivals in their order, each with the rejections of the look at its place, and none past the last look
abbrev pub looks_lines : Content → List Arrival → List (List Settled) → List ℕ
looks_lines case arrivals looks = each (λ i a. look_lines case a (get_or looks i [])) 0 arrivals

-- whether the hypothesis at a position is rejected in some look
unfoldable pub is_settled : List (List Settled) → ℕ → Bool
is_settled looks j = list_any (λ look. list_any (λ r. r.hypothesis == j) look) looks

-- the line of the names of the rejected hypotheses, by ascending position
unfoldable pub settled_line : Content → List (List Settled) → List ℕ
settled_line case looks = line (codes "rejected" ++ names_where case (is_settled looks))

-- the level, the arrivals with the rejections that they bring, the names of the rejected hypotheses, and the last line
unfoldable pub stages_report : Content → List (List Settled) → List ℕ
stages_report case looks = alpha_line case ++ looks_lines case (arrivals_of case.inputs) looks ++ settled_line case looks ++ line (codes "end")
