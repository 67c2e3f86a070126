-- What the command `sample` prints of a case, the seed that it was made from and the decision on it.
use Rattle.std.specs.Prelude.{ℕ, ◌++◌, Bool, not, List, length, count_by, codes}
use Rattle.std.specs.Fmt.{decimal}
use Rattle.std.specs.List.{list_any, range_with_len, sum_by}
use Rattle.answers.specs.Lines.{line}
use Rattle.field_core.specs.View.{terms}
use Rattle.field_core.specs.declared.ratio.Ratio.{Ratio}
use Rattle.fraction.specs.Tests.{is_zero}
use Rattle.case_model.specs.declared.component.Component.{Component}
use Rattle.case_model.specs.Content.{Content}
use Rattle.case_model.specs.Sums.{ratio_at}
use Rattle.sequential.specs.declared.decision.Decision.{Decision}
use Rattle.report.specs.TestReport.{rejected_line}

-- whether an entry has a coefficient of a power from 0 to 4 that isn't 0
unfoldable pub is_edge : List Ratio → Bool
is_edge e = list_any (λ k. not (is_zero (terms (ratio_at e k)))) (range_with_len 0 5)

-- how many edges a component has
abbrev pub edges_in : Component → ℕ
edges_in k = count_by is_edge k.edges

-- how many edges the components of a case have
unfoldable pub edge_count : Content → ℕ
edge_count case = sum_by edges_in case.components

-- the size and the seed, the numbers of edges and of steps, the names of the rejected hypotheses, and the last line
unfoldable pub sample_report : Content → ℕ → Decision → List ℕ
sample_report case seed decision =
    line (codes "sample " ++ decimal (length case.names) ++ codes " " ++ decimal seed) ++ line (codes "edges " ++ decimal (edge_count case)) ++ line
    (codes "steps " ++ decimal (length decision.steps)) ++ rejected_line case decision.steps ++ line (codes "end")
