-- The graph of quotients that rows are gathered from.
use Rattle.std.specs.Prelude.{List, length, map}
use Rattle.removal.specs.StoredGraph.{StoredGraph, IsSquare, all_live}
use Rattle.eps_quotient.specs.View.{quotient_parts}
use Rattle.eps_quotient.specs.declared.quotient.EpsQuotient.{EpsQuotient}
use Rattle.row_removal.specs.Gathering.{HasConstants}

-- all hypotheses remaining, with these weights and edges
abbrev pub graph_given : List EpsQuotient → List EpsQuotient → StoredGraph
graph_given ws es = all_live (map quotient_parts ws) (map quotient_parts es)

-- at most 64 weights, a row of edges for each, and all denominators are constants
pub record AreGiven (weights edges : List EpsQuotient) : Type 0 where
  pub square : IsSquare (length weights) (length weights) (length edges)
  pub constants : HasConstants (graph_given weights edges)
