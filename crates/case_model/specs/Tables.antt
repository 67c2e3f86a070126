-- Tables of edges.
use Rattle.std.specs.Prelude.{ℕ, ◌*◌, ◌==◌, Bool, List, length}
use Rattle.std.specs.List.{list_all}
use Rattle.case_model.specs.declared.component.Component.{Component}

-- whether each table has `m` rows and columns
unfoldable pub are_tables : ℕ → List Component → Bool
are_tables m ks = list_all (λ k. length k.edges == m * m) ks
