-- The way through all sets as contracts see it.
use Rattle.std.specs.Prelude.{ℕ, List}
use Rattle.closed_test.specs.Paths.{IsLeftOutOf}
use Rattle.closed_test.specs.declared.path.Path.{Path}

-- how many hypotheses there are
abbrev pub path_size : Path → ℕ
path_size p = p.size

-- the hypotheses that the set of a path leaves out, ascending
abbrev pub left_of : Path → List ℕ
left_of p = p.left.items

-- the set of a path is the one that leaves out its list
abbrev pub IsPath : Path → Type 0
IsPath p = IsLeftOutOf p.size p.set p.left.items
