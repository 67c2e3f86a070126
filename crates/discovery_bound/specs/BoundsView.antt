-- Bounds as contracts see them.
use Rattle.std.specs.Prelude.{ℕ, get_or}
use Rattle.discovery_bound.specs.declared.bounds.Bounds.{Bounds}

-- the number of hypotheses that bounds are for
abbrev pub bounds_size : Bounds → ℕ
bounds_size b = b.size

-- the bound of the set of a number, and 0 past the last set
unfoldable pub bound_of : Bounds → ℕ → ℕ
bound_of b n = get_or b.bounds n 0
