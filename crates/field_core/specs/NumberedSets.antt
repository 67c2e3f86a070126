-- Sets of hypotheses as numbers: bit `k` of the number says whether `k` is in the set.
use Rattle.std.specs.Prelude.{ℕ, zero, suc, ◌+◌, ◌^◌, ◌==◌, Bool, if◌then◌else◌}
use Rattle.std.specs.Int.{bit_at}

-- the set that a number denotes
unfoldable pub members : ℕ → ℕ → Bool
members n k = bit_at n k == 1

-- the number of a set, of which only the members below `m` count: the sum of their powers of two
unfoldable pub set_number : ℕ → (ℕ → Bool) → ℕ
set_number zero I = 0
set_number (suc m) I = set_number m I + (if I m then 2 ^ m else 0)
