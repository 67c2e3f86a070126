-- Calls that fail by plan.
use Rattle.std.specs.Prelude.{ℕ}
use Rattle.graph_io.specs.Causes.{count_up}

-- the number of the next call, from 1; it stays at 2^64 - 1
abbrev pub call_number : ℕ → ℕ
call_number calls_made = count_up calls_made
