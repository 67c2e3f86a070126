-- A keeper in memory, as contracts see it.
use Rattle.std.specs.Prelude.{ℕ, List}
use Rattle.graph_io.specs.declared.keeper.Look.{Look}
use Rattle.graph_io.specs.declared.memory_keeper.MemoryKeeper.{MemoryKeeper}

-- the looks that are kept
abbrev pub kept_looks : MemoryKeeper → List Look
kept_looks keeper = keeper.looks

-- how many calls were made
abbrev pub call_count : MemoryKeeper → ℕ
call_count keeper = keeper.calls.made
