-- A source in memory, as contracts see it.
use Rattle.std.specs.Prelude.{ℕ, List}
use Rattle.graph_io.specs.declared.memory_source.MemorySource.{MemorySource}

-- the bytes that are left
abbrev pub bytes_left : MemorySource → List ℕ
bytes_left source = source.rest

-- how many takes were made
abbrev pub call_count : MemorySource → ℕ
call_count source = source.calls.made
