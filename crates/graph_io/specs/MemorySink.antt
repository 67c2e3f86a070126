-- A sink in memory, as contracts see it.
use Rattle.std.specs.Prelude.{ℕ, List}
use Rattle.graph_io.specs.declared.memory_sink.MemorySink.{MemorySink}
use Rattle.graph_io.specs.Room.{held_in, free_in}

-- the bytes that the sink holds
abbrev pub held_bytes : MemorySink → List ℕ
held_bytes sink = held_in sink.room

-- how many bytes more it takes
abbrev pub room_left : MemorySink → ℕ
room_left sink = free_in sink.room

-- how often a put failed
abbrev pub fault_count : MemorySink → ℕ
fault_count sink = sink.faults.count

-- how many puts were made
abbrev pub call_count : MemorySink → ℕ
call_count sink = sink.calls.made
