-- A sink in memory that grows, as contracts see it.
use Rattle.std.specs.Prelude.{ℕ, List}
use Rattle.graph_io.specs.declared.whole_text.WholeText.{WholeText}

-- the bytes that the sink holds
abbrev pub held_bytes : WholeText → List ℕ
held_bytes sink = sink.text

-- how often a put failed
abbrev pub fault_count : WholeText → ℕ
fault_count sink = sink.faults.count

-- how many puts were made
abbrev pub call_count : WholeText → ℕ
call_count sink = sink.calls.made
