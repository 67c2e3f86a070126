-- Sources and sinks over readers and writers of std, as contracts see them.
use Rattle.std.specs.Prelude.{ℕ}
use Rattle.graph_io.specs.declared.adapters.StdSource.{StdSource}
use Rattle.graph_io.specs.declared.adapters.StdSink.{StdSink}

-- the reader that the source takes from
abbrev pub reader_of : {R : Type 0} → StdSource R → R
reader_of source = source.inner

-- how often a take failed
abbrev pub read_faults : {R : Type 0} → StdSource R → ℕ
read_faults source = source.faults.count

-- how many takes were made
abbrev pub read_calls : {R : Type 0} → StdSource R → ℕ
read_calls source = source.calls.made

-- the writer that the sink hands its bytes to
abbrev pub writer_of : {W : Type 0} → StdSink W → W
writer_of sink = sink.inner

-- how often a put failed
abbrev pub write_faults : {W : Type 0} → StdSink W → ℕ
write_faults sink = sink.faults.count

-- how many puts were made
abbrev pub write_calls : {W : Type 0} → StdSink W → ℕ
write_calls sink = sink.calls.made
