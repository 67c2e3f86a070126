-- Devices as contracts see them: a source, a sink and a keeper of looks, each by what it exposes and by its counts.
use Rattle.std.specs.Prelude.{ℕ, List, Option}
use Rattle.graph_io.specs.declared.keeper.Keeper.{Ghosts as KeeperGhosts}
use Rattle.graph_io.specs.declared.keeper.Look.{Look}
use Rattle.graph_io.specs.declared.reading.Source.{Ghosts as SourceGhosts}
use Rattle.graph_io.specs.declared.writing.Sink.{Ghosts as SinkGhosts}

-- A source: the bytes that it has left, if it exposes them, how many of its calls failed, and how many were made.
pub record Reading : Type 0 where
  pub left : Option (List ℕ)
  pub faults : ℕ
  pub calls : ℕ

-- A sink: the bytes that it holds, if it exposes them, how many of its calls failed, and how many were made.
pub record Writing : Type 0 where
  pub held : Option (List ℕ)
  pub faults : ℕ
  pub calls : ℕ

-- A keeper: the looks that it holds, if it exposes them, how many of its calls failed, and how many were made.
pub record Keeping : Type 0 where
  pub looks : Option (List Look)
  pub faults : ℕ
  pub calls : ℕ

-- what contracts see of a source
abbrev pub reading : {S : Type 0} → SourceGhosts S → S → Reading
reading source s = record { left = source.left s; faults = source.faults s; calls = source.calls s }

-- what contracts see of a sink
abbrev pub writing : {W : Type 0} → SinkGhosts W → W → Writing
writing sink w = record { held = sink.held w; faults = sink.faults w; calls = sink.calls w }

-- what contracts see of a keeper
abbrev pub keeping : {K : Type 0} → KeeperGhosts K → K → Keeping
keeping keeper k = record { looks = keeper.looks k; faults = keeper.faults k; calls = keeper.calls k }
