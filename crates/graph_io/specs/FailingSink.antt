-- A sink in memory that fails by plan, as contracts see it.
use Rattle.std.specs.Prelude.{◌≡◌, ℕ, List}
use Rattle.graph_io.specs.declared.failing_sink.FailingSink.{FailingSink}
use Rattle.graph_io.specs.Room.{held_in, free_in}

-- the bytes that the sink holds
abbrev pub held_bytes : FailingSink → List ℕ
held_bytes sink = held_in sink.room

-- how many bytes more it takes
abbrev pub room_left : FailingSink → ℕ
room_left sink = free_in sink.room

-- the most bytes that one put takes
abbrev pub most_a_put : FailingSink → ℕ
most_a_put sink = sink.cap

-- the numbers of the puts that fail, from 1
abbrev pub fails_at : FailingSink → List ℕ
fails_at sink = sink.plan.fails

-- how many puts were made; it stays at 2^64 - 1
abbrev pub puts_made : FailingSink → ℕ
puts_made sink = sink.plan.calls

-- how many puts failed
abbrev pub fault_count : FailingSink → ℕ
fault_count sink = sink.faults.count

-- how many puts were made
abbrev pub call_count : FailingSink → ℕ
call_count sink = sink.calls.made

-- the same puts fail, and the most bytes that a put takes are the same
pub record HasSamePlan (old new : FailingSink) : Type 0 where
  pub fails : fails_at new ≡ fails_at old
  pub most : most_a_put new ≡ most_a_put old
