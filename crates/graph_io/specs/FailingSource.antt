-- A source in memory that fails by plan, as contracts see it.
use Rattle.std.specs.Prelude.{◌≡◌, ℕ, List}
use Rattle.graph_io.specs.declared.failing_source.FailingSource.{FailingSource}

-- the bytes that are left
abbrev pub bytes_left : FailingSource → List ℕ
bytes_left source = source.rest

-- the most bytes that one take moves
abbrev pub most_a_take : FailingSource → ℕ
most_a_take source = source.cap

-- the numbers of the takes that fail, from 1
abbrev pub fails_at : FailingSource → List ℕ
fails_at source = source.plan.fails

-- how many takes were made; it stays at 2^64 - 1
abbrev pub takes_made : FailingSource → ℕ
takes_made source = source.plan.calls

-- how many takes failed
abbrev pub fault_count : FailingSource → ℕ
fault_count source = source.faults.count

-- how many takes were made
abbrev pub call_count : FailingSource → ℕ
call_count source = source.calls.made

-- the same takes fail, and the most bytes that a take moves are the same
pub record HasSamePlan (old new : FailingSource) : Type 0 where
  pub fails : fails_at new ≡ fails_at old
  pub most : most_a_take new ≡ most_a_take old
