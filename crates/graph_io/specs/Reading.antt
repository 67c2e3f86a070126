-- What reading a source to its end gives.
use Rattle.std.specs.Prelude.{◌≡◌, ℕ, ◌+◌, ◌<◌, ◌≤◌, List, length, IfSome, Result, Ok, Err, ⊤}
use Rattle.std.specs.declared.option.Option.{Option}
use Rattle.std.specs.Io.KnownBytes.{Consumes, IsAtEnd}
use Rattle.graph_io.specs.Causes.{Rose}
use Rattle.graph_io.specs.declared.reading.ReadEnd.{ReadEnd}
use Rattle.graph_io.specs.declared.reading.ReadEnd.TheVariants.{Fault, TooLong, NoMemory}

-- the first n bytes were taken
abbrev pub TookCount : Option (List ℕ) → Option (List ℕ) → ℕ → Type 0
TookCount old new n = (bs : List ℕ) × Consumes old new bs × (length bs ≡ n)

-- at most the first n bytes were taken
abbrev pub TookAtMost : Option (List ℕ) → Option (List ℕ) → ℕ → Type 0
TookAtMost old new n = (bs : List ℕ) × Consumes old new bs × (length bs ≤ n)

-- the first bytes were taken, by at most one call more than there are bytes
abbrev pub TookInTurns : Option (List ℕ) → Option (List ℕ) → (before now : ℕ) → Type 0
TookInTurns old new before now = (bs : List ℕ) × Consumes old new bs × (now ≤ before + (length bs + 1))

-- why the reading of at most limit bytes ended early
abbrev pub EndedBy : ℕ → Option (List ℕ) → Option (List ℕ) → ℕ → ℕ → ReadEnd → Type 0
EndedBy limit old new before now Fault = Rose before now
EndedBy limit old new before now (TooLong n) = (n ≡ limit + 1) × TookCount old new n × IfSome old (λ xs. limit < length xs)
EndedBy limit old new before now NoMemory = ⊤

-- the count of faults stayed, if the reading didn't end by a fault
abbrev pub IsClean : {A : Type 0} → ℕ → ℕ → Result A ReadEnd → Type 0
IsClean before now (Ok x) = now ≡ before
IsClean before now (Err (TooLong n)) = now ≡ before
IsClean before now (Err Fault) = Unit {0}
IsClean before now (Err NoMemory) = now ≡ before

-- the most bytes that are taken before a reading of at most limit bytes ends early
abbrev pub most_taken : ℕ → ReadEnd → ℕ
most_taken limit Fault = limit
most_taken limit (TooLong n) = n
most_taken limit NoMemory = limit + 1

-- all bytes, to the end, and at most limit of them
pub record ReadWhole (limit : ℕ) (old new : Option (List ℕ)) (bytes : List ℕ) : Type 0 where
  pub all : Consumes old new bytes
  pub told : IfSome old (λ xs. xs ≡ bytes)
  pub end : IsAtEnd new
  pub short : length bytes ≤ limit
