-- A fixed room for bytes.
use Rattle.std.specs.Prelude.{◌≡◌, ℕ, ◌-◌, List, Result, MatchResult, vec_len}
use Rattle.graph_io.specs.declared.room.Room.{Room}

-- the bytes in a room
abbrev pub held_in : Room → List ℕ
held_in room = room.held.items

-- how many bytes more a room takes
abbrev pub free_in : Room → ℕ
free_in room = room.size - vec_len room.held

-- what was taken uses up room, and an error none
abbrev pub TakesRoom : {E : Type 0} → ℕ → ℕ → Result ℕ E → Type 0
TakesRoom before now result = MatchResult result (λ n. now ≡ before - n) (λ _. now ≡ before)
