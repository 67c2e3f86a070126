-- What keepers of looks do.
use Rattle.std.specs.Prelude.{◌≡◌, ℕ, ◌≤◌, ◌++◌, List, [], ◌∷◌, IfSome, Result, Ok, Err}
use Rattle.std.specs.declared.option.Option.{Option}
use Rattle.std.specs.declared.option.Option.TheVariants.{Some, None}
use Rattle.graph_io.specs.Causes.{Rose}
use Rattle.graph_io.specs.declared.keeper.Look.{Look}
use Rattle.graph_io.specs.declared.keeper.KeeperFault.{KeeperFault}
use Rattle.graph_io.specs.declared.keeper.KeeperFault.TheVariants.{Fault, NoMemory}

-- looks were put after the old ones: all that are kept, if the keeper exposes them
abbrev pub Loads : Option (List Look) → List Look → List Look → Type 0
Loads looks old new = (more : List Look) × (new ≡ old ++ more) × IfSome looks (λ kept. kept ≡ more)

-- one look more, if the keeper exposes its looks
abbrev pub with_look : Option (List Look) → Look → Option (List Look)
with_look None look = None
with_look (Some looks) look = Some (looks ++ look ∷ [])

-- the count rose at a fault, and stayed at out of memory
abbrev pub CausedBy : ℕ → ℕ → KeeperFault → Type 0
CausedBy before now Fault = Rose before now
CausedBy before now NoMemory = now ≡ before

-- the count of faults rose with a fault, and stayed else
abbrev pub CallCaused : {T : Type 0} → ℕ → ℕ → Result T KeeperFault → Type 0
CallCaused before now (Ok x) = now ≡ before
CallCaused before now (Err fault) = CausedBy before now fault

-- the count never falls, a fault comes only if it rose, and else it stays
pub record IsCaused {T : Type 0} (before now : ℕ) (result : Result T KeeperFault) : Type 0 where
  pub later : before ≤ now
  pub cause : CallCaused before now result
