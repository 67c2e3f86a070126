-- The graph of a case after removals, and why there is none.
use Rattle.std.specs.Prelude.{◌≡◌, ◌<◌, ◌≤◌, ℕ, List, length, take, Ok, Err}
use Rattle.field_core.specs.Sets.{whole}
use Rattle.field_core.specs.Runs.{IsOrder}
use Rattle.field_core.specs.declared.fault.Fault.TheVariants as openings
use Rattle.field_core.specs.declared.place.WideAt.{WideAt}
use Rattle.case_model.specs.Content.{Content}
use Rattle.entangled.specs.CaseAfter.{case_after}
use Rattle.entangled.specs.CaseRun.{CaseState}
use Rattle.entangled.specs.OpenFaults.{OpenFault}
use Rattle.graph_update.specs.UpdateText.{update_text}
use Rattle.graph_update.specs.declared.fault.UpdateFault.{UpdateFault}
use Rattle.graph_update.specs.declared.fault.UpdateFault.TheVariants.{Positions, Wide, NoMemory}

-- these are positions of hypotheses of the case, each once
abbrev pub ArePositions : Content → List ℕ → Type 0
ArePositions c js = IsOrder (length c.names) whole js

-- the text is that of the case after the removals of a list, in its order
pub record IsUpdate (c : Content) (js : List ℕ) (text : List ℕ) : Type 0 where
  pub positions : ArePositions c js
  pub state : CaseState
  pub reached : case_after c js ≡ Ok state
  pub text_is : text ≡ update_text c.names state

-- The removal with this number, counted from 1, is the first one that is undefined, and this is its first undefined operation. The opening has the
-- number 0.
pub record IsFirstUndefined (c : Content) (js : List ℕ) (n : ℕ) (w : WideAt) : Type 0 where
  pub within : n ≤ length js
  pub undefined : case_after c (take n js) ≡ Err w
  pub before : (i : ℕ) → i < n → (s : CaseState) × (case_after c (take i js) ≡ Ok s)

-- Why there is no graph after removals of positions: an operation is undefined; nothing is claimed of out-of-memory.
abbrev pub IsRunFault : Content → List ℕ → UpdateFault → Type 0
IsRunFault c js Positions = ⊥
IsRunFault c js (Wide n w) = IsFirstUndefined c js n w
IsRunFault c js NoMemory = Unit {0}

-- Why there is no graph: these aren't positions of hypotheses, each once; or they are, and an operation is undefined. Nothing is claimed of out-of-memory.
abbrev pub IsUpdateFault : Content → List ℕ → UpdateFault → Type 0
IsUpdateFault c js Positions = ¬ ArePositions c js
IsUpdateFault c js (Wide n w) = ArePositions c js × IsFirstUndefined c js n w
IsUpdateFault c js NoMemory = Unit {0}

-- the fault of an opening as a fault of an update
abbrev pub of_opening : OpenFault → UpdateFault
of_opening (openings.Wide w) = Wide 0 w
of_opening openings.NoMemory = NoMemory
