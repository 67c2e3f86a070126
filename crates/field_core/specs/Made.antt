-- What the code makes of a written run, as long as memory lasts.
use Rattle.std.specs.Prelude.{◌≡◌, ℕ, Result, Ok, Err}
use Rattle.field_core.specs.declared.place.Wide.{Wide as WideAtPlace}
use Rattle.field_core.specs.declared.place.WideAt.{WideAt}
use Rattle.field_core.specs.declared.fault.Fault.{Fault}
use Rattle.field_core.specs.declared.fault.Fault.TheVariants.{Wide, NoMemory}

-- a fault on a component, with it
abbrev pub fault_in : ℕ → Fault WideAtPlace → Fault WideAt
fault_in c (Wide w) = Wide (record { component = c; place = w.place; op = w.op })
fault_in c NoMemory = NoMemory

-- What the code returns for a written run. A value, seen through `view`, is that of the run, and a refusal as too wide is its first undefined
-- operation. When out of memory, nothing is claimed of the run.
abbrev pub Makes : {A B W : Type 0} → (A → B) → Result A (Fault W) → Result B W → Type 0
Makes view (Ok x) written = written ≡ Ok (view x)
Makes view (Err (Wide w)) written = written ≡ Err w
Makes view (Err NoMemory) written = Unit {0}
