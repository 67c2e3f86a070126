-- Steps of a check, one after another: the first broken condition or undefined operation is the answer of all.
use Rattle.std.specs.Prelude.{ℕ, zero, suc, Bool, Result, Ok, Err, if◌then◌else◌}
use Rattle.field_core.specs.Steps.{◌>>=◌}
use Rattle.field_core.specs.declared.place.TooWide.{TooWide}
use Rattle.field_core.specs.declared.place.Place.{Place}
use Rattle.evidence_check.specs.declared.verdict.Reason.{Reason}
use Rattle.evidence_check.specs.declared.event.CheckEvent.{CheckEvent}
use Rattle.evidence_check.specs.declared.event.CheckEvent.TheVariants.{Broken, Undefined}
use Rattle.evidence_check.specs.declared.event.CheckEventAt.{CheckEventAt}

-- a condition by its test, and the reason if it is broken
unfoldable pub require : Bool → Reason → Result (Unit {0}) CheckEvent
require test reason = if test then Ok tt else Err (Broken reason)

-- a written operation, in a component and at a place
unfoldable pub written_at : {A : Type 0} → ℕ → Place → Result A TooWide → Result A CheckEvent
written_at c place (Ok x) = Ok x
written_at c place (Err e) = Err (Undefined (record { component = c; place = place; op = e.op }))

-- a step or keep with its number
unfoldable pub numbered : {A : Type 0} → ℕ → Result A CheckEvent → Result A CheckEventAt
numbered n (Ok x) = Ok x
numbered n (Err e) = Err (record { number = n; event = e })

-- what `f` checks at 0, 1, .. below `n`
unfoldable pub all_below : ℕ → (ℕ → Result (Unit {0}) CheckEvent) → Result (Unit {0}) CheckEvent
all_below zero f = Ok tt
all_below (suc n) f = do
  _ ← all_below n f
  f n
