-- The faults of written sums.
use Rattle.std.proofs.Common.{◌≡◌, ap, ◌∙◌, ℕ, Some, Result, Ok, Err, not}
use Rattle.field_core.specs.Number.{Number}
use Rattle.field_core.specs.Steps.{placed, in_component}
use Rattle.field_core.specs.declared.place.Place.{Place}
use Rattle.field_core.specs.declared.place.TooWide.{TooWide}
use Rattle.case_model.specs.declared.fault.CaseFault.{CaseFault}
use Rattle.case_model.specs.declared.fault.CaseFault.TheVariants.{Wide}
use Rattle.case_model.specs.Draft.{at_most}
use Rattle.case_model.specs.CaseFaults.{◌when◌, bound_fault}

module _ {A : Type 0} (r : Result A TooWide) (value bound : Number) (c : ℕ) (place : Place) (above : CaseFault) where
  -- a sum that can be written is at fault where its value is above the bound
  pub fault_written : (s : A) (v : Number) → Path (Result A TooWide) (Ok s) r → v ≡ value
      → (above when not (at_most v bound)) ≡ bound_fault (in_component c (placed place r)) value bound above
  fault_written s v e same = ap (λ x. above when not (at_most x bound)) same ∙ ap (λ r. bound_fault (in_component c (placed place r)) value bound above) e

  -- and else where it is refused
  pub fault_refused : (wide : TooWide) → Path (Result A TooWide) (Err wide) r
      → Some (Wide (record { component = c; place = place; op = wide.op })) ≡ bound_fault (in_component c (placed place r)) value bound above
  fault_refused wide e = ap (λ r. bound_fault (in_component c (placed place r)) value bound above) e
