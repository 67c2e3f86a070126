-- Steps at their places and components.
use Rattle.std.proofs.Common.{◌≡◌, ℕ, Result, Ok, Err}
use Rattle.field_core.specs.Steps.{placed, in_component}
use Rattle.field_core.specs.declared.place.Place.{Place}
use Rattle.field_core.specs.declared.place.TooWide.{TooWide}
use Rattle.field_core.specs.declared.place.Wide.{Wide}

pub placed_ok : {A : Type 0} (p : Place) (r : Result A TooWide) (x : A) → placed p r ≡ Ok x → r ≡ Ok x
placed_ok p (Ok y) x h = cc
placed_ok p (Err e) x h = absurd (cc)

pub in_component_ok : {A : Type 0} (c : ℕ) (r : Result A Wide) (x : A) → in_component c r ≡ Ok x → r ≡ Ok x
in_component_ok c (Ok y) x h = cc
in_component_ok c (Err e) x h = absurd (cc)
