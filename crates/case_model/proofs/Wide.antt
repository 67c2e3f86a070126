-- What an operation that may be refused answers, and what it was written as.
use Rattle.std.proofs.Common.{◌≡◌, refl, Option, Some, None, Result, Ok, Err}
use Rattle.field_core.specs.Kind.{or_wide}
use Rattle.field_core.specs.declared.place.Op.{Op}
use Rattle.field_core.specs.declared.place.TooWide.{TooWide}

module _ {A : Type 0} (op : Op) where
  pub some_from : (s : A) (w : Option A) → Path (Result A TooWide) (Ok s) (or_wide op w) → w ≡ Some s
  some_from s (Some t) h = cc
  some_from s None h = absurd (cc)

  pub none_from : (e : TooWide) (w : Option A) → Path (Result A TooWide) (Err e) (or_wide op w) → w ≡ None
  none_from e (Some t) h = absurd (cc)
  none_from e None h = refl
