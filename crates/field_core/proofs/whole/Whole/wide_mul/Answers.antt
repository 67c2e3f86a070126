use Rattle.std.proofs.Common.{FitsSigned, rules}
use Rattle.std.specs.Int.{w128}
use Rattle.std.proofs.lemmas.Int.{to_z-of_z}
use Rattle.field_core.proofs.Sized.{sized_checked}
use Rattle.field_core.proofs.whole.Whole.wide_mul.Goals as goal

pub returns : goal.returns
returns c =
    let a : FitsSigned w128 c.self.inside.value = search rules in
    let b : FitsSigned w128 c.other.inside.value = search rules in
    rw (← c.self.view_is, ← c.other.view_is)
    (sized_checked _ c.checked_mul.result c.and_then.result (simp to_z-of_z at c.checked_mul.ensures) (search rules))
