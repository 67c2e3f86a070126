use Rattle.std.proofs.Common.{rules, FitsSigned, ◌≡◌, ◌*ℤ◌}
use Rattle.std.specs.Int.{w64}
use Rattle.field_core.proofs.Sized.{product_sized}
use Rattle.field_core.proofs.short.Short.times.Goals as goal

pub returns-clause-written : goal.returns-clause-written
returns-clause-written c =
    let a : FitsSigned w64 c.self.inside.value = search rules in
    let b : FitsSigned w64 c.other.inside.value = search rules in
    let e : c.new.result ≡ c.self.inside.value *ℤ c.other.inside.value = search rules in
    rw (← c.self.view_is, ← c.other.view_is) (product_sized _ _ _ a b e)
