use Rattle.std.proofs.Common.{FitsSigned, rules, ◌∙◌, refl}
use Rattle.std.specs.Int.{w64}
use Rattle.std.proofs.lemmas.Int.{to_z-of_z}
use Rattle.field_core.proofs.Divisors.{IsDivisor, machine_divisor}
use Rattle.field_core.proofs.short.Short.common_divisor.Goals as goal

divisor : (c : goal.After-binary_gcd-divisor) → IsDivisor w64 c.self.inside.value c.other.inside.value c.binary_gcd-divisor.result
divisor c =
    let a : FitsSigned w64 c.self.inside.value = search rules in
    let b : FitsSigned w64 c.other.inside.value = search rules in
    let e = simp to_z-of_z at c.unsigned_abs.ensures.value in
    let f = simp to_z-of_z at c.binary_gcd-divisor.ensures in
    machine_divisor w64 c.self.inside.value c.other.inside.value _ b (rw c.other.view_is c.requires) (f ∙ rw e refl)

pub overflow_cast-result : goal.overflow_cast-result
overflow_cast-result c = (divisor c).fits

pub returns-clause-value : goal.returns-clause-value
returns-clause-value c = rw (← c.self.view_is, ← c.other.view_is) (divisor c).value

pub returns-clause-positive : goal.returns-clause-positive
returns-clause-positive c = (divisor c).positive
