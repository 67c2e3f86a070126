use Rattle.std.proofs.Common.{rules, ◌∙◌, ap, FitsSigned}
use Rattle.std.specs.Int.{w128}
use Rattle.std.proofs.lemmas.Int.{to_z-of_z}
use Rattle.field_core.specs.Kind.{sign_of}
use Rattle.field_core.specs.Polynomial.{int_sign}
use Rattle.field_core.proofs.Wholes.{cmp_zero}
use Rattle.eps_quotient.proofs.pair.Pair.sign.Goals as goal

pub returns : goal.returns
unfolding sign_of
returns c =
    let fits : FitsSigned w128 c.value.result = search rules in
    (simp to_z-of_z at c.cmp.ensures) ∙ cmp_zero c.value.result ∙ ap int_sign (c.value.ensures.value ∙ c.lowest.ensures)
