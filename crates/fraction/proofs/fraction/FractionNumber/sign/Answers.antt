use Rattle.std.proofs.Common.{rules, sym, ap, ◌∙◌, FitsSigned}
use Rattle.std.specs.Int.{w128}
use Rattle.std.proofs.lemmas.Int.{to_z-of_z}
use Rattle.field_core.specs.Kind.{sign_of}
use Rattle.field_core.specs.Polynomial.{int_sign}
use Rattle.field_core.specs.Laws.FractionLaws.{lowest-constant}
use Rattle.field_core.proofs.Wholes.{cmp_zero}
use Rattle.fraction.proofs.fraction.FractionNumber.sign.Goals as goal

pub returns : goal.returns
unfolding sign_of
returns c =
    let fits : FitsSigned w128 c.num.result = search rules in
    rw (← c.self.view_is) ((simp to_z-of_z at c.cmp.ensures) ∙ cmp_zero c.num.result ∙ ap int_sign c.num.ensures
    ∙ sym (ap int_sign (lowest-constant c.self.inside.ratio.num)))
