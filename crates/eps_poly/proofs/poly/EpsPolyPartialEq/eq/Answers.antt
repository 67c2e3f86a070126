use Rattle.std.proofs.Common.{◌≡◌, ◌∙◌, sym, ap, false, eqb, arith}
use Rattle.std.proofs.lemmas.Bool.Decides.{nat_tests}
use Rattle.eps_poly.specs.Written.{count_to_last}
use Rattle.eps_poly.proofs.Coefficients.{differ}
use Rattle.eps_poly.proofs.poly.EpsPolyPartialEq.eq.Goals as goal

pub returns-else-used : goal.returns-else-used
returns-else-used c =
    let apart = c.if-used.false in
    let test : eqb c.used.result c.used-2.result ≡ false = grind (arith, nat_tests) in
    test ∙ differ c.args.self.now c.args.other.now (λ e. apart (c.used.ensures.value ∙ ap count_to_last e ∙ sym c.used-2.ensures.value))
