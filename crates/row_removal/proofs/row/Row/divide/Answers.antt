use Rattle.std.proofs.Common.{◌≡◌, ◌∙◌, sym, ap}
use Rattle.eps_poly.specs.Polynomials.{monomial}
use Rattle.eps_poly.proofs.Coefficients.{same_from}
use Rattle.eps_quotient.specs.Lowering.{one_polynomial}
use Rattle.row_removal.specs.Laws.ByOne.{divided_by_one}
use Rattle.row_removal.proofs.row.Row.divide.Goals as goal

pub returns-then-eq-clause-divided : goal.returns-then-eq-clause-divided
returns-then-eq-clause-divided c =
    let one : c.args.by.now ≡ one_polynomial = same_from c.args.by.now _ (sym c.eq.ensures ∙ c.if-eq.true) ∙ c.monomial.ensures
    ∙ ap (λ n. monomial n 0) c.new.ensures in
    rw one (sym (divided_by_one _ c.args.self.now c.requires.proper))
