use Rattle.std.proofs.Common.{◌∙◌, ap, arith}
use Rattle.field_core.specs.Laws.Effective.{positive_nonzero}
use Rattle.field_core.specs.View.{terms}
use Rattle.eps_poly.specs.Polynomials.{monomial}
use Rattle.eps_quotient.specs.Polynomials.{term}
use Rattle.eps_quotient.specs.Laws.Cuts.{monomial_some}
use Rattle.eps_quotient.proofs.Stored.{stored_same, parts_same, some_list}
use Rattle.eps_quotient.proofs.TermLaws.{term_stored}
use Rattle.eps_quotient.proofs.quotient.EpsQuotient.term.Goals as goal

pub new-requires : goal.new-requires
new-requires c =
    let x = c.args.part.now in
    some_list _ _ (c.monomial-denominator.ensures ∙ ap (λ z. monomial z 0) c.whole_den.ensures)
    (monomial_some x.den 0 (omega arith) (positive_nonzero x.den x.valid.positive))

pub invariant_of-result : goal.invariant_of-result
unfolding term
invariant_of-result c =
    let x = c.args.part.now in
    let k = c.args.power in
    record {
      stored = stored_same _ _
          (c.new.ensures ∙ parts_same _ _ _ _ (c.monomial-numerator.ensures ∙ ap (λ z. monomial z k) c.whole_num.ensures)
          (c.monomial-denominator.ensures ∙ ap (λ z. monomial z 0) c.whole_den.ensures))
          (term_stored k (terms x) c.requires x.valid);
    }

pub returns : goal.returns
unfolding term
returns c =
    let k = c.args.power in
    c.new.ensures ∙ parts_same _ _ _ _ (c.monomial-numerator.ensures ∙ ap (λ z. monomial z k) c.whole_num.ensures)
    (c.monomial-denominator.ensures ∙ ap (λ z. monomial z 0) c.whole_den.ensures)
