use Rattle.std.proofs.Common.{◌∙◌, ap₂, ◌-◌, int_div}
use Rattle.eps_poly.specs.Polynomials.{monomial}
use Rattle.eps_quotient.specs.Lowering.{without_cores}
use Rattle.eps_quotient.specs.Laws.LowerLaws.{without_cores_some}
use Rattle.eps_quotient.proofs.Stored.{some_list}
use Rattle.eps_quotient.proofs.lower.without_cores.Goals as goal

pub invariant_of-result : goal.invariant_of-result
unfolding without_cores
invariant_of-result c =
    record {
      some = some_list _ _
          (c.monomial-2.ensures ∙ ap₂ monomial (c.over-2.ensures ∙ ap₂ int_div c.factor-2.ensures c.common_content-content.ensures.value)
          (ap₂ (λ k z. k - z) c.order-2.ensures.value c.requires.power))
          (without_cores_some c.args.a.now c.args.b.now c.requires.held c.requires.b);
    }
