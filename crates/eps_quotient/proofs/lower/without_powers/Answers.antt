use Rattle.std.proofs.Common.{◌∙◌, ap₂}
use Rattle.eps_poly.specs.Factors.{lowered}
use Rattle.eps_quotient.specs.Lowering.{without_powers}
use Rattle.eps_quotient.specs.Laws.LowerLaws.{without_powers_some}
use Rattle.eps_quotient.proofs.Stored.{some_list}
use Rattle.eps_quotient.proofs.lower.without_powers.Goals as goal

pub invariant_of-result : goal.invariant_of-result
unfolding without_powers
invariant_of-result c =
    record {
      some = some_list _ _
          (c.lowered-2.ensures ∙ ap₂ (λ z h. lowered z h c.args.b.now) c.requires.power c.common_content-content.ensures.value)
          (without_powers_some c.args.a.now c.args.b.now c.requires.held c.requires.b);
    }
