use Rattle.std.proofs.Common.{◌∙◌, ap, sym}
use Rattle.std.specs.Option.{option_map}
use Rattle.field_core.specs.declared.place.Op.TheVariants.{Mul}
use Rattle.eps_quotient.specs.View.{pair_parts, quotient_parts}
use Rattle.eps_quotient.specs.Laws.Exact.{quotients_are_exact}
use Rattle.eps_quotient.proofs.Stored.{stored_if}
use Rattle.eps_quotient.proofs.quotient.EpsQuotientNumber.mul.Goals as goal

pub answer-requires : goal.answer-requires
answer-requires c =
    let x = c.args.self.now in
    let y = c.args.other.now in
    stored_if c.product.result (λ z e. quotients_are_exact.stored Mul (quotient_parts x) (quotient_parts y) (pair_parts z) x.stored y.stored tt
    (sym c.product.ensures ∙ ap (option_map pair_parts) e))
