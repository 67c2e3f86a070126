use Rattle.std.proofs.Common.{◌<◌, ◌∷◌, ◌++◌, ◌∙◌, sym, ap, arith, append_assoc, length, map, take}
use Rattle.std.specs.Fmt.{signed_decimal}
use Rattle.std.specs.List.{join_with_byte}
use Rattle.field_core.specs.Polynomial.{coefficient}
use Rattle.eps_quotient.specs.Spelling.{coefficient_text}
use Rattle.eps_quotient.proofs.Spelled.{joined_more}
use Rattle.eps_quotient.proofs.print.put_polynomial.Goals as goal

pub loop-power-preserved : goal.loop-power-preserved
loop-power-preserved c =
    let p = c.args.p.now in
    let k = c.loop-power.power in
    let end = c.degree-power-end.ensures in
    let count = end.polynomial.count in
    let room : k < length p = omega arith in
    c.in_ok-put_coefficient.ensures.put
    ∙ ap (λ m. m ++ coefficient_text k (coefficient p k)) c.loop-power.invariant
    ∙ append_assoc c.args.text.now (91 ∷ join_with_byte 44 (map signed_decimal (take k p))) (coefficient_text k (coefficient p k))
    ∙ ap (λ t. c.args.text.now ++ 91 ∷ t) (sym (joined_more p k room))
