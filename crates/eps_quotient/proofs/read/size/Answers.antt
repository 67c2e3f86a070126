use Rattle.std.proofs.Common.{◌∙◌, ◌+◌, ap₂, min, ◌-◌, ◌^◌}
use Rattle.eps_quotient.proofs.ReadSteps.{size_more}
use Rattle.eps_quotient.proofs.read.size.Goals as goal

pub loop-digit-preserved : goal.loop-digit-preserved
loop-digit-preserved c =
    size_more c.args.digits.now c.loop-digit.digit-index c.loop-digit.size c.saturating_add-size.result
    (2 ^ 128 - 1) c.requires c.loop-digit-test.true c.loop-digit.invariant
    (c.saturating_add-size.ensures ∙ ap₂ (λ x y. min (x + y) (2 ^ 128 - 1)) c.saturating_mul.ensures c.from.ensures)
