use Rattle.std.proofs.Common.{◌≡◌, sym, ◌∙◌, true, false}
use Rattle.fraction.specs.View.{number_of}
use Rattle.case_model.proofs.Comparisons.{le_is, above_zero_is}
use Rattle.case_model.proofs.Thresholds.{passes_is, not_passes}
use Rattle.case_model.proofs.local_test.passes_from.Goals as goal

pub returns-then-gt : goal.returns-then-gt
returns-then-gt c = λ p alpha level times.
    let w = c.args.weight.now in
    let some = sym (above_zero_is w c.zero.result c.zero.ensures) ∙ sym c.gt.ensures ∙ c.if-gt.true in
    let small = c.le.ensures ∙ le_is c.args.least.now w in
    let passes = passes_is p alpha c.args.least.now w level times some in
    (λ h. passes.0 (sym small ∙ h), λ h. small ∙ passes.1 h)

pub returns-else-gt : goal.returns-else-gt
returns-else-gt c = λ p alpha level times.
    let w = c.args.weight.now in
    let none = sym (above_zero_is w c.zero.result c.zero.ensures) ∙ sym c.gt.ensures ∙ c.if-gt.false in
    (λ h. absurd (let e : true ≡ false = sym h ∙ c.if-gt.false in cc), λ h. absurd (not_passes (number_of p) (number_of w) (number_of alpha) none h))
