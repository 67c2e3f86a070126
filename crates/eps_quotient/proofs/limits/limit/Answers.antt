use Rattle.std.proofs.Common.{◌≡◌, ◌≢◌, ◌∙◌, ℕ, zero, suc, List, refl, sym, ap, arith, ℤ, pos, negsuc, ◌<ℤ◌, neg_ℤ}
use Rattle.std.proofs.lemmas.Int.{ints}
use Rattle.field_core.specs.Polynomial.{coefficient, IsNonZero}
use Rattle.field_core.proofs.Wholes.{size_negated}
use Rattle.eps_poly.specs.Factors.{order}
use Rattle.eps_poly.proofs.OrderLaws.{coefficient-order, order_below}
use Rattle.eps_poly.proofs.Signs.{not_below}
use Rattle.eps_quotient.proofs.LimitOfNorm.{limit_made, opposites}
use Rattle.eps_quotient.proofs.limits.limit.Goals as goal

pub whole-above-requires : goal.whole-above-requires
whole-above-requires c =
    let below = order_below c.args.den.now c.requires.some in
    omega (arith, c.order-power.ensures.value, c.order-power.ensures.polynomial.count)

pub whole-below-requires : goal.whole-below-requires
whole-below-requires c =
    let below = order_below c.args.den.now c.requires.some in
    omega (arith, c.order-power.ensures.value, c.order-power.ensures.polynomial.count)

below_some : (d : List ℤ) (power : ℕ) (b : ℤ) → power ≡ order d → b ≡ coefficient d power → IsNonZero d → b ≢ pos 0
below_some d power b k e some none = some (sym (coefficient-order d) ∙ ap (coefficient d) (sym k) ∙ sym e ∙ none)

positive : (b : ℤ) → b ≢ pos 0 → ¬ (b <ℤ pos 0) → pos 0 <ℤ b
positive (pos zero) some up = absurd (some refl)
positive (pos (suc n)) some up = omega (arith, ints)
positive (negsuc n) some up = absurd (up (omega (arith, ints)))

turned : (b : ℤ) → b <ℤ pos 0 → pos 0 <ℤ neg_ℤ b
turned b h = omega (arith, ints)

pub lowest_terms-requires : goal.lowest_terms-requires
lowest_terms-requires c = rw c.negated-then-is_below_zero.ensures (turned c.whole-below.result (c.is_below_zero.ensures.0 c.if-is_below_zero.true))

pub lowest_terms-requires-else-is_below_zero : goal.lowest_terms-requires-else-is_below_zero
lowest_terms-requires-else-is_below_zero c =
    positive c.whole-below.result
    (below_some c.args.den.now c.order-power.result c.whole-below.result c.order-power.ensures.value c.whole-below.ensures c.requires.some)
    (not_below c.is_below_zero.result c.whole-below.result c.is_below_zero.ensures c.if-is_below_zero.false)

pub returns-then-is_below_zero : goal.returns-then-is_below_zero
returns-then-is_below_zero c =
    let n = c.args.num.now in
    let d = c.args.den.now in
    let k = c.order-power.ensures.value in
    let v = c.degree.ensures.polynomial in
    let w = c.order-power.ensures.polynomial in
    let up : pos 0 <ℤ c.negated-then-is_below_zero.result =
    rw c.negated-then-is_below_zero.ensures (turned c.whole-below.result (c.is_below_zero.ensures.0 c.if-is_below_zero.true)) in
    c.lowest_terms.ensures
    ∙ limit_made n d c.negated.result c.negated-then-is_below_zero.result v w c.requires.some c.requires.unit
    (rw (c.negated.ensures, size_negated c.whole-above.result, c.whole-above.ensures) (v.sizes c.order-power.result))
    (rw (c.negated-then-is_below_zero.ensures, size_negated c.whole-below.result, c.whole-below.ensures) (w.sizes c.order-power.result))
    up
    (rw (c.negated.ensures, c.negated-then-is_below_zero.ensures, c.whole-above.ensures, c.whole-below.ensures, k)
    (opposites (coefficient n (order d)) (coefficient d (order d))))

pub returns-else-is_below_zero : goal.returns-else-is_below_zero
returns-else-is_below_zero c =
    let n = c.args.num.now in
    let d = c.args.den.now in
    let k = c.order-power.ensures.value in
    let v = c.degree.ensures.polynomial in
    let w = c.order-power.ensures.polynomial in
    let up = positive c.whole-below.result
    (below_some d c.order-power.result c.whole-below.result k c.whole-below.ensures c.requires.some)
    (not_below c.is_below_zero.result c.whole-below.result c.is_below_zero.ensures c.if-is_below_zero.false) in
    c.lowest_terms-else-is_below_zero.ensures
    ∙ limit_made n d c.whole-above.result c.whole-below.result v w c.requires.some c.requires.unit
    (rw c.whole-above.ensures (v.sizes c.order-power.result))
    (rw c.whole-below.ensures (w.sizes c.order-power.result))
    up
    (rw (c.whole-above.ensures, c.whole-below.ensures, k) refl)
