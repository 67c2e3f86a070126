use Rattle.std.proofs.Common.{◌≡◌, ◌∙◌, ℕ, sym, pos, arith, inl, inr}
use Rattle.std.proofs.lemmas.Bool.{cases_eq, cases_lt}
use Rattle.field_core.specs.Polynomial.{coefficient}
use Rattle.eps_poly.proofs.DegreeLaws.{coefficient-above}
use Rattle.eps_poly.proofs.OrderLaws.{order_is, order_none}
use Rattle.eps_poly.proofs.poly.EpsPoly.order.Goals as goal
use Rattle.field_core.proofs.Wholes.{is_zero_true, is_zero_false}

pub loop-power-init : goal.loop-power-init
loop-power-init c k h = absurd (omega arith)

pub loop-power-preserved : goal.loop-power-preserved
loop-power-preserved c k h =
    let here : coefficient c.args.self.now c.loop-power.power ≡ pos 0 = sym c.whole.ensures
    ∙ is_zero_true c.whole.result (sym c.is_zero.ensures ∙ c.if-not-is_zero.false) in
    elim (cases_eq k c.loop-power.power) [
      | inl e ↦ rw e here
      | inr apart ↦ c.loop-power.invariant k (omega arith)
    ]

pub returns-then-not-is_zero-clause-value : goal.returns-then-not-is_zero-clause-value
returns-then-not-is_zero-clause-value c =
    sym (order_is c.args.self.now c.loop-power.power c.loop-power.invariant
    (λ none. is_zero_false c.whole.result (sym c.is_zero.ensures ∙ c.if-not-is_zero.true) (c.whole.ensures ∙ none)))

pub returns-clause-value : goal.returns-clause-value
returns-clause-value c =
    let done = c.loop-power-test.false in
    let long = c.used-end.ensures.polynomial.count in
    let same = c.used-end.ensures.value in
    sym (order_none c.args.self.now (λ k h. all k) ∙ long)
  where
    all : (k : ℕ) → coefficient c.args.self.now k ≡ pos 0
    all k = elim (cases_lt k c.loop-power.power) [
      | inl l ↦ c.loop-power.invariant k l
      | inr l ↦ let done = c.loop-power-test.false in let same = c.used-end.ensures.value in coefficient-above c.args.self.now k (omega arith)
    ]
