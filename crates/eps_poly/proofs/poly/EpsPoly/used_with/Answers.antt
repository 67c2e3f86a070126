use Rattle.std.proofs.Common.{◌≡◌, ◌≢◌, ◌-◌, ◌∙◌, sym, set, pos, arith, inl, inr}
use Rattle.std.proofs.lemmas.Bool.{cases_eq}
use Rattle.field_core.specs.Polynomial.{coefficient}
use Rattle.eps_poly.proofs.Coefficients.{coefficient-set_other}
use Rattle.eps_poly.proofs.DegreeLaws.{coefficient-above, count_is, count_kept, count_none, count_put}
use Rattle.eps_poly.proofs.poly.EpsPoly.used_with.Goals as goal
use Rattle.field_core.proofs.Wholes.{is_zero_true, is_zero_false}

pub loop-at-init : goal.loop-at-init
loop-at-init c k h =
    let same = c.used-end.ensures.value in
    coefficient-set_other c.args.self.now c.args.power k c.args.c (λ e. absurd (omega arith)) ∙ coefficient-above c.args.self.now k (omega arith)

pub loop-at-preserved : goal.loop-at-preserved
loop-at-preserved c k h =
    let some = c.loop-at-test.true in
    let q = set c.args.self.now c.args.power c.args.c in
    let here : coefficient q (c.loop-at.at - 1) ≡ pos 0 = sym c.whole_with.ensures
    ∙ is_zero_true c.whole_with.result (sym c.is_zero-in-loop-at.ensures ∙ c.if-not-is_zero-2.false) in
    elim (cases_eq k (c.loop-at.at - 1)) [
      | inl e ↦ rw e here
      | inr apart ↦ c.loop-at.invariant k (omega arith)
    ]

pub returns-then-not-is_zero-2 : goal.returns-then-not-is_zero-2
returns-then-not-is_zero-2 c =
    let q = set c.args.self.now c.args.power c.args.c in
    let some = c.loop-at-test.true in
    let here : coefficient q (c.loop-at.at - 1) ≢ pos 0 =
    λ none. is_zero_false c.whole_with.result (sym c.is_zero-in-loop-at.ensures ∙ c.if-not-is_zero-2.true) (c.whole_with.ensures ∙ none) in
    count_is q (c.loop-at.at - 1) here (λ k h. c.loop-at.invariant k (omega arith))

pub returns : goal.returns
returns c =
    let none = c.loop-at-test.false in
    count_none (set c.args.self.now c.args.power c.args.c) (λ k. c.loop-at.invariant k (omega arith))

pub returns-then-power-end : goal.returns-then-power-end
returns-then-power-end c =
    let same = c.used-end.ensures.value in
    c.used-end.ensures.value ∙ count_kept c.args.self.now c.args.power c.args.c (omega arith)

pub returns-then-not-is_zero : goal.returns-then-not-is_zero
returns-then-not-is_zero c =
    let same = c.used-end.ensures.value in
    let count = c.used-end.ensures.polynomial.count in
    count_put c.args.self.now c.args.power c.args.c (omega arith)
    (is_zero_false c.args.c (sym c.is_zero.ensures ∙ c.if-not-is_zero.true)) (omega arith)
