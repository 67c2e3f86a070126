use Rattle.std.proofs.Common.{sym, subst, arith}
use Rattle.std.proofs.lemmas.Result.{err_from_is_err_and}
use Rattle.edge_expression.specs.CursorView.{FactorGives}
use Rattle.edge_expression.specs.EntryView.{polynomial_terms}
use Rattle.edge_expression.proofs.CursorLengths.{sign_shorter, sign_no_longer, head_smaller, joint_shorter, joint_smaller, power_no_longer, close_no_longer}
use Rattle.edge_expression.proofs.Evaluations.{err_as, first_goes, first_refused, first_fails, next_goes, next_refused, next_fails, sum_done, first_factor}
use Rattle.edge_expression.proofs.Evaluations.{first_factor_fails, factor_goes, factor_refused, factor_fails, product_done, decimal_gives, epsilon_gives}
use Rattle.edge_expression.proofs.Evaluations.{parens_give, parens_fail, if_ok, held, applied_first}
use Rattle.edge_expression.proofs.evaluate.+evaluate.Goals as goal

-- ---- factors

pub factor-returns-in_err-inner-in-Open-clause-value :
    goal.factor-returns-in_err-inner-in-Open-clause-value
factor-returns-in_err-inner-in-Open-clause-value t c =
    let p = err_from_is_err_and c.from_residual.result c.from_residual.ensures.1 in
    let f = c.in_err-inner-in-Open.field-0.0 in
    subst (λ h. FactorGives h c.args.cursor.now.rest.now c.from_residual.result c.sum.new.cursor.rest.now) (sym c.in-Open.is)
    (parens_fail c.args.cursor.now.rest.now c.sum.new.cursor.rest.now c.sum.new.cursor.rest.now f c.from_residual.result
    (err_as c.from_residual.result p.0 f p.1 p.2) c.in_err-inner-in-Open.ensures.value)

pub factor-returns-in-Decimal-clause-value : goal.factor-returns-in-Decimal-clause-value
factor-returns-in-Decimal-clause-value t c =
    subst (λ h. FactorGives h c.args.cursor.now.rest.now c.decimal.result c.args.cursor.now.rest.now) (sym c.in-Decimal.is)
    (decimal_gives c.in-Decimal.text c.args.cursor.now.rest.now c.decimal.result c.decimal.ensures)

pub factor-returns-in-Epsilon-clause-value : goal.factor-returns-in-Epsilon-clause-value
factor-returns-in-Epsilon-clause-value t c =
    subst (λ h. FactorGives h c.args.cursor.now.rest.now c.power.result c.take_power.new.self.rest.now) (sym c.in-Epsilon.is)
    (epsilon_gives c.take_power.result c.args.cursor.now.rest.now c.take_power.new.self.rest.now c.power.result c.take_power.ensures c.power.ensures)

pub factor-returns-in-Epsilon-clause-shorter : goal.factor-returns-in-Epsilon-clause-shorter
factor-returns-in-Epsilon-clause-shorter t c = if_ok c.power.result _
    (power_no_longer c.take_power.result c.args.cursor.now.rest.now c.take_power.new.self.rest.now c.take_power.ensures)

pub factor-returns-in_ok-inner-in-Open-clause-value :
    goal.factor-returns-in_ok-inner-in-Open-clause-value
factor-returns-in_ok-inner-in-Open-clause-value t c =
    subst (λ h. FactorGives h c.args.cursor.now.rest.now (held c.in_ok-inner-in-Open.inner) c.take_close.new.self.rest.now) (sym c.in-Open.is)
    (parens_give c.args.cursor.now.rest.now c.sum.new.cursor.rest.now c.take_close.new.self.rest.now c.in_ok-inner-in-Open.inner
    c.in_ok-inner-in-Open.ensures.value c.take_close.ensures)

pub factor-returns-in_ok-inner-in-Open-clause-shorter :
    goal.factor-returns-in_ok-inner-in-Open-clause-shorter
factor-returns-in_ok-inner-in-Open-clause-shorter t c =
    omega (arith, close_no_longer c.sum.new.cursor.rest.now c.take_close.new.self.rest.now c.take_close.ensures, c.in_ok-inner-in-Open.ensures.shorter)

-- ---- products

pub product-factor-requires : goal.product-factor-requires
product-factor-requires t c =
    omega (arith, head_smaller c.take_head-head.result c.args.cursor.now.rest.now c.take_head-head.new.self.rest.now c.take_head-head.ensures)

pub product-returns-in_err-product-clause-value : goal.product-returns-in_err-product-clause-value
product-returns-in_err-product-clause-value t c =
    let p = err_from_is_err_and c.from_residual.result c.from_residual.ensures.1 in
    let f = c.in_err-product.field-0.0 in
    first_factor_fails c.take_head-head.result c.args.cursor.now.rest.now c.take_head-head.new.self.rest.now c.factor.new.cursor.rest.now
    c.factor.new.cursor.rest.now f c.from_residual.result
    (err_as c.from_residual.result p.0 f p.1 p.2) c.take_head-head.ensures c.in_err-product.ensures.value

pub product-loop-operation-init : goal.product-loop-operation-init
product-loop-operation-init t c = record {
  goes = first_factor c.take_head-head.result c.args.cursor.now.rest.now c.take_head-head.new.self.rest.now c.factor.new.cursor.rest.now c.in_ok-product.product
      c.take_head-head.ensures c.in_ok-product.ensures.value;
  shorter = omega (
    arith,
    c.in_ok-product.ensures.shorter,
    head_smaller c.take_head-head.result c.args.cursor.now.rest.now c.take_head-head.new.self.rest.now c.take_head-head.ensures,
  );
}

pub product-factor-requires-in-Some : goal.product-factor-requires-in-Some
product-factor-requires-in-Some t c =
    omega (
      arith,
      c.loop-operation.invariant.shorter,
      joint_smaller c.in-Some.operation c.take_head-head-in-Some.result c.loop-operation.cursor.rest.now c.take_joint.new.self.rest.now
          c.take_head-head-in-Some.new.self.rest.now c.in-Some.ensures c.take_head-head-in-Some.ensures,
    )

pub product-returns-in_err-next-clause-value : goal.product-returns-in_err-next-clause-value
product-returns-in_err-next-clause-value t c =
    let p = err_from_is_err_and c.from_residual-in_err-next.result c.from_residual-in_err-next.ensures.1 in
    let f = c.in_err-next.field-0.0 in
    factor_fails c.in-Some.operation c.take_head-head-in-Some.result c.args.cursor.now.rest.now c.loop-operation.cursor.rest.now c.take_joint.new.self.rest.now
    c.take_head-head-in-Some.new.self.rest.now c.factor-in-Some.new.cursor.rest.now c.factor-in-Some.new.cursor.rest.now
    (polynomial_terms c.loop-operation.product) f c.from_residual-in_err-next.result
    (err_as c.from_residual-in_err-next.result p.0 f p.1 p.2) c.loop-operation.invariant.goes c.in-Some.ensures c.take_head-head-in-Some.ensures
    c.in_err-next.ensures.value

pub product-returns-in_err-product-2-clause-value :
    goal.product-returns-in_err-product-2-clause-value
product-returns-in_err-product-2-clause-value t c =
    let p = err_from_is_err_and c.from_residual-in_err-product-2.result c.from_residual-in_err-product-2.ensures.1 in
    let f = c.in_err-product-2.field-0.0 in
    factor_refused c.in-Some.operation c.take_head-head-in-Some.result c.args.cursor.now.rest.now c.loop-operation.cursor.rest.now
    c.take_joint.new.self.rest.now c.take_head-head-in-Some.new.self.rest.now c.factor-in-Some.new.cursor.rest.now c.factor-in-Some.new.cursor.rest.now
    (polynomial_terms c.loop-operation.product) c.in_ok-next.next f c.from_residual-in_err-product-2.result
    (err_as c.from_residual-in_err-product-2.result p.0 f p.1 p.2) c.loop-operation.invariant.goes c.in-Some.ensures c.take_head-head-in-Some.ensures
    c.in_ok-next.ensures.value c.in_err-product-2.ensures

pub product-loop-operation-smaller : goal.product-loop-operation-smaller
product-loop-operation-smaller t c =
    omega (
      arith,
      c.in_ok-next.ensures.shorter,
      joint_shorter c.in-Some.operation c.take_head-head-in-Some.result c.loop-operation.cursor.rest.now
          c.take_joint.new.self.rest.now c.take_head-head-in-Some.new.self.rest.now c.in-Some.ensures c.take_head-head-in-Some.ensures,
    )

pub product-loop-operation-preserved : goal.product-loop-operation-preserved
product-loop-operation-preserved t c = record {
  goes = factor_goes c.in-Some.operation c.take_head-head-in-Some.result c.args.cursor.now.rest.now c.loop-operation.cursor.rest.now
      c.take_joint.new.self.rest.now c.take_head-head-in-Some.new.self.rest.now c.factor-in-Some.new.cursor.rest.now (polynomial_terms c.loop-operation.product)
      (polynomial_terms c.in_ok-product-2.product) c.in_ok-next.next
      c.loop-operation.invariant.goes c.in-Some.ensures c.take_head-head-in-Some.ensures c.in_ok-next.ensures.value c.in_ok-product-2.ensures;
  shorter = omega (
    arith,
    c.loop-operation.invariant.shorter,
    c.in_ok-next.ensures.shorter,
    joint_shorter c.in-Some.operation c.take_head-head-in-Some.result c.loop-operation.cursor.rest.now c.take_joint.new.self.rest.now
        c.take_head-head-in-Some.new.self.rest.now c.in-Some.ensures c.take_head-head-in-Some.ensures,
  );
}

pub product-returns-clause-value : goal.product-returns-clause-value
product-returns-clause-value t c = product_done c.args.cursor.now.rest.now c.loop-operation.cursor.rest.now c.take_joint.new.self.rest.now
    c.loop-operation.product c.loop-operation.invariant.goes c.in_default.ensures

-- ---- sums

pub sum-product-requires : goal.sum-product-requires
sum-product-requires t c = omega (arith, sign_no_longer c.take_sign.result c.args.cursor.now.rest.now c.take_sign.new.self.rest.now c.take_sign.ensures)

pub sum-returns-in_err-first-clause-value : goal.sum-returns-in_err-first-clause-value
sum-returns-in_err-first-clause-value t c =
    let p = err_from_is_err_and c.from_residual.result c.from_residual.ensures.1 in
    let f = c.in_err-first.field-0.0 in
    first_fails c.take_sign.result c.args.cursor.now.rest.now c.take_sign.new.self.rest.now c.product.new.cursor.rest.now c.product.new.cursor.rest.now f
    c.from_residual.result (err_as c.from_residual.result p.0 f p.1 p.2) c.take_sign.ensures c.in_err-first.ensures.value

pub sum-returns-in_err-sum-clause-value : goal.sum-returns-in_err-sum-clause-value
sum-returns-in_err-sum-clause-value t c =
    let p = err_from_is_err_and c.from_residual-in_err-sum.result c.from_residual-in_err-sum.ensures.1 in
    let f = c.in_err-sum.field-0.0 in
    let a = applied_first c.take_sign.result c.unwrap_or-sign.result (polynomial_terms c.in_ok-first.first) _ c.unwrap_or-sign.ensures c.in_err-sum.ensures in
    first_refused c.take_sign.result c.args.cursor.now.rest.now c.take_sign.new.self.rest.now c.product.new.cursor.rest.now c.product.new.cursor.rest.now
    c.in_ok-first.first f c.from_residual-in_err-sum.result
    (err_as c.from_residual-in_err-sum.result p.0 f p.1 p.2) c.take_sign.ensures c.in_ok-first.ensures.value a

pub sum-loop-sign-init : goal.sum-loop-sign-init
sum-loop-sign-init t c =
    let a = applied_first c.take_sign.result c.unwrap_or-sign.result (polynomial_terms c.in_ok-first.first) _ c.unwrap_or-sign.ensures c.in_ok-sum.ensures in
    record {
      goes = first_goes c.take_sign.result c.args.cursor.now.rest.now c.take_sign.new.self.rest.now c.product.new.cursor.rest.now c.in_ok-first.first
          (polynomial_terms c.in_ok-sum.sum) c.take_sign.ensures c.in_ok-first.ensures.value a;
      shorter = omega (
        arith,
        c.in_ok-first.ensures.shorter,
        sign_no_longer c.take_sign.result c.args.cursor.now.rest.now c.take_sign.new.self.rest.now c.take_sign.ensures,
      );
    }

pub sum-product-requires-in-Some : goal.sum-product-requires-in-Some
sum-product-requires-in-Some t c =
    omega (
      arith,
      c.loop-sign.invariant.shorter,
      sign_shorter c.in-Some.sign c.loop-sign.cursor.rest.now c.take_sign-in-loop-sign.new.self.rest.now
          c.in-Some.ensures,
    )

pub sum-returns-in_err-term-clause-value : goal.sum-returns-in_err-term-clause-value
sum-returns-in_err-term-clause-value t c =
    let p = err_from_is_err_and c.from_residual-in_err-term.result c.from_residual-in_err-term.ensures.1 in
    let f = c.in_err-term.field-0.0 in
    next_fails c.in-Some.sign c.args.cursor.now.rest.now c.loop-sign.cursor.rest.now c.take_sign-in-loop-sign.new.self.rest.now
    c.product-in-Some.new.cursor.rest.now c.product-in-Some.new.cursor.rest.now (polynomial_terms c.loop-sign.sum) f c.from_residual-in_err-term.result
    (err_as c.from_residual-in_err-term.result p.0 f p.1 p.2) c.loop-sign.invariant.goes c.in-Some.ensures c.in_err-term.ensures.value

pub sum-returns-in_err-sum-2-clause-value : goal.sum-returns-in_err-sum-2-clause-value
sum-returns-in_err-sum-2-clause-value t c =
    let p = err_from_is_err_and c.from_residual-in_err-sum-2.result c.from_residual-in_err-sum-2.ensures.1 in
    let f = c.in_err-sum-2.field-0.0 in
    next_refused c.in-Some.sign c.args.cursor.now.rest.now c.loop-sign.cursor.rest.now c.take_sign-in-loop-sign.new.self.rest.now
    c.product-in-Some.new.cursor.rest.now c.product-in-Some.new.cursor.rest.now
    (polynomial_terms c.loop-sign.sum) c.in_ok-term.term f c.from_residual-in_err-sum-2.result
    (err_as c.from_residual-in_err-sum-2.result p.0 f p.1 p.2) c.loop-sign.invariant.goes c.in-Some.ensures c.in_ok-term.ensures.value c.in_err-sum-2.ensures

pub sum-loop-sign-smaller : goal.sum-loop-sign-smaller
sum-loop-sign-smaller t c =
    omega (
      arith,
      c.in_ok-term.ensures.shorter,
      sign_shorter c.in-Some.sign c.loop-sign.cursor.rest.now c.take_sign-in-loop-sign.new.self.rest.now
          c.in-Some.ensures,
    )

pub sum-loop-sign-preserved : goal.sum-loop-sign-preserved
sum-loop-sign-preserved t c = record {
  goes = next_goes c.in-Some.sign c.args.cursor.now.rest.now c.loop-sign.cursor.rest.now c.take_sign-in-loop-sign.new.self.rest.now
      c.product-in-Some.new.cursor.rest.now (polynomial_terms c.loop-sign.sum)
      (polynomial_terms c.in_ok-sum-2.sum) c.in_ok-term.term c.loop-sign.invariant.goes c.in-Some.ensures c.in_ok-term.ensures.value c.in_ok-sum-2.ensures;
  shorter = omega (
    arith,
    c.loop-sign.invariant.shorter,
    c.in_ok-term.ensures.shorter,
    sign_shorter c.in-Some.sign c.loop-sign.cursor.rest.now c.take_sign-in-loop-sign.new.self.rest.now c.in-Some.ensures,
  );
}

pub sum-returns-clause-value : goal.sum-returns-clause-value
sum-returns-clause-value t c = sum_done c.args.cursor.now.rest.now c.loop-sign.cursor.rest.now c.take_sign-in-loop-sign.new.self.rest.now c.loop-sign.sum
    c.loop-sign.invariant.goes c.in_default.ensures
