use Rattle.std.proofs.Common.{◌≡◌, ◌∙◌, sym, ap, List, ℤ, Some, None}
use Rattle.eps_poly.specs.Written.{sized_product}
use Rattle.eps_poly.proofs.Coefficients.{same_from, other_from}
use Rattle.eps_poly.proofs.ExactLaws.{quotient_none, quotient_of_zero, quotient_only}
use Rattle.eps_poly.proofs.ProductLaws.{product-same}
use Rattle.eps_poly.proofs.poly.EpsPoly.put_quotient.Goals as goal
use Rattle.field_core.proofs.Results.{same_some}

pub returns-then-is_zero : goal.returns-then-is_zero
returns-then-is_zero c = ap Some c.clear.ensures ∙ sym (quotient_of_zero c.args.p.now c.args.by.now c.requires c.used.ensures.polynomial
    c.used-2.ensures.polynomial (c.is_zero.ensures.zero.0 c.if-is_zero.true))

pub returns-in_err-write_candidate : goal.returns-in_err-write_candidate
returns-in_err-write_candidate c = rw c.from_residual.ensures
    (sym (quotient_none c.args.p.now c.args.by.now (λ q e. c.in_err-write_candidate.ensures.only q e)))

not_refused : (c : goal.After-from_residual-in_err-write_product) (q : List ℤ) → sized_product q c.args.by.now ≡ Some c.args.p.now → ⊥
not_refused c q e =
    let known : None ≡ Some c.args.p.now = c.in_err-write_product.ensures
    ∙ product-same c.write_candidate.new.quotient q c.args.by.now (c.in_ok-write_candidate.ensures.only q e) ∙ e in
    absurd (cc)

pub returns-in_err-write_product : goal.returns-in_err-write_product
returns-in_err-write_product c = rw c.from_residual-in_err-write_product.ensures
    (sym (quotient_none c.args.p.now c.args.by.now (not_refused c)))

pub returns-then-eq : goal.returns-then-eq
returns-then-eq c = sym (quotient_only c.args.p.now c.args.by.now c.write_candidate.new.quotient c.requires c.in_ok-write_candidate.ensures.count
    (sym c.in_ok-write_product.ensures ∙ ap Some (same_from c.write_product.new.self c.args.p.now (sym c.eq.ensures ∙ c.if-eq.true))))

not_same : (c : goal.Else-eq) (q : List ℤ) → sized_product q c.args.by.now ≡ Some c.args.p.now → ⊥
not_same c q e =
    let known : Some c.write_product.new.self ≡ Some c.args.p.now = c.in_ok-write_product.ensures
    ∙ product-same c.write_candidate.new.quotient q c.args.by.now (c.in_ok-write_candidate.ensures.only q e) ∙ e in
    other_from c.write_product.new.self c.args.p.now (sym c.eq.ensures ∙ c.if-eq.false) (same_some _ _ known)

pub returns-else-eq : goal.returns-else-eq
returns-else-eq c = sym (quotient_none c.args.p.now c.args.by.now (not_same c))
