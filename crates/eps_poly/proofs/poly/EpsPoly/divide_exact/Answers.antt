use Rattle.std.proofs.Common.{◌≡◌, ◌∙◌, sym, List, ℤ, Some, None}
use Rattle.eps_poly.specs.Written.{sized_product}
use Rattle.eps_poly.proofs.ExactLaws.{quotient_found, quotient_same}
use Rattle.eps_poly.proofs.poly.EpsPoly.divide_exact.Goals as goal
use Rattle.field_core.proofs.Results.{same_some}

pub returns-in_err-put_quotient-clause-value : goal.returns-in_err-put_quotient-clause-value
returns-in_err-put_quotient-clause-value c = c.from_residual.ensures ∙ c.in_err-put_quotient.ensures

none : (c : goal.After-from_residual) (q : List ℤ) → sized_product q c.args.by.now ≡ Some c.args.self.now → ⊥
none c q e =
    let (r, found, same) = quotient_same c.args.self.now c.args.by.now q c.requires e in
    let known : None ≡ Some r = c.in_err-put_quotient.ensures ∙ found in
    absurd (cc)

pub returns-in_err-put_quotient-clause-only : goal.returns-in_err-put_quotient-clause-only
returns-in_err-put_quotient-clause-only c q e = absurd (none c q e)

pub returns-in_err-put_quotient-clause-none : goal.returns-in_err-put_quotient-clause-none
returns-in_err-put_quotient-clause-none c = rw c.from_residual.ensures (none c)

pub returns-clause-found : goal.returns-clause-found
returns-clause-found c = quotient_found c.args.self.now c.args.by.now c.put_quotient.new.self (sym c.in_ok-put_quotient.ensures)

pub returns-clause-only : goal.returns-clause-only
returns-clause-only c q e =
    let (r, found, same) = quotient_same c.args.self.now c.args.by.now q c.requires e in
    rw (same_some _ _ (c.in_ok-put_quotient.ensures ∙ found)) same
