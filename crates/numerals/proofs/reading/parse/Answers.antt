use Rattle.std.proofs.lemmas.Result.{err_from_is_err_and}
use Rattle.numerals.proofs.ReadTexts.{checked_fault, body_fault, body_ok}
use Rattle.numerals.proofs.reading.parse.Goals as goal

pub returns-in_err-check-clause-fault : goal.returns-in_err-check-clause-fault
returns-in_err-check-clause-fault c =
    let p = err_from_is_err_and c.from_residual.result c.from_residual.ensures.1 in
    rw (p.1, p.2) (checked_fault c.args.text.now _ c.in_err-check.ensures)

pub returns-in_err-size-clause-fault : goal.returns-in_err-size-clause-fault
returns-in_err-size-clause-fault c =
    let p = err_from_is_err_and c.from_residual-in_err-size.result c.from_residual-in_err-size.ensures.1 in
    rw (p.1, p.2) (body_fault c.args.text.now _ _ c.in_ok-check.ensures c.split_sign-negative.ensures.rest c.in_err-size.ensures)

pub returns-clause-found : goal.returns-clause-found
returns-clause-found c = body_ok c.args.text.now _ _ c.in_ok-size.size c.lowest.result c.in_ok-check.ensures c.split_sign-negative.ensures.minus
    c.split_sign-negative.ensures.rest c.in_ok-size.ensures c.lowest.ensures
