use Rattle.std.proofs.Common.{sym}
use Rattle.std.proofs.lemmas.Result.{err_from_is_err_and}
use Rattle.fraction.proofs.Numerals.{numeral_ok, numeral_err}
use Rattle.fraction.proofs.fraction.Fraction.parse.Goals as goal

pub returns-in_err-ratio : goal.returns-in_err-ratio
returns-in_err-ratio c =
    let p = err_from_is_err_and c.from_residual.result c.from_residual.ensures.1 in
    record { value = rw (p.1, p.2) (sym (numeral_err c.args.text.now _ c.in_err-ratio.ensures.fault)) }

pub returns : goal.returns
returns c = record { value = sym (numeral_ok c.args.text.now c.in_ok-ratio.ratio c.in_ok-ratio.ensures.found) }
