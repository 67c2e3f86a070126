use Rattle.std.proofs.lemmas.Result.{err_from_is_err_and}
use Rattle.fraction.proofs.LowestQuotients.{from_machine, ok_lowest, ok_value, kind_ok, kind_err, zero_fault, wide_fault}
use Rattle.fraction.proofs.fraction.Fraction.new.Goals as goal

pub returns-in_err-ratio-clause-zero : goal.returns-in_err-ratio-clause-zero
returns-in_err-ratio-clause-zero c =
    let p = err_from_is_err_and c.from_residual.result c.from_residual.ensures.1 in
    zero_fault c.args.num c.args.den _ _ (kind_err _ _ _ p.1 p.2) (from_machine c.args.num c.args.den _ c.ranges.num c.ranges.den c.in_err-ratio.ensures)

pub returns-in_err-ratio-clause-wide : goal.returns-in_err-ratio-clause-wide
returns-in_err-ratio-clause-wide c =
    let p = err_from_is_err_and c.from_residual.result c.from_residual.ensures.1 in
    wide_fault c.args.num c.args.den _ _ (kind_err _ _ _ p.1 p.2) (from_machine c.args.num c.args.den _ c.ranges.num c.ranges.den c.in_err-ratio.ensures)

pub returns-clause-lowest : goal.returns-clause-lowest
returns-clause-lowest c = ok_lowest c.args.num c.args.den c.in_ok-ratio.ratio
    (from_machine c.args.num c.args.den _ c.ranges.num c.ranges.den c.in_ok-ratio.ensures)

pub returns-clause-value : goal.returns-clause-value
returns-clause-value c = ok_value c.args.num c.args.den c.in_ok-ratio.ratio
    (from_machine c.args.num c.args.den _ c.ranges.num c.ranges.den c.in_ok-ratio.ensures)

pub returns-clause-zero : goal.returns-clause-zero
returns-clause-zero c = zero_fault c.args.num c.args.den _ _ (kind_ok _ _)
    (from_machine c.args.num c.args.den _ c.ranges.num c.ranges.den c.in_ok-ratio.ensures)

pub returns-clause-wide : goal.returns-clause-wide
returns-clause-wide c = wide_fault c.args.num c.args.den _ _ (kind_ok _ _)
    (from_machine c.args.num c.args.den _ c.ranges.num c.ranges.den c.in_ok-ratio.ensures)
