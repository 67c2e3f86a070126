use Rattle.std.proofs.Common.{rules, FitsSigned, ◌∙◌}
use Rattle.std.specs.Int.{w128}
use Rattle.field_core.specs.View.{terms}
use Rattle.study_sqlite.proofs.PrintedRatios.{spelt, num_fits, den_fits, found_text, read_terms}
use Rattle.study_sqlite.proofs.printed.printed_ratio.Goals as goal

pub returns-in_err-num-clause-only : goal.returns-in_err-num-clause-only
returns-in_err-num-clause-only c x is =
    let e = c.in_err-num.ensures.only x.num x.den (num_fits x) (den_fits x) (is ∙ spelt (terms x)) in absurd (cc)

pub returns-clause-found : goal.returns-clause-found
returns-clause-found c =
    let f : FitsSigned w128 c.in_ok-num.num = search rules in
    let g : FitsSigned w128 c.in_ok-num.den = search rules in
    found_text c.in_ok-num.num c.in_ok-num.den c.lowest_ratio.result c.args.text.now f g c.in_ok-num.ensures.found c.lowest_ratio.ensures.found

pub returns-clause-only : goal.returns-clause-only
returns-clause-only c x is =
    let read = c.in_ok-num.ensures.only x.num x.den (num_fits x) (den_fits x) (is ∙ spelt (terms x)) in
    c.lowest_ratio.ensures.only x (read_terms c.in_ok-num.num c.in_ok-num.den x read)
