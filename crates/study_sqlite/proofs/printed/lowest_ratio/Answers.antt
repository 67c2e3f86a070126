use Rattle.std.proofs.Common.{rules, FitsSigned, Some, ap, sym, ◌∙◌}
use Rattle.std.specs.Int.{w128}
use Rattle.fraction.proofs.SameRatios.{same_ratio}
use Rattle.study_sqlite.proofs.PrintedRatios.{held_terms}
use Rattle.study_sqlite.proofs.printed.lowest_ratio.Goals as goal

pub returns-then-are_lowest-clause-only : goal.returns-then-are_lowest-clause-only
returns-then-are_lowest-clause-only c x is =
    let f : FitsSigned w128 c.args.num = search rules in
    let g : FitsSigned w128 c.args.den = search rules in
    ap Some (same_ratio c.new.result x (c.new.ensures ∙ held_terms c.args.num c.args.den f g ∙ sym is))
