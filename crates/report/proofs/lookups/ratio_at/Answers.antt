use Rattle.std.proofs.Common.{sym, ◌∙◌, arith}
use Rattle.std.proofs.lemmas.List.{get_or_past}
use Rattle.case_model.specs.Sums.{ratio_at, zero_ratio}
use Rattle.case_model.proofs.Same.{zero_of}
use Rattle.report.proofs.lookups.ratio_at.Goals as goal

pub returns-else-place-fractions : goal.returns-else-place-fractions
unfolding ratio_at
returns-else-place-fractions c = zero_of c.zero.result c.zero.ensures ∙ sym (get_or_past c.args.fractions.now c.args.place zero_ratio (omega arith))
