use Rattle.adjusted_p.proofs.ListLaws.{wide_runs_unique}
use Rattle.adjusted_p.proofs.laws.wide_runs_are_unique.Goals as goal

pub returns : goal.returns
returns c = wide_runs_unique
