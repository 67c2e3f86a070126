use Rattle.std.proofs.Common.{sym}
use Rattle.fraction.specs.Laws.PlainLimits.{limit_single}
use Rattle.fraction.proofs.fraction.FractionNumber.limit.Goals as goal

pub returns : goal.returns
returns c = rw (← c.self.view_is) (sym (limit_single _ c.self.inside.ratio.valid))
