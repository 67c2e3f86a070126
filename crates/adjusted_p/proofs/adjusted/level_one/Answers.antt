use Rattle.adjusted_p.proofs.LevelOne.{one_of}
use Rattle.adjusted_p.proofs.adjusted.level_one.Goals as goal

pub returns : goal.returns
returns c = one_of c.one.result c.one.ensures
