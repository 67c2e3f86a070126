use Rattle.entangled.proofs.Products.{next_limit_at}
use Rattle.entangled.proofs.levels.next_limit.Goals as goal

pub returns : goal.returns
returns g c = next_limit_at _ _ _ g.R.Remover.prepared c.args.nets.now c.args.c _ _ c.requires.live c.requires.c c.index-nets-c.is c.prepared_limit.ensures
