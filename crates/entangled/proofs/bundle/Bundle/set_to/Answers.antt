use Rattle.std.proofs.Common.{◌≡◌, map, rules, arith}
use Rattle.removal.specs.StoredGraph.{size as graph_size}
use Rattle.entangled.specs.Bundled.{states_size}
use Rattle.entangled.specs.BundleView.{bundled}
use Rattle.entangled.proofs.LevelValues.{stored_count}
use Rattle.entangled.proofs.bundle.Bundle.set_to.Goals as goal
use Rattle.case_model.proofs.Holding.{all_from_map}

pub set_all-requires-clause-size : goal.set_all-requires-clause-size
unfolding bundled
set_all-requires-clause-size g c =
    let b = c.args.self.now in
    let size = all_from_map (λ s. graph_size (g.R.Remover.graph s) ≡ states_size g.R.Remover.graph (map g.R.Remover.present b.nets.items))
    g.R.Remover.present b.nets.items b.whole.alike.size in
    search rules

pub set_all-requires-clause-other : goal.set_all-requires-clause-other
unfolding bundled
set_all-requires-clause-other g c =
    let b = c.args.other.now in
    let size = all_from_map (λ s. graph_size (g.R.Remover.graph s) ≡ states_size g.R.Remover.graph (map g.R.Remover.present b.nets.items))
    g.R.Remover.present b.nets.items b.whole.alike.size in
    search rules

pub copy_from_slice-requires : goal.copy_from_slice-requires
unfolding bundled
copy_from_slice-requires g c =
    omega (arith, c.requires.size, stored_count _ _ _ _ _ c.args.self.now.whole.levels, stored_count _ _ _ _ _ c.args.other.now.whole.levels)
