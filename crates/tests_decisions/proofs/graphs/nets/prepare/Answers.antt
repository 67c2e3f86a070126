use Rattle.std.proofs.Common.{rules, ◌≡◌, ◌≢◌, true}
use Rattle.removal.specs.StoredGraph.{is_live}
use Rattle.removal.proofs.PreparedLive.{prepared_live}
use Rattle.tests_decisions.proofs.graphs.nets.prepare.Goals as goal

pub prepared_limit-requires : goal.prepared_limit-requires
prepared_limit-requires g c =
    let s = g.R.Remover.present c.args.net.now in
    let j_in : is_live (g.R.Remover.graph s) c.args.j ≡ true = search rules in
    let k_in : is_live (g.R.Remover.graph s) c.args.k ≡ true = search rules in
    let apart : c.args.k ≢ c.args.j = search rules in
    prepared_live g.met.R.Remover.exact s c.args.j c.args.k _ _
    (g.met.R.Remover.proper c.args.net.now) j_in c.in_ok-prepare.ensures.answer c.in_ok-prepare.ensures.prepared apart k_in
