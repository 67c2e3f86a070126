use Rattle.std.proofs.Common.{◌≡◌}
use Rattle.std.specs.Prelude.{replicate}
use Rattle.catalogue.specs.NamedGraphs.{part}
use Rattle.catalogue.proofs.chains.equal_weights.Given as goal

abbrev pub invariant-places : goal.invariant-places
invariant-places l = l.weights ≡ replicate l.counter (part l.n)
