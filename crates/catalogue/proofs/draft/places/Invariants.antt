use Rattle.std.proofs.Common.{◌≡◌, Some, map, take}
use Rattle.catalogue.proofs.draft.places.Given as goal

abbrev pub invariant-loop-value : goal.invariant-loop-value
invariant-loop-value l = l.places ≡ map Some (take l.value-index l.p)
