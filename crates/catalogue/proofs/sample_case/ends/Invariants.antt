use Rattle.std.proofs.Common.{◌≡◌, ℕ, ◌+◌, ◌*◌, map}
use Rattle.std.specs.List.{range_with_len}
use Rattle.catalogue.specs.Samples.{number_after, ends_of}
use Rattle.catalogue.proofs.sample_case.ends.Given as goal

abbrev pub invariant-hypotheses : goal.invariant-hypotheses
invariant-hypotheses l = (seed : ℕ) → l.fn.generator.number ≡ number_after seed l.size → (l.ends ≡ map (ends_of l.size seed) (range_with_len 0 l.i))
    × (l.generator.number ≡ number_after seed (l.size + 2 * l.i))
