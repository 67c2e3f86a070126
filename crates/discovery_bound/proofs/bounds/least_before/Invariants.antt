use Rattle.std.proofs.Common.{◌≡◌, ◌⊎◌, ℕ, ◌+◌, ◌^◌, ◌<◌, ◌≤◌, true}
use Rattle.std.specs.Prelude.{get_or}
use Rattle.field_core.specs.NumberedSets.{members}
use Rattle.discovery_bound.proofs.bounds.least_before.Given as goal

abbrev pub invariant-loop-k : goal.invariant-loop-k
invariant-loop-k l = record {
  least : (j o : ℕ) → j < l.k → members l.set j ≡ true → o + 2 ^ j ≡ l.set → l.least ≤ get_or l.bounds o 0;
  reached : (l.least ≡ 16) ⊎
      ((j : ℕ) × (o : ℕ) × (j < l.m) × (members l.set j ≡ true) × (o + 2 ^ j ≡ l.set) × (l.least ≡ get_or l.bounds o 0));
}
