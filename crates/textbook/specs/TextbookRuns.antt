-- Written removals on the graphs of textbook rules.
use Rattle.std.specs.Prelude.{◌≡◌, ◌≢◌, ◌≤◌, ◌<◌, ◌+◌, ℕ, zero, suc, pos, List, [], ◌∷◌, Ok}
use Rattle.field_core.specs.Number.{Number}
use Rattle.field_core.specs.Fractions.{fraction}
use Rattle.field_core.specs.Graph.{Graph}
use Rattle.field_core.specs.Sets.{whole}
use Rattle.field_core.specs.Runs.{IsOrder}
use Rattle.field_core.specs.Exact.{value_of}
use Rattle.fraction.specs.Plain.{plain, IsFraction}
use Rattle.case_model.specs.TextbookGraphs.{equal_graph, chain_graph, first_alone}
use Rattle.case_model.specs.Sums.{one_ratio}
use Rattle.removal.specs.StoredGraph.{StoredGraph, AreAllLive, size, weight, edge}
use Rattle.removal.specs.ByValue.{AreStored}
use Rattle.removal.specs.WrittenRemoval.{written_removal}
use Rattle.removal.specs.InTurn.{removed_in_turn}
use Rattle.entangled.specs.Bundled.{Bundled}
use Rattle.entangled.specs.BundleRun.{opened_after}
use Rattle.textbook.specs.Gatekeeping.{gatekeeping_graph}

-- all hypotheses remain, all numbers are fractions in lowest terms, and by value they are those of `G`
pub record Stores (G : Graph Number) (S : StoredGraph) : Type 0 where
  pub stored : AreStored plain IsFraction S
  pub live : AreAllLive S
  pub weight_is : (l : ℕ) → l < size S → value_of (weight plain S l) ≡ G.weight l
  pub edge_is : (l k : ℕ) → l < size S → k < size S → l ≢ k → value_of (edge plain S l k) ≡ G.edge l k

-- removals of distinct hypotheses, in whatever order, are never refused
abbrev pub IsNeverRefused : StoredGraph → Type 0
IsNeverRefused S = (js : List ℕ) → IsOrder (size S) whole js → (T : StoredGraph) × (removed_in_turn (written_removal plain) S js ≡ Ok T)

-- In a bundle of this one net with share 1, no removals of distinct hypotheses are refused, and no levels.
abbrev pub IsNeverRefusedAlone : StoredGraph → Type 0
IsNeverRefusedAlone S =
    (js : List ℕ) → IsOrder (size S) whole js
    → (b : Bundled StoredGraph) × (opened_after plain (λ G. G) (written_removal plain) (S ∷ []) (one_ratio ∷ []) js ≡ Ok b)

-- On Holm's graph no removal is refused.
abbrev pub HolmRemovalsAreDefined : Type 0
HolmRemovalsAreDefined = (S : StoredGraph) → Stores (equal_graph (size S)) S → IsNeverRefused S × IsNeverRefusedAlone S

-- the sum of the first `n`
unfoldable pub total : (ℕ → ℕ) → ℕ → ℕ
total a zero = 0
total a (suc n) = total a n + a n

-- On a chain whose weights have a common denominator of at most 100,000,000 and sum to at most 1, no removal is refused.
abbrev pub FallbackRemovalsAreDefined : Type 0
FallbackRemovalsAreDefined =
    (S : StoredGraph) (a : ℕ → ℕ) (d : ℕ) → d < 100000000 → total a (size S) ≤ suc d
    → Stores (chain_graph (λ i. fraction (pos (a i)) (pos (suc d)))) S → IsNeverRefused S × IsNeverRefusedAlone S

-- On the chain of a fixed sequence no removal is refused.
abbrev pub SequenceRemovalsAreDefined : Type 0
SequenceRemovalsAreDefined = (S : StoredGraph) → Stores (chain_graph first_alone) S → IsNeverRefused S × IsNeverRefusedAlone S

-- On the graph of parallel gatekeeping no removal is refused.
abbrev pub GatekeepingRemovalsAreDefined : Type 0
GatekeepingRemovalsAreDefined =
    (S : StoredGraph) (a b : ℕ) → size S ≡ a + b → Stores (gatekeeping_graph a b) S → IsNeverRefused S × IsNeverRefusedAlone S
