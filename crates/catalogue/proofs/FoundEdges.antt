-- The edge of a draft between two hypotheses is that of the graph.
use Rattle.std.proofs.Common.{◌≡◌, ◌≢◌, refl, ap, ap₂, ◌∙◌, inl, inr, ℕ, zero, suc, ◌+◌, ◌==◌, ◌<◌, ◌≤◌, cond, List}
use Rattle.std.proofs.Common.{Bool, true, false, ◌&&◌, Option, Some, None, arith}
use Rattle.std.proofs.lemmas.Bool.Decides.{nat_tests}
use Rattle.std.proofs.lemmas.List.Folds.{find-append}
use Rattle.std.specs.List.{find, flat_map, range_with_len}
use Rattle.std.specs.Option.{option_or, option_map_or}
use Rattle.field_core.proofs.Live.{true_or_false}
use Rattle.field_core.specs.declared.ratio.Ratio.{Ratio}
use Rattle.case_model.specs.declared.draft_edge.DraftEdge.{DraftEdge}
use Rattle.case_model.specs.Draft.{has_ends}
use Rattle.case_model.specs.Entries.{no_edge}
use Rattle.case_model.specs.Content.{edge_between}
use Rattle.catalogue.specs.WeightedGraphs.{WeightedGraph, edge_with, edge_in, edges_from, edges_of}

-- ---- where only one place has what is looked for

or_none : {A : Type 0} (r : Option A) → option_or r None ≡ r
or_none None = refl
or_none (Some x) = refl

find_none : {A : Type 0} (test : A → Bool) (f : ℕ → List A) (a n : ℕ) → ((i : ℕ) → a ≤ i → find test (f i) ≡ None)
    → find test (flat_map f (range_with_len a n)) ≡ None
find_none test f a zero none = refl
find_none test f a (suc n) none =
    find-append test (f a) (flat_map f (range_with_len (a + 1) n))
    ∙ ap₂ option_or (none a (omega arith)) (find_none test f (a + 1) n (λ i h. none i (omega arith)))

find_block : {A : Type 0} (test : A → Bool) (f : ℕ → List A) (a n k : ℕ) → a ≤ k → k < a + n
    → ((i : ℕ) → i ≢ k → find test (f i) ≡ None) → find test (flat_map f (range_with_len a n)) ≡ find test (f k)
find_block test f a zero k h g others = absurd (omega arith)
find_block test f a (suc n) k h g others =
    find-append test (f a) (flat_map f (range_with_len (a + 1) n)) ∙ elim (true_or_false (a == k)) [
      | inl t ↦ (
          let e : a ≡ k = grind (arith, nat_tests) in
          ap (option_or (find test (f a))) (find_none test f (a + 1) n (λ i b. others i (omega arith))) ∙ or_none (find test (f a))
          ∙ ap (λ i. find test (f i)) e)
      | inr t ↦ (
          let e : a ≢ k = grind (arith, nat_tests) in
          ap (λ r. option_or r (find test (flat_map f (range_with_len (a + 1) n)))) (others a e)
          ∙ find_block test f (a + 1) n k (omega arith) (omega arith) others)
    ]

-- ---- edges

abbrev edge_of : ℕ → ℕ → List Ratio → DraftEdge
edge_of i j e = record { from = i; to = j; entry = e }

-- an edge with another end isn't found
other_from : (i k a j : ℕ) (o : Option (List Ratio)) → a ≢ i → find (has_ends i k) (edge_with a j o) ≡ None
other_from i k a j None h = refl
other_from i k a j (Some e) h = let t : (a == i) ≡ false = grind (arith, nat_tests) in ap (λ b. cond (b && (j == k)) (Some (edge_of a j e)) None) t

other_to : (i k j : ℕ) (o : Option (List Ratio)) → j ≢ k → find (has_ends i k) (edge_with i j o) ≡ None
other_to i k j None h = refl
other_to i k j (Some e) h =
    let s : (i == i) ≡ true = grind (arith, nat_tests) in
    let t : (j == k) ≡ false = grind (arith, nat_tests) in
    ap₂ (λ a b. cond (a && b) (Some (edge_of i j e)) None) s t

-- the entry of an edge, where there is one
pub entry_or : Option (List Ratio) → List Ratio
entry_or None = no_edge
entry_or (Some e) = e

pub entry_or-none : entry_or None ≡ no_edge
unfolding entry_or
entry_or-none = refl

pub entry_or-some : (e : List Ratio) → entry_or (Some e) ≡ e
unfolding entry_or
entry_or-some e = refl

the_edge : (i k : ℕ) (o : Option (List Ratio)) → option_map_or (λ (e : DraftEdge). e.entry) (find (has_ends i k) (edge_with i k o)) no_edge ≡ entry_or o
unfolding entry_or
the_edge i k None = refl
the_edge i k (Some e) =
    let s : (i == i) ≡ true = grind (arith, nat_tests) in
    let t : (k == k) ≡ true = grind (arith, nat_tests) in
    ap₂ (λ a b. option_map_or (λ (e : DraftEdge). e.entry) (cond (a && b) (Some (edge_of i k e)) None) no_edge) s t

pub graph_edge : (G : WeightedGraph) (i k : ℕ) → i < G.size → k < G.size → edge_between (edges_of G) i k ≡ entry_or (G.edge i k)
unfolding edge_between edges_of edges_from
graph_edge G i k h g =
    ap (λ r. option_map_or (λ (e : DraftEdge). e.entry) r no_edge)
    (find_block (has_ends i k) (edges_from G) 0 G.size i (omega arith) (omega arith)
    (λ a d. find_none (has_ends i k) (edge_in G a) 0 G.size (λ j b. other_from i k a j (G.edge a j) d))
    ∙ find_block (has_ends i k) (edge_in G i) 0 G.size k (omega arith) (omega arith) (λ j d. other_to i k j (G.edge i j) d))
    ∙ the_edge i k (G.edge i k)
