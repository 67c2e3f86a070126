-- The edges of named graphs go between their hypotheses.
use Rattle.std.proofs.Common.{◌≡◌, refl, ap, ◌∙◌, ℕ, zero, suc, ◌+◌, ◌<◌, List, length, Bool, true}
use Rattle.std.proofs.Common.{◌&&◌, Option, Some, None, arith}
use Rattle.std.proofs.lemmas.Bool.Decides.{nat_tests}
use Rattle.std.proofs.lemmas.List.FromFn.{length-map-range_with_len}
use Rattle.std.specs.List.{list_all, flat_map, range_with_len}
use Rattle.case_model.proofs.Holding.{all_append}
use Rattle.case_model.specs.Draft.{goes_between, have_known_ends, have_known_arrivals}
use Rattle.field_core.specs.declared.ratio.Ratio.{Ratio}
use Rattle.catalogue.specs.WeightedGraphs.{WeightedGraph, name_of, edge_with, edge_in, edges_from, edges_of, draft_of}

-- what holds of what each of `n` places from `a` on gives, holds of all
pub all_flat : {A : Type 0} (test : A → Bool) (f : ℕ → List A) (a n m : ℕ) → a + n ≡ m → ((i : ℕ) → i < m → list_all test (f i) ≡ true)
    → list_all test (flat_map f (range_with_len a n)) ≡ true
all_flat test f a zero m e h = refl
all_flat test f a (suc n) m e h = all_append test (f a) (flat_map f (range_with_len (a + 1) n)) (h a (omega arith))
    (all_flat test f (a + 1) n m (omega arith) h)

known_edge : (n i j : ℕ) (e : Option (List Ratio)) → i < n → j < n → list_all (goes_between n) (edge_with i j e) ≡ true
known_edge n i j None h k = refl
known_edge n i j (Some e) h k = grind (arith, nat_tests)

pub known_edges : (G : WeightedGraph) → list_all (goes_between G.size) (edges_of G) ≡ true
unfolding edges_of edges_from
known_edges G = all_flat (goes_between G.size) (edges_from G) 0 G.size G.size (omega arith) (λ i h.
    all_flat (goes_between G.size) (edge_in G i) 0 G.size G.size (omega arith) (λ j k. known_edge G.size i j (G.edge i j) h k))

pub as_many_names : (G : WeightedGraph) (alpha : Ratio) (ps : List Ratio) → length (draft_of G alpha ps).names ≡ G.size
unfolding draft_of
as_many_names G alpha ps = length-map-range_with_len name_of 0 G.size

pub known_ends : (G : WeightedGraph) (alpha : Ratio) (ps : List Ratio) → have_known_ends (draft_of G alpha ps) ≡ true
unfolding draft_of have_known_ends
known_ends G alpha ps = ap (λ n. list_all (goes_between n) (edges_of G) && true) (as_many_names G alpha ps) ∙ ap (λ b. b && true) (known_edges G)

pub known_arrivals : (G : WeightedGraph) (alpha : Ratio) (ps : List Ratio) → have_known_arrivals (draft_of G alpha ps) ≡ true
unfolding draft_of have_known_arrivals
known_arrivals G alpha ps = refl
