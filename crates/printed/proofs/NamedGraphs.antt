-- The cases of named graphs: they have whole entries, and on them the closed test decides as the rules.
use Rattle.sequential.specs.OtherPValues.{with_p}
use Rattle.std.proofs.Common.{◌≡◌, refl, ap, subst, ◌∙◌, ℕ, suc, ◌+◌, ◌-◌, ◌%◌, ◌==◌, ◌&&◌, Bool, true, false, cond}
use Rattle.std.proofs.Common.{List, [], length, Option, Some, None, Result, Ok, negsuc, arith}
use Rattle.std.specs.Prelude.{nat_lt}
use Rattle.std.specs.List.{list_all}
use Rattle.std.proofs.lemmas.List.{length-replicate}
use Rattle.field_core.specs.declared.ratio.Ratio.{Ratio}
use Rattle.case_model.specs.Content.{Content, content_of, has_coefficients}
use Rattle.case_model.specs.Sums.{one_ratio, zero_ratio}
use Rattle.case_model.specs.Draft.{ArePValues}
use Rattle.case_model.specs.Validity.{IsValidContent}
use Rattle.case_model.specs.declared.draft_edge.DraftEdge.{DraftEdge}
use Rattle.case_model.specs.declared.inputs.Inputs.TheVariants.{Bare}
use Rattle.catalogue.proofs.AloneCases.{is_made}
use Rattle.catalogue.proofs.KnownEnds.{all_flat, known_ends, known_arrivals}
use Rattle.catalogue.specs.Makings.{made, unless, holm_case, sequence_case, fallback_case, parallel_case, improved_case}
use Rattle.catalogue.specs.NamedGraphs.{linear, constant, part, holm_graph, next_edge, sequence_graph, fallback_graph, equal_weights, gate_edge, parallel_graph}
use Rattle.catalogue.specs.NamedGraphs.{back_edge, improved_graph}
use Rattle.catalogue.specs.Quotients.{quotient}
use Rattle.catalogue.specs.Sizes.{size_fault, sizes_fault}
use Rattle.catalogue.specs.WeightedGraphs.{WeightedGraph, names_of, edge_with, edge_in, edges_from, edges_of, draft_of}
use Rattle.catalogue.specs.declared.fault.CatalogueFault.{CatalogueFault}
use Rattle.command_words.specs.declared.graph_name.SizedGraph.{SizedGraph}
use Rattle.command_words.specs.declared.graph_name.SizedGraph.TheVariants.{Holm, FixedSequence, Fallback, Parallel, ImprovedParallel}
use Rattle.case_model.proofs.DraftValidity.{valid_of}
use Rattle.graph_cli.specs.Graphs.{named_case}
use Rattle.printed.specs.Catalogue.{graph_size}
use Rattle.printed.proofs.FilledCases.{filled_case}
use Rattle.printed.proofs.WholeDrafts.{whole_edge, IsWhole, whole_content}

-- ---- whole entries

-- an edge that may be there has a coefficient for each power
abbrev IsWholeEdge : Option (List Ratio) → Type 0
IsWholeEdge o = (i j : ℕ) → list_all whole_edge (edge_with i j o) ≡ true

none_whole : IsWholeEdge None
none_whole i j = refl

linear_whole : (a b : Ratio) → IsWholeEdge (Some (linear a b))
linear_whole a b i j = refl

either_whole : (t : Bool) (o p : Option (List Ratio)) → IsWholeEdge o → IsWholeEdge p → IsWholeEdge (cond t o p)
either_whole true o p h k = h
either_whole false o p h k = k

-- what each edge of a graph has, the edges of its draft have
pub all_edges : (test : DraftEdge → Bool) (G : WeightedGraph) → ((i j : ℕ) → list_all test (edge_in G i j) ≡ true) → list_all test (edges_of G) ≡ true
unfolding edges_of edges_from
all_edges test G each = all_flat test (edges_from G) 0 G.size G.size (omega arith) (λ i h.
    all_flat test (edge_in G i) 0 G.size G.size (omega arith) (λ j g. each i j))

module _ (G : WeightedGraph) (whole : (i j : ℕ) → IsWholeEdge (G.edge i j)) where
  pub graph_whole : (alpha : Ratio) (ps : List Ratio) → IsWhole (draft_of G alpha ps)
  unfolding draft_of
  graph_whole alpha ps = ap (λ b. b && true) (all_edges whole_edge G (λ i j. whole i j i j))

chain_whole : (i j : ℕ) → IsWholeEdge (next_edge i j)
chain_whole i j = either_whole (j == suc i) (Some (constant one_ratio)) None (linear_whole one_ratio zero_ratio) none_whole

holm_whole : (n i j : ℕ) → IsWholeEdge ((holm_graph n).edge i j)
unfolding holm_graph
holm_whole n i j = either_whole (i == j) None (Some (constant (part (n - 1)))) none_whole (linear_whole (part (n - 1)) zero_ratio)

sequence_whole : (n i j : ℕ) → IsWholeEdge ((sequence_graph n).edge i j)
unfolding sequence_graph
sequence_whole n i j = chain_whole i j

fallback_whole : (ws : List Ratio) (i j : ℕ) → IsWholeEdge ((fallback_graph ws).edge i j)
unfolding fallback_graph
fallback_whole ws i j = chain_whole i j

gate_whole : (a b : ℕ) (back : ℕ → ℕ → Option (List Ratio)) (on : List Ratio) → ((i j : ℕ) → IsWholeEdge (back i j)) → IsWholeEdge (Some on)
    → (i j : ℕ) → IsWholeEdge (gate_edge a b back on i j)
gate_whole a b back on h k i j =
    either_whole (nat_lt i a) _ _ (either_whole (nat_lt j a) None (Some (constant (part b))) none_whole (linear_whole (part b) zero_ratio))
    (either_whole (nat_lt j a) (back i j) _ (h i j) (either_whole (i == j) None (Some on) none_whole k))

parallel_whole : (a b i j : ℕ) → IsWholeEdge ((parallel_graph a b).edge i j)
unfolding parallel_graph
parallel_whole a b i j = gate_whole a b (λ i j. None) (constant (part (b - 1))) (λ i j. none_whole) (linear_whole (part (b - 1)) zero_ratio) i j

improved_whole : (a b i j : ℕ) → IsWholeEdge ((improved_graph a b).edge i j)
unfolding improved_graph
improved_whole a b i j =
    gate_whole a b (back_edge a) (linear (part (b - 1)) (quotient (negsuc 0) (b - 1)))
    (λ i j. either_whole (j == (i - a) % a) (Some (linear zero_ratio one_ratio)) None (linear_whole zero_ratio one_ratio) none_whole)
    (linear_whole (part (b - 1)) (quotient (negsuc 0) (b - 1))) i j

-- ---- what is made

-- nothing stands before what is made
pub record IsBehind (fault : Option CatalogueFault) (r : Result Content CatalogueFault) (c : Content) : Type 0 where
  pub none : fault ≡ None
  pub is : r ≡ Ok c

pub behind_is : (fault : Option CatalogueFault) (r : Result Content CatalogueFault) (c : Content) → unless fault r ≡ Ok c → IsBehind fault r c
behind_is None r c e = record { none = refl; is = e }
behind_is (Some fault) r c e = absurd (cc e)

-- a case that is made of a graph: valid, with a coefficient for each power, of the names and the level of the graph, and without p-values
pub record IsOfGraph (G : WeightedGraph) (alpha : Ratio) (c : Content) : Type 0 where
  pub valid : IsValidContent c
  pub whole : has_coefficients c.components ≡ true
  pub names : c.names ≡ names_of G.size
  pub level : c.alpha ≡ alpha
  pub bare : c.inputs ≡ Bare
  pub filled : (ps : List Ratio) → ArePValues (length c.names) ps → IsValidContent (with_p c ps)

module _ (G : WeightedGraph) (alpha : Ratio) where
  names_are : (content_of (draft_of G alpha [])).names ≡ names_of G.size
  unfolding content_of draft_of
  names_are = refl

  level_is : (content_of (draft_of G alpha [])).alpha ≡ alpha
  unfolding content_of draft_of
  level_is = refl

  bare_is : (content_of (draft_of G alpha [])).inputs ≡ Bare
  unfolding content_of draft_of
  bare_is = refl

  pub of_graph : (c : Content) → ((i j : ℕ) → IsWholeEdge (G.edge i j)) → made (draft_of G alpha []) ≡ Ok c → IsOfGraph G alpha c
  of_graph c whole h =
      let d = draft_of G alpha [] in
      let M = is_made d c h in
      subst (IsOfGraph G alpha) M.content (record {
        valid = valid_of d (known_ends G alpha []) (known_arrivals G alpha []) M.faultless;
        whole = whole_content d (graph_whole G whole alpha []);
        names = names_are;
        level = level_is;
        bare = bare_is;
        filled = λ ps h. filled_case G alpha ps M.faultless (subst (λ names. ArePValues (length names) ps) names_are h);
      })

-- the case of a named graph
pub record IsNamedCase (n : ℕ) (c : Content) : Type 0 where
  pub valid : IsValidContent c
  pub whole : has_coefficients c.components ≡ true
  pub names : c.names ≡ names_of n
  pub level : c.alpha ≡ part 20
  pub bare : c.inputs ≡ Bare
  pub filled : (ps : List Ratio) → ArePValues (length c.names) ps → IsValidContent (with_p c ps)

named : (G : WeightedGraph) (n : ℕ) (fault : Option CatalogueFault) (c : Content) → G.size ≡ n → ((i j : ℕ) → IsWholeEdge (G.edge i j))
    → unless fault (made (draft_of G (part 20) [])) ≡ Ok c → IsNamedCase n c
named G n fault c size whole h =
    let k = of_graph G (part 20) c whole (behind_is fault (made (draft_of G (part 20) [])) c h).is in
    record { valid = k.valid; whole = k.whole; names = k.names ∙ ap names_of size; level = k.level; bare = k.bare; filled = k.filled }

holm_size : (n : ℕ) → (holm_graph n).size ≡ n
unfolding holm_graph
holm_size n = refl

sequence_size : (n : ℕ) → (sequence_graph n).size ≡ n
unfolding sequence_graph
sequence_size n = refl

fallback_size : (n : ℕ) → (fallback_graph (equal_weights n)).size ≡ n
unfolding fallback_graph equal_weights
fallback_size n = length-replicate n (part n)

parallel_size : (a b : ℕ) → (parallel_graph a b).size ≡ a + b
unfolding parallel_graph
parallel_size a b = refl

improved_size : (a b : ℕ) → (improved_graph a b).size ≡ a + b
unfolding improved_graph
improved_size a b = refl

pub named_is : (graph : SizedGraph) (c : Content) → named_case graph ≡ Ok c → IsNamedCase (graph_size graph) c
unfolding named_case holm_case sequence_case fallback_case parallel_case improved_case
named_is (Holm n) c h = named (holm_graph n) n (size_fault n) c (holm_size n) (holm_whole n) h
named_is (FixedSequence n) c h = named (sequence_graph n) n (size_fault n) c (sequence_size n) (sequence_whole n) h
named_is (Fallback n) c h =
    let ws = equal_weights n in
    named (fallback_graph ws) n (size_fault (length ws)) c (fallback_size n) (fallback_whole ws) h
named_is (Parallel a b) c h = named (parallel_graph a b) (a + b) (sizes_fault a b) c (parallel_size a b) (parallel_whole a b) h
named_is (ImprovedParallel a b) c h = named (improved_graph a b) (a + b) (sizes_fault a b) c (improved_size a b) (improved_whole a b) h
