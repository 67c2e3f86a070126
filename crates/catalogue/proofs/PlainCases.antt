-- What each edge of a draft passes, the tables of its case pass. So the cases of Holm's graph, of the fixed sequence and of fallback have no edge with an
-- epsilon.
use Rattle.std.proofs.Common.{◌≡◌, refl, ap, ap₂, subst, ℕ, zero, suc, ◌+◌, ◌-◌, ◌*◌, ◌/◌, ◌%◌, ◌==◌, List, [], ◌∷◌}
use Rattle.std.proofs.Common.{map, Bool, true, false, cond}
use Rattle.std.proofs.Common.{◌&&◌, Option, Some, None, Ok, arith}
use Rattle.std.specs.List.{list_all, find, range_with_len}
use Rattle.std.specs.Option.{option_map_or}
use Rattle.field_core.specs.declared.ratio.Ratio.{Ratio}
use Rattle.case_model.specs.declared.draft_component.DraftComponent.{DraftComponent}
use Rattle.case_model.specs.declared.draft_edge.DraftEdge.{DraftEdge}
use Rattle.case_model.specs.Draft.{has_ends}
use Rattle.case_model.specs.Entries.{is_plain_entry, no_edge}
use Rattle.case_model.specs.Content.{Content, content_of, edge_between, table_of, tabled, is_plain}
use Rattle.case_model.specs.Sums.{one_ratio}
use Rattle.case_model.proofs.Holding.{both}
use Rattle.catalogue.specs.NamedGraphs.{constant, part, holm_graph, sequence_graph, fallback_graph}
use Rattle.catalogue.specs.WeightedGraphs.{WeightedGraph, edge_with, edge_in, edges_from, edges_of, draft_of}
use Rattle.catalogue.specs.Makings.{made}
use Rattle.catalogue.proofs.AloneCases.{plain_constant, is_made}
use Rattle.catalogue.proofs.KnownEnds.{all_flat}

-- ---- tables: what the entries of edges pass, those of the table pass, if no edge passes it

-- the entry of an edge, where there is one
abbrev entry_found : Option DraftEdge → List Ratio
entry_found o = option_map_or (λ (e : DraftEdge). e.entry) o no_edge

all_mapped : {A : Type 0} (test : A → Bool) (f : ℕ → A) (a n : ℕ) → ((k : ℕ) → test (f k) ≡ true) → list_all test (map f (range_with_len a n)) ≡ true
all_mapped test f a zero h = refl
all_mapped test f a (suc n) h = ap₂ ◌&&◌ (h a) (all_mapped test f (a + 1) n h)

module _ (test : List Ratio → Bool) (none : test no_edge ≡ true) where
  -- an edge has an entry that passes the test
  abbrev edge_passes : DraftEdge → Bool
  edge_passes e = test e.entry

  first_passes : (t : Bool) (e : DraftEdge) (o : Option DraftEdge) → edge_passes e ≡ true → test (entry_found o) ≡ true
      → test (entry_found (cond t (Some e) o)) ≡ true
  first_passes true e o h g = h
  first_passes false e o h g = g

  found_passes : (p : DraftEdge → Bool) (es : List DraftEdge) → list_all edge_passes es ≡ true → test (entry_found (find p es)) ≡ true
  found_passes p [] h = none
  found_passes p (e ∷ es) h =
      let b = both (edge_passes e) (list_all edge_passes es) h in first_passes (p e) e (find p es) b.left (found_passes p es b.right)

  between_passes : (es : List DraftEdge) (i j : ℕ) → list_all edge_passes es ≡ true → test (edge_between es i j) ≡ true
  unfolding edge_between
  between_passes es i j h = found_passes (has_ends i j) es h

  table_passes : (m : ℕ) (es : List DraftEdge) → list_all edge_passes es ≡ true → list_all test (table_of m es) ≡ true
  unfolding table_of
  table_passes m es h = all_mapped test (λ k. edge_between es (k / m) (k % m)) 0 (m * m) (λ k. between_passes es (k / m) (k % m) h)

  pub tables_pass : (m : ℕ) (ks : List DraftComponent) → list_all (λ (k : DraftComponent). list_all edge_passes k.edges) ks ≡ true
      → list_all (λ k. list_all test k.edges) (map (tabled m) ks) ≡ true
  tables_pass m [] h = refl
  tables_pass m (k ∷ ks) h =
      let b = both (list_all edge_passes k.edges) (list_all (λ (k : DraftComponent). list_all edge_passes k.edges) ks) h in
      ap₂ ◌&&◌ (table_passes m k.edges b.left) (tables_pass m ks b.right)

-- an edge without coefficients above power 0
abbrev pub plain_edge : DraftEdge → Bool
plain_edge e = is_plain_entry e.entry

pub no_edge_plain : is_plain_entry no_edge ≡ true
unfolding is_plain_entry
no_edge_plain = refl

-- ---- cases

module _ (G : WeightedGraph) (plain : (i j : ℕ) → list_all plain_edge (edge_in G i j) ≡ true) where
  edges_plain : list_all plain_edge (edges_of G) ≡ true
  unfolding edges_of edges_from
  edges_plain = all_flat plain_edge (edges_from G) 0 G.size G.size (omega arith) (λ i h.
      all_flat plain_edge (edge_in G i) 0 G.size G.size (omega arith) (λ j g. plain i j))

  plain_case : (alpha : Ratio) (ps : List Ratio) → is_plain (content_of (draft_of G alpha ps)) ≡ true
  unfolding is_plain content_of draft_of
  plain_case alpha ps = ap (λ b. b && true) (table_passes is_plain_entry no_edge_plain _ (edges_of G) edges_plain)

  plain_made : (alpha : Ratio) (ps : List Ratio) (c : Content) → made (draft_of G alpha ps) ≡ Ok c → is_plain c ≡ true
  plain_made alpha ps c h = subst (λ k. is_plain k ≡ true) (is_made (draft_of G alpha ps) c h).content (plain_case alpha ps)

-- ---- graphs

constant_plain : (i j : ℕ) (a : Ratio) → list_all plain_edge (edge_with i j (Some (constant a))) ≡ true
constant_plain i j a = ap (λ b. b && true) (plain_constant a)

constant_where : (i j : ℕ) (a : Ratio) (t : Bool) → list_all plain_edge (edge_with i j (cond t (Some (constant a)) None)) ≡ true
constant_where i j a true = constant_plain i j a
constant_where i j a false = refl

constant_unless : (i j : ℕ) (a : Ratio) (t : Bool) → list_all plain_edge (edge_with i j (cond t None (Some (constant a)))) ≡ true
constant_unless i j a true = refl
constant_unless i j a false = constant_plain i j a

pub holm_plain : (n : ℕ) (alpha : Ratio) (ps : List Ratio) (c : Content) → made (draft_of (holm_graph n) alpha ps) ≡ Ok c → is_plain c ≡ true
unfolding holm_graph
holm_plain n = plain_made (holm_graph n) (λ i j. constant_unless i j (part (n - 1)) (i == j))

pub sequence_plain : (n : ℕ) (alpha : Ratio) (ps : List Ratio) (c : Content) → made (draft_of (sequence_graph n) alpha ps) ≡ Ok c → is_plain c ≡ true
unfolding sequence_graph
sequence_plain n = plain_made (sequence_graph n) (λ i j. constant_where i j one_ratio (j == suc i))

pub fallback_plain_case : (ws : List Ratio) (alpha : Ratio) (ps : List Ratio) (c : Content) → made (draft_of (fallback_graph ws) alpha ps) ≡ Ok c
    → is_plain c ≡ true
unfolding fallback_graph
fallback_plain_case ws = plain_made (fallback_graph ws) (λ i j. constant_where i j one_ratio (j == suc i))
