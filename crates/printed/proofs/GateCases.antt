-- The case of parallel gatekeeping has the graph of its rule, and no edge with an epsilon.
use Rattle.std.proofs.Common.{◌≡◌, ◌≢◌, refl, ap, ◌∙◌, subst, ℕ, ◌+◌, ◌-◌, ◌==◌, ◌<◌, ◌≤◌, ◌&&◌, Bool, true, false, cond, arith, lit<}
use Rattle.std.proofs.Common.{List, ◌^◌, Option, Some, None, Ok}
use Rattle.std.specs.Prelude.{nat_lt}
use Rattle.std.specs.List.{list_all}
use Rattle.std.proofs.lemmas.Bool.Decides.{nat_tests}
use Rattle.field_core.specs.Arithmetic.{number_zero}
use Rattle.field_core.specs.Fractions.{one_over}
use Rattle.field_core.specs.Number.{Number}
use Rattle.field_core.specs.declared.ratio.Ratio.{Ratio}
use Rattle.fraction.specs.View.{number_of}
use Rattle.case_model.specs.Content.{Content, content_of, entangled, is_plain}
use Rattle.case_model.specs.Entries.{entry_value}
use Rattle.case_model.specs.Sums.{zero_ratio}
use Rattle.case_model.specs.TextbookGraphs.{IsAlone}
use Rattle.case_model.proofs.ValidGraphs.{number-zero}
use Rattle.catalogue.specs.Makings.{made}
use Rattle.catalogue.specs.NamedGraphs.{constant, part, gate_edge, parallel_graph}
use Rattle.catalogue.specs.WeightedGraphs.{edge_with, edge_in, draft_of}
use Rattle.catalogue.proofs.AloneCases.{plain_constant, constant_value, alone, as_many, is_made}
use Rattle.catalogue.proofs.FoundEdges.{entry_or, entry_or-some}
use Rattle.catalogue.proofs.PlainCases.{plain_edge}
use Rattle.catalogue.proofs.RatiosOf.{part_value}
use Rattle.catalogue.proofs.Textbooks.{none_value}
use Rattle.textbook.specs.Gatekeeping.{gatekeeping_graph, IsGatekeepingGraph}
use Rattle.printed.proofs.NamedGraphs.{all_edges}
use Rattle.printed.proofs.WholeDrafts.{plain_content}

-- ---- weights and edges by their values

part_edge : (n : ℕ) → 0 < n → n < 2 ^ 127 → entry_value (entry_or (Some (constant (part n)))) ≡ one_over n
part_edge n some few = ap entry_value (entry_or-some (constant (part n))) ∙ constant_value (part n) ∙ part_value n some few

short : (n : ℕ) → n ≤ 64 → n < 2 ^ 127
short n h = let k : 64 < 2 ^ 127 = lit< tt in omega (arith, h, k)

module _ (a b : ℕ) (few : a + b ≤ 64) where
  weight_value : (i : ℕ) (t : Bool) → nat_lt i a ≡ t → number_of (cond t (part a) zero_ratio) ≡ cond t (one_over a) number_zero
  weight_value i true e = let h : i < a = grind (arith, nat_tests) in part_value a (omega (arith, h)) (short a (omega (arith, few)))
  weight_value i false e = number-zero zero_ratio refl

  -- the edge of the named graph, and that of the rule's graph, by the families of both ends
  abbrev named_edge : Bool → Bool → Bool → Option (List Ratio)
  named_edge t u v =
      cond t (cond u None (Some (constant (part b)))) (cond u None (cond v None (Some (constant (part (b - 1))))))

  abbrev rule_edge : Bool → Bool → Bool → Number
  rule_edge t u v = cond u number_zero (cond t (one_over b) (cond v number_zero (one_over (b - 1))))

  edge_value : (i k : ℕ) → i < a + b → k < a + b → (t u v : Bool) → nat_lt i a ≡ t → nat_lt k a ≡ u → (i == k) ≡ v
      → entry_value (entry_or (named_edge t u v)) ≡ rule_edge t u v
  edge_value i k p q true true v e f g = none_value
  edge_value i k p q true false v e f g =
      let h : i < a = grind (arith, nat_tests) in
      let n : a ≤ k = grind (arith, nat_tests) in
      part_edge b (omega (arith, n, q)) (short b (omega (arith, few)))
  edge_value i k p q false true v e f g = none_value
  edge_value i k p q false false true e f g = none_value
  edge_value i k p q false false false e f g =
      let h : a ≤ i = grind (arith, nat_tests) in
      let n : a ≤ k = grind (arith, nat_tests) in
      let d : i ≢ k = grind (arith, nat_tests) in
      part_edge (b - 1) (omega (arith, h, n, d, p, q)) (short (b - 1) (omega (arith, few)))

  parallel_is : (alpha : Ratio) (ps : List Ratio) → IsAlone (gatekeeping_graph a b) (entangled (content_of (draft_of (parallel_graph a b) alpha ps)))
  unfolding parallel_graph
  parallel_is alpha ps =
      alone (parallel_graph a b) alpha ps (gatekeeping_graph a b) (λ i h. weight_value i (nat_lt i a) refl)
      (λ i k h g. edge_value i k h g (nat_lt i a) (nat_lt k a) (i == k) refl refl refl)

  size_is : (alpha : Ratio) (ps : List Ratio) → (entangled (content_of (draft_of (parallel_graph a b) alpha ps))).hypotheses ≡ a + b
  unfolding parallel_graph
  size_is alpha ps = as_many (parallel_graph a b) alpha ps

  pub parallel_made : (alpha : Ratio) (ps : List Ratio) (c : Content) → made (draft_of (parallel_graph a b) alpha ps) ≡ Ok c
      → IsGatekeepingGraph a b (entangled c)
  parallel_made alpha ps c h =
      subst (λ k. IsGatekeepingGraph a b (entangled k)) (is_made (draft_of (parallel_graph a b) alpha ps) c h).content
      (record { families = size_is alpha ps; graph = parallel_is alpha ps })

-- ---- no epsilon

-- an edge that may be there has no epsilon
abbrev IsPlainEdge : Option (List Ratio) → Type 0
IsPlainEdge o = (i j : ℕ) → list_all plain_edge (edge_with i j o) ≡ true

none_plain : IsPlainEdge None
none_plain i j = refl

constant_plain : (a : Ratio) → IsPlainEdge (Some (constant a))
constant_plain a i j = ap (λ b. b && true) (plain_constant a)

either_plain : (t : Bool) (o p : Option (List Ratio)) → IsPlainEdge o → IsPlainEdge p → IsPlainEdge (cond t o p)
either_plain true o p h k = h
either_plain false o p h k = k

edges_plain : (a b i j : ℕ) → IsPlainEdge (gate_edge a b (λ i j. None) (constant (part (b - 1))) i j)
edges_plain a b i j =
    either_plain (nat_lt i a) _ _ (either_plain (nat_lt j a) None (Some (constant (part b))) none_plain (constant_plain (part b)))
    (either_plain (nat_lt j a) None _ none_plain (either_plain (i == j) None (Some (constant (part (b - 1)))) none_plain (constant_plain (part (b - 1)))))

graph_plain : (a b : ℕ) (i j : ℕ) → list_all plain_edge (edge_in (parallel_graph a b) i j) ≡ true
unfolding parallel_graph
graph_plain a b i j = edges_plain a b i j i j

draft_plain : (a b : ℕ) (alpha : Ratio) (ps : List Ratio) → is_plain (content_of (draft_of (parallel_graph a b) alpha ps)) ≡ true
unfolding draft_of
draft_plain a b alpha ps =
    plain_content (draft_of (parallel_graph a b) alpha ps) (ap (λ t. t && true) (all_edges plain_edge (parallel_graph a b) (graph_plain a b)))

pub parallel_plain : (a b : ℕ) (alpha : Ratio) (ps : List Ratio) (c : Content) → made (draft_of (parallel_graph a b) alpha ps) ≡ Ok c → is_plain c ≡ true
parallel_plain a b alpha ps c h =
    subst (λ k. is_plain k ≡ true) (is_made (draft_of (parallel_graph a b) alpha ps) c h).content (draft_plain a b alpha ps)
