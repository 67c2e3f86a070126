-- The case of a named graph has exactly this graph, and these p-values.
use Rattle.std.proofs.Common.{◌≡◌, refl, ap, ◌∙◌, subst, ℕ, ◌<◌, List, [], ◌∷◌, length, map, Option, Some, None, Ok, true, arith}
use Rattle.std.proofs.lemmas.List.FromFn.{length-map-range_with_len, get_or-map-range_with_len}
use Rattle.std.specs.List.{range_with_len}
use Rattle.field_core.specs.Number.{Number}
use Rattle.field_core.specs.Arithmetic.{number_zero, number_one}
use Rattle.field_core.specs.Graph.{Graph}
use Rattle.field_core.specs.declared.ratio.Ratio.{Ratio}
use Rattle.field_core.specs.Exact.{value_of}
use Rattle.fraction.specs.View.{number_of}
use Rattle.fraction.specs.Laws.PlainLaws.{plain_is_exact}
use Rattle.case_model.specs.declared.draft.Draft.{Draft}
use Rattle.case_model.specs.declared.fault.CaseFault.{CaseFault}
use Rattle.case_model.specs.declared.inputs.Inputs.TheVariants.{Single}
use Rattle.case_model.specs.Sums.{ratio_at, zero_ratio, one_ratio}
use Rattle.case_model.specs.Entries.{entry_value, is_plain_entry, no_edge}
use Rattle.case_model.specs.CaseFaults.{case_fault}
use Rattle.case_model.specs.Content.{Content, content_of, entangled, given}
use Rattle.case_model.specs.TextbookGraphs.{IsAlone}
use Rattle.case_model.proofs.PlainEntries.{plain_entry_value}
use Rattle.case_model.proofs.TableEdges.{entry_at-table_of}
use Rattle.case_model.proofs.ValidGraphs.{number-zero}
use Rattle.catalogue.specs.NamedGraphs.{constant}
use Rattle.catalogue.specs.WeightedGraphs.{WeightedGraph, name_of, edges_of, draft_of}
use Rattle.catalogue.specs.Makings.{made, made_unless}
use Rattle.catalogue.proofs.FoundEdges.{entry_or, graph_edge}

-- ---- entries

pub number_of-one : number_of one_ratio ≡ number_one
unfolding value_of
number_of-one = plain_is_exact.one_value

pub plain_constant : (a : Ratio) → is_plain_entry (constant a) ≡ true
unfolding is_plain_entry
plain_constant a = refl

-- the value of a fraction as an edge, and of no edge
pub constant_value : (a : Ratio) → entry_value (constant a) ≡ number_of a
unfolding ratio_at
constant_value a = plain_entry_value (constant a) (plain_constant a)

pub no_edge_value : entry_value no_edge ≡ number_zero
no_edge_value = constant_value zero_ratio ∙ number-zero zero_ratio refl

-- ---- graphs

module _ (G : WeightedGraph) (alpha : Ratio) (ps : List Ratio) where
  pub as_many : (entangled (content_of (draft_of G alpha ps))).hypotheses ≡ G.size
  unfolding entangled content_of draft_of
  as_many = length-map-range_with_len name_of 0 G.size

  pub alone : (W : Graph Number) → ((i : ℕ) → i < G.size → number_of (G.weight i) ≡ W.weight i)
      → ((i k : ℕ) → i < G.size → k < G.size → entry_value (entry_or (G.edge i k)) ≡ W.edge i k)
      → IsAlone W (entangled (content_of (draft_of G alpha ps)))
  unfolding entangled content_of draft_of ratio_at
  alone W weights edges =
      let below : (i : ℕ) → i < length (map name_of (range_with_len 0 G.size))
      → i < G.size = λ i h. subst (λ n. i < n) (length-map-range_with_len name_of 0 G.size) h in
      record {
        one = refl;
        share = number_of-one;
        weight = λ i h. ap number_of (get_or-map-range_with_len G.weight 0 G.size i i zero_ratio (below i h) (omega arith)) ∙ weights i (below i h);
        edge = λ i k h g. ap entry_value
            (entry_at-table_of (length (map name_of (range_with_len 0 G.size))) (edges_of G) i k h g ∙ graph_edge G i k (below i h) (below k g))
            ∙ edges i k (below i h) (below k g);
      }

-- ---- p-values

given_some : (ps : List Ratio) → given (map Some ps) ≡ ps
unfolding given
given_some [] = refl
given_some (p ∷ ps) = ap (λ xs. p ∷ xs) (given_some ps)

pub inputs_are : (G : WeightedGraph) (alpha : Ratio) (ps : List Ratio) → ¬ (ps ≡ []) → (content_of (draft_of G alpha ps)).inputs ≡ Single ps
unfolding content_of draft_of
inputs_are G alpha [] some = absurd (some refl)
inputs_are G alpha (p ∷ ps) some = ap Single (given_some (p ∷ ps))

-- ---- what is made

pub record IsMade (d : Draft) (c : Content) : Type 0 where
  pub faultless : case_fault d ≡ None
  pub content : content_of d ≡ c

pub is_made : (d : Draft) (c : Content) → made d ≡ Ok c → IsMade d c
unfolding made
is_made d c h = by_fault (case_fault d) refl h
  where
    by_fault : (f : Option CaseFault) → case_fault d ≡ f → made_unless d f ≡ Ok c → IsMade d c
    by_fault None e g = record { faultless = e; content = cc }
    by_fault (Some fault) e g = absurd (cc)
