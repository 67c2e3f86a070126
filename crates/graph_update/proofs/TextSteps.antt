-- Which lines there are, by what is tested.
use Rattle.std.proofs.Common.{◌≡◌, refl, sym, ap, ◌∙◌, ℕ, ◌+◌, ◌<◌, ◌&&◌, not, Bool, true, false, List, [], ◌∷◌, ◌++◌, map, length, Some, if◌then◌else◌}
use Rattle.std.specs.Prelude.{slice_get}
use Rattle.std.specs.List.{All, flat_map, range_with_len}
use Rattle.std.proofs.lemmas.List.{get_or-map}
use Rattle.std.proofs.lemmas.Option.{get_or_from_slice_get}
use Rattle.field_core.specs.Kind.{Parts, Kind, is_zero}
use Rattle.fraction.specs.Spelling.{spelling}
use Rattle.field_core.specs.Terms.{Terms}
use Rattle.removal.specs.StoredGraph.{StoredGraph, size, is_live, weight, edge, no_graph}
use Rattle.entangled.specs.CaseRun.{CaseState, is_live_in_case, case_level}
use Rattle.graph_update.specs.UpdateText.{weight_words, edge_words, level_words, component_words, end_words}
use Rattle.graph_update.specs.UpdateText.{edge_lines, hypothesis_lines, graph_lines, component_lines, level_lines, levels_lines, components_lines, update_lines, update_text}
use Rattle.text_lines.specs.Spelling.{text_of}
use Rattle.graph_update.specs.UpdateText.{line_text}
use Rattle.graph_update.proofs.Lines.{text_one, text_append}

-- which of two there is, by a test
then_is : {A : Type 0} (b : Bool) (x y : A) → b ≡ true → (if b then x else y) ≡ x
then_is true x y e = refl
then_is false x y e = absurd (cc)

else_is : {A : Type 0} (b : Bool) (x y : A) → b ≡ false → (if b then x else y) ≡ y
else_is true x y e = absurd (cc)
else_is false x y e = refl

not_both : (a b : Bool) → b ≡ true → (a && not b) ≡ false
not_both true b e = rw e refl
not_both false b e = refl

both : (a b : Bool) → a ≡ true → b ≡ false → (a && not b) ≡ true
both a b e f = rw (e, f) refl

gone : (a b : Bool) → a ≡ false → (a && not b) ≡ false
gone a b e = rw e refl

module _ (names : List (List ℕ)) (K : Kind) (text : Parts → List ℕ) where
  module _ (G : StoredGraph) where
    -- no edge to one that is removed, and none that is 0
    pub edge_to_removed : (l k : ℕ) → is_live G k ≡ false → edge_lines names K text G l k ≡ []
    unfolding edge_lines
    edge_to_removed l k e = else_is _ _ _ (gone (is_live G k) (is_zero (edge K G l k)) e)

    pub edge_of_zero : (l k : ℕ) → is_zero (edge K G l k) ≡ true → edge_lines names K text G l k ≡ []
    unfolding edge_lines
    edge_of_zero l k e = else_is _ _ _ (not_both (is_live G k) (is_zero (edge K G l k)) e)

    pub edge_put : (l k : ℕ) → is_live G k ≡ true → is_zero (edge K G l k) ≡ false
        → edge_lines names K text G l k ≡ edge_words names l k (text (edge K G l k)) ∷ []
    unfolding edge_lines
    edge_put l k e f = then_is _ _ _ (both (is_live G k) (is_zero (edge K G l k)) e f)

    -- no line of one that is removed
    pub hypothesis_removed : (l : ℕ) → is_live G l ≡ false → hypothesis_lines names K text G l ≡ []
    unfolding hypothesis_lines
    hypothesis_removed l e = else_is _ _ _ e

    pub hypothesis_put : (l : ℕ) → is_live G l ≡ true
        → hypothesis_lines names K text G l ≡ weight_words names l (text (weight K G l)) ∷ flat_map (edge_lines names K text G l) (range_with_len 0 (length names))
    unfolding hypothesis_lines
    hypothesis_put l e = then_is _ _ _ e

  -- the lines of a net at a place
  pub component_put : {S : Type 0} (graph : S → StoredGraph) (states : List S) (c : ℕ) (s : S) → slice_get states c ≡ Some s → c < length states
      → component_lines names K text (map graph states) c ≡ component_words (c + 1) ∷ graph_lines names K text (graph s)
  unfolding component_lines
  component_put graph states c s e p =
      ap (λ G. component_words (c + 1) ∷ graph_lines names K text G)
      (get_or-map graph states c s no_graph p ∙ ap graph (get_or_from_slice_get states c s s e))

-- the size of a net at a place
pub size_of_net : {S : Type 0} (graph : S → StoredGraph) (states : List S) (n m c : ℕ) (s : S) → slice_get states c ≡ Some s → c < length states
    → All (λ s. size (graph s) ≡ n) states → n ≡ m → size (graph s) ≡ m
size_of_net graph states n m c s e p each same = ap (λ s. size (graph s)) (sym (get_or_from_slice_get states c s s e)) ∙ each c s p ∙ same

module _ (names : List (List ℕ)) where
  -- no level of one that is removed
  pub level_removed : (I : ℕ → Bool) (level : ℕ → Terms) (k : ℕ) → I k ≡ false → level_lines names I level k ≡ []
  unfolding level_lines
  level_removed I level k e = else_is _ _ _ e

  pub level_put : (I : ℕ → Bool) (level : ℕ → Terms) (k : ℕ) → I k ≡ true → level_lines names I level k ≡ level_words names k (spelling (level k)) ∷ []
  unfolding level_lines
  level_put I level k e = then_is _ _ _ e

  -- the whole text: the components, the levels, and the end
  pub whole_text : (s : CaseState) (first second third : List ℕ) → first ≡ [] ++ text_of (components_lines names s)
      → second ≡ first ++ text_of (levels_lines names (is_live_in_case s) (case_level s)) → third ≡ second ++ line_text end_words
      → third ≡ update_text names s
  unfolding update_text update_lines
  whole_text s first second third a b c =
      let C = components_lines names s in
      let L = levels_lines names (is_live_in_case s) (case_level s) in
      c ∙ ap (λ t. t ++ line_text end_words) (b ∙ ap (λ t. t ++ text_of L) a ∙ sym (text_append C L))
      ∙ ap (λ t. text_of (C ++ L) ++ t) (sym (text_one end_words)) ∙ sym (text_append (C ++ L) (end_words ∷ []))
