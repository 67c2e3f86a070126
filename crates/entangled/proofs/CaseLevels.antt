-- The levels of a case after removals in turn are the intersection weights.
use Rattle.std.proofs.Common.{◌≡◌, sym, ap, subst, ◌∙◌, ℕ, ◌<◌, List, length, map, get_or, Ok}
use Rattle.std.specs.List.{All}
use Rattle.std.proofs.Math.ListN.{get_or-map as map_at}
use Rattle.std.proofs.lemmas.List.{length-map, get_or-map}
use Rattle.std.proofs.lemmas.List.Elements.{All-from_get_or}
use Rattle.field_core.specs.Terms.{IsReduced}
use Rattle.field_core.specs.declared.ratio.Ratio.{Ratio}
use Rattle.field_core.specs.Sets.{IsIn, whole}
use Rattle.field_core.specs.Runs.{IsOrder, left_after}
use Rattle.field_core.specs.Kind.{Kind}
use Rattle.field_core.proofs.SameBelow.{SameBelow}
use Rattle.fraction.specs.View.{number_of}
use Rattle.case_model.specs.Sums.{number, ratio_at, number_at}
use Rattle.case_model.specs.IntersectionWeight.{IsIntersectionWeight}
use Rattle.case_model.specs.Content.{Content, component_at, empty_component, entangled, graph_of as graph_of_component}
use Rattle.case_model.specs.Validity.{IsValidContent}
use Rattle.case_model.proofs.ValidContents.{HasShape, shape}
use Rattle.case_numbers.specs.Numbers.{Numbers, numbers_of, CanRunIn, kind_of, IsStoredIn}
use Rattle.case_numbers.proofs.LoadedNumbers.{exact_in}
use Rattle.case_numbers.proofs.Components.{can_run}
use Rattle.removal.specs.StoredGraph.{size as graph_size, AreAllLive}
use Rattle.removal.specs.ByValue.{graph_of, IsSound}
use Rattle.entangled.specs.Bundled.{Bundled, states_size}
use Rattle.entangled.specs.BundleRun.{opened_after, AreReady, by_value, empty_graph}
use Rattle.entangled.specs.States.{state_in, graph_in, IsProperIn, removal_in}
use Rattle.entangled.specs.Loading.{loaded_states}
use Rattle.entangled.specs.CaseRun.{CaseState, state_of, case_size, is_live_in_case, case_level}
use Rattle.entangled.specs.CaseAfter.{case_after}
use Rattle.entangled.specs.LevelStatements.{LevelsAreWeights, LiveAreLeft, SizesStay, LevelsAreLowest}
use Rattle.entangled.proofs.Alike.{size_at}
use Rattle.entangled.proofs.BundleLevels.{levels_are_weights, live_are_left, sizes_stay, levels_are_lowest}
use Rattle.entangled.proofs.CaseStates.{no_state, IsStateOf, AreStatesOf, states_are, removal_exact}
use Rattle.entangled.proofs.CaseSteps.{IsRunOf, is_run}
use Rattle.entangled.proofs.SameEntangled.{AreSame, weight_of_same}

-- ---- the nets of a case

module _ (c : Content) (V : IsValidContent c) (n : Numbers) (P : CanRunIn n c) (states : List (state_in n))
    (O : loaded_states n (length c.names) c.components ≡ Ok states) where
  abbrev m : ℕ
  m = length c.names

  abbrev K : Kind
  K = kind_of n

  abbrev shares : List Ratio
  shares = map (λ k. k.share) c.components

  H : HasShape c
  H = shape c V

  A : AreStatesOf n c states
  A = states_are n c V P states O

  -- what holds of the state of each component holds of each state
  each_state : (Q : state_in n → Type 0) → ((i : ℕ) (s : state_in n) → IsStateOf n m (component_at c.components i) s → Q s) → All Q states
  each_state Q h = All-from_get_or Q states (no_state n) (λ i p. h i _ (A.each i (subst (λ n. i < n) A.as_many p)))

  some_states : 0 < length states
  some_states = subst (λ n. 0 < n) (sym A.as_many) H.some_components

  pub size_is : states_size (graph_in n) states ≡ length c.names
  size_is = size_at (graph_in n) states (no_state n) some_states ∙ (A.each 0 H.some_components).graph.size

  -- the nets of the case can be opened
  pub ready : AreReady (kind_of n) (graph_in n) (IsProperIn n) states (map (λ k. k.share) c.components)
  ready = record {
    some = some_states;
    share_count = length-map c.components (λ k. k.share) ∙ sym A.as_many;
    same_size = each_state (λ s. graph_size (graph_in n s) ≡ states_size (graph_in n) states) (λ i s g. g.graph.size ∙ sym size_is);
    proper = each_state (IsProperIn n) (λ i s g. g.proper);
    live = each_state (λ s. AreAllLive (graph_in n s)) (λ i s g. g.graph.live);
    sound = each_state (λ s. IsSound K (graph_in n s)) (λ i s g. g.graph.sound);
  }

  graph_at : (i : ℕ) → i < length c.components → get_or (map (λ s. graph_of K (graph_in n s)) states) i empty_graph ≡ graph_of K
      (graph_in n (get_or states i (no_state n)))
  graph_at i p = get_or-map (λ s. graph_of K (graph_in n s)) states i (no_state n) empty_graph (subst (λ n. i < n) (sym A.as_many) p)

  share_at : (i : ℕ) → number_at shares i ≡ number_of (component_at c.components i).share
  unfolding ratio_at
  share_at i = ap number_of (map_at (λ k. k.share) c.components i empty_component)

  -- the nets are those of the entangled graph of the case
  pub same : AreSame (by_value (kind_of n) (graph_in n) states (map (λ k. k.share) c.components)) (entangled c)
  unfolding by_value entangled
  same = record {
    hypotheses = size_is;
    components = A.as_many;
    share = λ i p. share_at i;
    graph = λ i p. subst (λ B. SameBelow m B (graph_of_component m (component_at c.components i))) (sym (graph_at i p)) (A.each i p).graph.same;
  }

  within : (k : ℕ) → k < m → k < (entangled c).hypotheses
  unfolding entangled
  within k p = p

  module _ (js : List ℕ) (d : Bundled (state_in n)) (o : IsOrder m whole js)
      (run : opened_after K (graph_in n) (removal_in n) states shares js ≡ Ok d) where
    order : IsOrder (states_size (graph_in n) states) whole js
    order = subst (λ n. IsOrder n whole js) (sym size_is) o

    level_is : (k : ℕ) → IsIn m (left_after whole js) k
        → IsIntersectionWeight (entangled c) (left_after whole js) k (number (case_level (state_of n d) k))
    level_is k i =
        weight_of_same _ _ same (left_after whole js) k _ (within k i.below)
        (levels_are_weights K (IsStoredIn n) (exact_in n) (graph_in n) (IsProperIn n) (removal_in n) (removal_exact n) states shares js d k ready order run
        (subst (λ n. IsIn n (left_after whole js) k) (sym size_is) i))

    live_is : (k : ℕ) → k < m → is_live_in_case (state_of n d) k ≡ left_after whole js k
    live_is k p = live_are_left K (IsStoredIn n) (exact_in n) (graph_in n) (IsProperIn n) (removal_in n) (removal_exact n) states shares js d k ready order run
        (subst (λ n. k < n) (sym size_is) p)

    size_stays : case_size (state_of n d) ≡ m
    size_stays = sizes_stay K (IsStoredIn n) (exact_in n) (graph_in n) (IsProperIn n) (removal_in n) (removal_exact n) states shares js d ready order run
        ∙ size_is

    is_lowest : (k : ℕ) → IsReduced (case_level (state_of n d) k)
    is_lowest k = levels_are_lowest K (IsStoredIn n) (exact_in n) (graph_in n) (IsProperIn n) (removal_in n)
        (removal_exact n) states shares js d k ready order run

-- ---- the laws

module _ (c : Content) (V : IsValidContent c) (js : List ℕ) (s : CaseState) (o : IsOrder (length c.names) whole js) (h : case_after c js ≡ Ok s) where
  R : IsRunOf c js s
  R = is_run c js s h

  level_of_case : (k : ℕ) → IsIn (length c.names) (left_after whole js) k
      → IsIntersectionWeight (entangled c) (left_after whole js) k (number (case_level s k))
  level_of_case k i = subst (λ s. IsIntersectionWeight (entangled c) (left_after whole js) k (number (case_level s k))) R.is
      (level_is c V (numbers_of c) (can_run c) R.states R.loaded js R.last o R.run k i)

  live_in_case : (k : ℕ) → k < length c.names → is_live_in_case s k ≡ left_after whole js k
  live_in_case k p = subst (λ s. is_live_in_case s k ≡ left_after whole js k) R.is
      (live_is c V (numbers_of c) (can_run c) R.states R.loaded js R.last o R.run k p)

  size_of_case : case_size s ≡ length c.names
  size_of_case = subst (λ s. case_size s ≡ length c.names) R.is (size_stays c V (numbers_of c) (can_run c) R.states R.loaded js R.last o R.run)

  lowest_in_case : (k : ℕ) → IsReduced (case_level s k)
  lowest_in_case k = subst (λ s. IsReduced (case_level s k)) R.is (is_lowest c V (numbers_of c) (can_run c) R.states R.loaded js R.last o R.run k)

pub case_levels : LevelsAreWeights
case_levels = λ c js s k V o h i. level_of_case c V js s o h k i

pub case_live : LiveAreLeft
case_live = λ c js s k V o h p. live_in_case c V js s o h k p

pub case_sizes : SizesStay
case_sizes = λ c js s V o h. size_of_case c V js s o h

pub case_lowest : LevelsAreLowest
case_lowest = λ c js s k V o h. lowest_in_case c V js s o h k
