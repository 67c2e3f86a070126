-- The nets of a bundle before the first removal.
use Rattle.std.proofs.Common.{◌≡◌, refl, sym, subst, ℕ, ◌<◌, List, [], ◌∷◌, length, get_or, Result, arith}
use Rattle.std.proofs.lemmas.List.{get_or-map}
use Rattle.std.proofs.lemmas.List.Elements.{All-get_or}
use Rattle.field_core.specs.declared.place.Wide.{Wide}
use Rattle.field_core.specs.declared.ratio.Ratio.{Ratio}
use Rattle.field_core.specs.Number.{Number}
use Rattle.field_core.specs.NumberField.{number_field}
use Rattle.field_core.specs.Graph.{Graph, IsValid}
use Rattle.field_core.specs.Sets.{whole}
use Rattle.field_core.specs.Kind.{Parts, Kind}
use Rattle.removal.specs.StoredGraph.{StoredGraph, size, AreAllLive}
use Rattle.removal.specs.ByValue.{graph_of, IsSound}
use Rattle.removal.specs.Exactness.{RemovesExactly}
use Rattle.removal.proofs.WeightsLeft.{Stands}
use Rattle.entangled.specs.Bundled.{states_size}
use Rattle.entangled.specs.BundleRun.{AreReady, by_value, empty_graph}

-- the first of some
first_of : {S : Type 0} (states : List S) → 0 < length states → S
first_of [] p = absurd (omega arith)
first_of (s ∷ ss) p = s

module _ {S : Type 0} (K : Kind) (graph : S → StoredGraph) (IsProper : S → Type 0) (states : List S) (shares : List Ratio)
    (R : AreReady K graph IsProper states shares) where
  -- a net to name where a place is past the end
  pub some_net : S
  some_net = first_of states R.some

  -- the net at a place, and its graph
  unfoldable pub net_before : ℕ → S
  net_before c = get_or states c some_net

  unfoldable pub graph_before : ℕ → Graph Number
  graph_before c = graph_of K (graph (net_before c))

  graph_at : (c : ℕ) → c < length states → (by_value K graph states shares).graph c ≡ graph_before c
  unfolding by_value graph_before net_before
  graph_at c p = get_or-map (λ s. graph_of K (graph s)) states c some_net empty_graph p

  of_size : (c : ℕ) → c < length states → size (graph (net_before c)) ≡ states_size graph states
  unfolding net_before
  of_size c p = All-get_or (λ s. size (graph s) ≡ states_size graph states) states c some_net p R.same_size

  valid_at : (c : ℕ) → c < length states → IsValid number_field (states_size graph states) (graph_before c)
  unfolding net_before graph_before
  valid_at c p = subst (λ n. IsValid number_field n (graph_before c)) (of_size c p) (All-get_or (λ s. IsSound K (graph s)) states c some_net p R.sound)

  module _ (IsStored : Parts → Type 0) (removal : S → ℕ → Result S Wide) (E : RemovesExactly K IsStored graph IsProper removal) where
    stands_at : (c : ℕ) → c < length states
        → Stands K IsStored graph IsProper removal E (states_size graph states) whole (graph_before c) (net_before c)
    unfolding net_before graph_before
    stands_at c p = record {
      proper = All-get_or IsProper states c some_net p R.proper;
      same_size = of_size c p;
      live = λ i q. All-get_or (λ s. AreAllLive (graph s)) states c some_net p R.live i (subst (λ n. i < n) (sym (of_size c p)) q);
      value = refl;
    }

    -- what is known of each
    pub record AreFirst : Type 0 where
      pub graph_is : (c : ℕ) → c < length states → (by_value K graph states shares).graph c ≡ graph_before c
      pub valid : (c : ℕ) → c < length states → IsValid number_field (states_size graph states) (graph_before c)
      pub stands : (c : ℕ) → c < length states
          → Stands K IsStored graph IsProper removal E (states_size graph states) whole (graph_before c) (net_before c)

    pub first_nets : AreFirst
    first_nets = record { graph_is = graph_at; valid = valid_at; stands = stands_at }
