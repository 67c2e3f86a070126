-- Nets over one set of hypotheses.
use Rattle.std.proofs.Common.{◌≡◌, refl, sym, ap, ◌∙◌, ℕ, ◌<◌, List, [], ◌∷◌, length, map, get_or, true}
use Rattle.std.proofs.Common.{Bool, arith}
use Rattle.std.proofs.lemmas.List.{length-map}
use Rattle.std.proofs.lemmas.List.Elements.{All-head}
use Rattle.std.specs.List.{All}
use Rattle.case_model.proofs.Places.{mapped_item}
use Rattle.removal.specs.StoredGraph.{StoredGraph, size as graph_size, is_live, AreAllLive}
use Rattle.entangled.specs.Bundled.{states_size, is_live_by, AreAlike}
use Rattle.case_model.proofs.Holding.{all_from_map}

module _ {S : Type 0} (graph : S → StoredGraph) where
  -- where each hypothesis is in, this one is in each net
  pub live_in_each : {R : Type 0} (present : R → S) (nets : List R) (k : ℕ)
      → All (λ s. graph_size (graph s) ≡ states_size graph (map present nets)) (map present nets) → All (λ s. AreAllLive (graph s)) (map present nets)
      → k < states_size graph (map present nets) → All (λ n. is_live (graph (present n)) k ≡ true) nets
  live_in_each present nets k size live b = all_from_map (λ s. is_live (graph s) k ≡ true) present nets (λ n d h. live n d h k (omega (arith, size n d h)))

  pub live_by_each : {R : Type 0} (present : R → S) (nets : List R) (k : ℕ) → All (λ n. is_live (graph (present n)) k ≡ true) nets
      → k < states_size graph (map present nets) → is_live_by graph (map present nets) k ≡ true
  unfolding is_live_by states_size
  live_by_each present [] k h b = absurd (omega arith)
  live_by_each present (n ∷ ns) k h b = All-head (λ n. is_live (graph (present n)) k ≡ true) n ns h

  -- what the first net says
  pub size_at : (states : List S) (d : S) → 0 < length states → states_size graph states ≡ graph_size (graph (get_or states 0 d))
  unfolding states_size
  size_at [] d b = absurd (omega arith)
  size_at (s ∷ ss) d b = refl

  pub live_at : (states : List S) (d : S) (k : ℕ) → 0 < length states → is_live_by graph states k ≡ is_live (graph (get_or states 0 d)) k
  unfolding is_live_by
  live_at [] d k b = absurd (omega arith)
  live_at (s ∷ ss) d k b = refl

  pub first_size : {R : Type 0} (present : R → S) (nets : List R) (n : R) → 0 < length nets → n ≡ get_or nets 0 n
      → states_size graph (map present nets) ≡ graph_size (graph (present n))
  first_size present nets n b e = size_at (map present nets) (present n) (simp length-map b)
      ∙ ap (λ s. graph_size (graph s)) (mapped_item present nets 0 n (present n) b e)

  pub first_live : {R : Type 0} (present : R → S) (nets : List R) (n : R) (k : ℕ) → 0 < length nets → n ≡ get_or nets 0 n
      → is_live_by graph (map present nets) k ≡ is_live (graph (present n)) k
  first_live present nets n k b e = live_at (map present nets) (present n) k (simp length-map b)
      ∙ ap (λ s. is_live (graph s) k) (mapped_item present nets 0 n (present n) b e)

  -- one that is in is in each of nets that are alike
  pub alike_live : (states : List S) (k : ℕ) → AreAlike graph states → is_live_by graph states k ≡ true
      → All (λ s. is_live (graph s) k ≡ true) states
  alike_live states k A h n d b = ap (λ f. f k) (A.live n d b) ∙ h

  size_by : (states : List S) (n : ℕ) → 0 < length states → All (λ s. graph_size (graph s) ≡ n) states → states_size graph states ≡ n
  unfolding states_size
  size_by [] n b h = absurd (omega arith)
  size_by (s ∷ ss) n b h = All-head (λ s. graph_size (graph s) ≡ n) s ss h

  live_by : (states : List S) (L : ℕ → Bool) → 0 < length states → All (λ s. is_live (graph s) ≡ L) states → is_live_by graph states ≡ L
  unfolding is_live_by
  live_by [] L b h = absurd (omega arith)
  live_by (s ∷ ss) L b h = All-head (λ s. is_live (graph s) ≡ L) s ss h

  -- nets of one size in which the same hypotheses are in
  pub record AreOf (n : ℕ) (L : ℕ → Bool) (states : List S) : Type 0 where
    pub alike : AreAlike graph states
    pub size : states_size graph states ≡ n
    pub live : is_live_by graph states ≡ L

  pub are_of : (states : List S) (n : ℕ) (L : ℕ → Bool) → 0 < length states
      → All (λ s. (graph_size (graph s) ≡ n) × (is_live (graph s) ≡ L)) states → AreOf n L states
  are_of states n L b h =
      let size = size_by states n b (λ k d p. (h k d p).0) in
      let live = live_by states L b (λ k d p. (h k d p).1) in
      record {
        alike = record { size = λ k d p. (h k d p).0 ∙ sym size; live = λ k d p. (h k d p).1 ∙ sym live };
        size = size;
        live = live;
      }
