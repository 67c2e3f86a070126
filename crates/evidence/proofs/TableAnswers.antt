-- The rows after a step, written number by number.
use Rattle.std.proofs.Common.{◌≡◌, refl, ap, ◌∙◌, ℕ, ◌+◌, Bool, false, not, List, [], ◌∷◌, ◌++◌, Some, None, Result, Ok, Err}
use Rattle.std.proofs.Common.{map, set}
use Rattle.field_core.specs.declared.place.Wide.{Wide}
use Rattle.field_core.specs.Kind.{Parts, Kind}
use Rattle.field_core.specs.Steps.{◌>>=◌, each_below}
use Rattle.field_core.specs.Laws.Prefixes.{each_suc}
use Rattle.field_core.proofs.Fills.{each_fault}
use Rattle.std.proofs.Common.{add-one}
use Rattle.std.proofs.lemmas.List.{map_push}
use Rattle.removal.specs.StoredGraph.{StoredGraph, size, edge}
use Rattle.removal.specs.WrittenRemoval.{is_gone, divisor}
use Rattle.evidence.specs.FlowTables.{Tables, row, put_each, if_wanted, new_tables, new_flow, new_flows, new_visit, new_visits_by, new_visits, new_exit}
use Rattle.evidence.specs.FlowTables.{new_exits}
use Rattle.field_core.specs.declared.fault.Fault.{Fault}
use Rattle.field_core.specs.declared.fault.Fault.TheVariants.{Wide as TooWide, NoMemory}
use Rattle.field_core.specs.Made.{Makes}
use Rattle.evidence.proofs.Puts.{put_nil, put_refused, put_then, put_then_refused}

-- ---- rows one after the other

pub each_none : {B E : Type 0} (f : ℕ → Result B E) → each_below 0 f ≡ Ok []
unfolding each_below
each_none f = refl

module _ {A B E : Type 0} (view : A → B) (f : ℕ → Result B E) where
  pub each_more : (n : ℕ) (xs : List A) (x : A) → each_below n f ≡ Ok (map view xs) → f n ≡ Ok (view x)
      → each_below (n + 1) f ≡ Ok (map view (xs ++ x ∷ []))
  each_more n xs x h e = rw (map_push, add-one, each_suc n f, h, e) refl

-- a fault of a part is a fault of the whole
pub fault_of : {A B C D W : Type 0} (v : A → B) (u : C → D) (f : Fault W) (part : Result B W) (whole : Result D W) → Makes v (Err f) part
    → ((w : W) → part ≡ Err w → whole ≡ Err w) → Makes u (Err f) whole
fault_of v u (TooWide w) part whole m h = h w m
fault_of v u NoMemory part whole m h = tt

-- the same rows
pub moved : (h : List Parts → List Parts → List Parts → Result (List Parts) Wide) (xs us ys vs zs ws : List Parts) → xs ≡ us → ys ≡ vs
    → zs ≡ ws → h xs ys zs ≡ h us vs ws
moved h xs us ys vs zs ws e k m = ap (λ x. h x ys zs) e ∙ ap (λ y. h us y zs) k ∙ ap (h us vs) m

pub moved_two : (h : List Parts → List Parts → Result Parts Wide) (xs us ys vs : List Parts) → xs ≡ us → ys ≡ vs → h xs ys ≡ h us vs
moved_two h xs us ys vs e k = ap (λ x. h x ys) e ∙ ap (h us) k

-- ---- the rows of a step

module _ (K : Kind) (G : StoredGraph) (j : ℕ) (earlier : List ℕ) where
  module _ (visits : List (List Parts)) (ys : List Parts) where
    pub flows_refused : (w : Wide) → put_each (new_flow K G j (row visits j) ys) earlier ys ≡ Err w → new_flows K G j earlier visits ys ≡ Err w
    unfolding new_flows
    flows_refused w h = put_refused (new_flow K G j (row visits j) ys) earlier (j ∷ []) ys w h

    module _ (zs : List Parts) (h : put_each (new_flow K G j (row visits j) ys) earlier ys ≡ Ok zs) where
      pub flows_last_refused : (w : Wide) → new_flow K G j (row visits j) ys j ≡ Err w → new_flows K G j earlier visits ys ≡ Err w
      unfolding new_flows
      flows_last_refused w g = put_then_refused (new_flow K G j (row visits j) ys) earlier [] j ys zs w h g

      pub flows_done : (x : Parts) → new_flow K G j (row visits j) ys j ≡ Ok x → new_flows K G j earlier visits ys ≡ Ok (set zs j x)
      unfolding new_flows
      flows_done x g = put_then (new_flow K G j (row visits j) ys) earlier [] j ys zs x h g ∙ put_nil (new_flow K G j (row visits j) ys) (set zs j x)

  module _ (visits : List (List Parts)) (l : ℕ) where
    module _ (stays : is_gone G j l ≡ false) where
      visits_by : new_visits K G j earlier visits l ≡ (divisor K G j l >>= new_visits_by K G j earlier visits l)
      unfolding new_visits
      visits_by = rw stays refl

      pub visits_none : divisor K G j l ≡ Ok None → new_visits K G j earlier visits l ≡ Ok (map (λ x. K.zero) (row visits l))
      unfolding new_visits_by
      visits_none h = visits_by ∙ ap (λ r. r >>= new_visits_by K G j earlier visits l) h

    module _ (d : Parts) where
      abbrev visit : ℕ → Result Parts Wide
      visit = new_visit K G j (row visits j) (row visits l) l d

      pub divided_refused : (w : Wide) → put_each (new_visit K G j (row visits j) (row visits l) l d) earlier (row visits l) ≡ Err w
          → new_visits_by K G j earlier visits l (Some d) ≡ Err w
      unfolding new_visits_by
      divided_refused w h = put_refused visit earlier (j ∷ l ∷ []) (row visits l) w h

      module _ (zs : List Parts) (h : put_each (new_visit K G j (row visits j) (row visits l) l d) earlier (row visits l) ≡ Ok zs) where
        pub divided_last_refused : (w : Wide) → new_visit K G j (row visits j) (row visits l) l d j ≡ Err w
            → new_visits_by K G j earlier visits l (Some d) ≡ Err w
        unfolding new_visits_by
        divided_last_refused w g = put_then_refused visit earlier (l ∷ []) j (row visits l) zs w h g

        module _ (x : Parts) (g : new_visit K G j (row visits j) (row visits l) l d j ≡ Ok x) where
          pub divided_own_refused : (w : Wide) → new_visit K G j (row visits j) (row visits l) l d l ≡ Err w
              → new_visits_by K G j earlier visits l (Some d) ≡ Err w
          unfolding new_visits_by
          divided_own_refused w e = put_then visit earlier (l ∷ []) j (row visits l) zs x h g
              ∙ put_then_refused visit [] [] l (set zs j x) (set zs j x) w (put_nil visit (set zs j x)) e

          pub divided_done : (y : Parts) → new_visit K G j (row visits j) (row visits l) l d l ≡ Ok y
              → new_visits_by K G j earlier visits l (Some d) ≡ Ok (set (set zs j x) l y)
          unfolding new_visits_by
          divided_done y e =
              put_then visit earlier (l ∷ []) j (row visits l) zs x h g ∙ put_then visit [] [] l (set zs j x) (set zs j x) y (put_nil visit (set zs j x)) e
              ∙ put_nil visit (set (set zs j x) l y)

  module _ (exits : List (List Parts)) (k : ℕ) (stays : is_gone G j k ≡ false) where
    exits_by : new_exits K G j earlier exits
        k ≡ (put_each (new_exit K G j (row exits j) (row exits k) k) earlier (row exits k) >>= λ xs. Ok (set xs j (edge K G j k)))
    unfolding new_exits
    exits_by = rw stays refl

    pub exits_refused : (w : Wide) → put_each (new_exit K G j (row exits j) (row exits k) k) earlier (row exits k) ≡ Err w
        → new_exits K G j earlier exits k ≡ Err w
    exits_refused w h = exits_by ∙ ap (λ r. r >>= λ xs. Ok (set xs j (edge K G j k))) h

    pub exits_done : (zs : List Parts) → put_each (new_exit K G j (row exits j) (row exits k) k) earlier (row exits k) ≡ Ok zs
        → new_exits K G j earlier exits k ≡ Ok (set zs j (edge K G j k))
    exits_done zs h = exits_by ∙ ap (λ r. r >>= λ xs. Ok (set xs j (edge K G j k))) h

  module _ (t : Tables) (is_last is_kept : Bool) where
    tables_by : new_tables K G j earlier t is_last is_kept
        ≡ (if_wanted (not is_last) t.flows (new_flows K G j earlier t.visits t.flows) >>= λ flows. if_wanted (not is_last) t.visits
        (each_below (size G) (new_visits K G j earlier t.visits)) >>= λ visits.
        if_wanted is_kept t.exits (each_below (size G) (new_exits K G j earlier t.exits)) >>= λ exits. Ok
        (record { flows = flows; visits = visits; exits = exits }))
    unfolding new_tables
    tables_by = refl

    pub tables_first : (w : Wide) → if_wanted (not is_last) t.flows (new_flows K G j earlier t.visits t.flows) ≡ Err w
        → new_tables K G j earlier t is_last is_kept ≡ Err w
    tables_first w h = rw (tables_by, h) refl

    module _ (ys : List Parts) (h : if_wanted (not is_last) t.flows (new_flows K G j earlier t.visits t.flows) ≡ Ok ys) where
      pub tables_second : (w : Wide) → if_wanted (not is_last) t.visits (each_below (size G) (new_visits K G j earlier t.visits)) ≡ Err w
          → new_tables K G j earlier t is_last is_kept ≡ Err w
      tables_second w k = rw (tables_by, h, k) refl

      module _ (vs : List (List Parts)) (k : if_wanted (not is_last) t.visits (each_below (size G) (new_visits K G j earlier t.visits)) ≡ Ok vs) where
        pub tables_third : (w : Wide) → if_wanted is_kept t.exits (each_below (size G) (new_exits K G j earlier t.exits)) ≡ Err w
            → new_tables K G j earlier t is_last is_kept ≡ Err w
        tables_third w e = rw (tables_by, h, k, e) refl

        pub tables_done : (es : List (List Parts)) → if_wanted is_kept t.exits (each_below (size G) (new_exits K G j earlier t.exits)) ≡ Ok es
            → new_tables K G j earlier t is_last is_kept ≡ Ok (record { flows = ys; visits = vs; exits = es })
        tables_done es e = rw (tables_by, h, k, e) refl

-- the steps of rows that are made one after another
pub ruleset row_steps = (each_none, each_more, each_fault)
