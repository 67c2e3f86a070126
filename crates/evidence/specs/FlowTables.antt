-- The written flow run in one component: which operations are done in a step, in which order and for what. All operands are old values. The run
-- records what flows through each removed hypothesis, and what each remaining hypothesis sends through each removed one. It also records the exits
-- from each removed one to each remaining one (this project's own).
use Rattle.std.specs.Prelude.{ℕ, List, [], ◌∷◌, ◌++◌, Bool, not, if◌then◌else◌, Option, Some, None, Result, Ok, map, get_or, set, replicate}
use Rattle.std.specs.List.{range_with_len}
use Rattle.field_core.specs.declared.place.Op.TheVariants.{Add, Mul, Div}
use Rattle.field_core.specs.declared.place.Place.TheVariants.{Flow, Visit, Exit}
use Rattle.field_core.specs.declared.place.Wide.{Wide}
use Rattle.field_core.specs.Kind.{Parts, Kind}
use Rattle.field_core.specs.Steps.{at, each_below, ◌>>=◌}
use Rattle.removal.specs.StoredGraph.{StoredGraph, size, weight, edge}
use Rattle.removal.specs.WrittenRemoval.{is_gone, divisor}
use Rattle.evidence_check.specs.EvidenceParts.{numbers_at}

-- What the run records of a component: what flows through each hypothesis, and for each hypothesis `l` a row of what `l` sends through each one.
-- There is also, for each hypothesis `k`, a row of the exits from each one to `k`.
pub record Tables : Type 0 where
  pub flows : List Parts
  pub visits : List (List Parts)
  pub exits : List (List Parts)

-- a row of a table
abbrev pub row : List (List Parts) → ℕ → List Parts
row t l = get_or t l []

-- a list in which what `f` gives is put at each position of another list in turn, or its first refusal
unfoldable pub put_each : {A E : Type 0} → (ℕ → Result A E) → List ℕ → List A → Result (List A) E
put_each f [] xs = Ok xs
put_each f (r ∷ rs) xs = do
  x ← f r
  put_each f rs (set xs r x)

-- the new value if it is wanted, and else the old one, with nothing written
abbrev pub if_wanted : {A E : Type 0} → Bool → A → Result A E → Result A E
if_wanted wanted old new = if wanted then new else Ok old

module _ (K : Kind) where
  -- at the opening: nothing flows, each hypothesis sends 1 through itself, and there are no exits
  unfoldable pub first_tables : ℕ → Tables
  first_tables m = record {
    flows = replicate m K.zero;
    visits = map (λ l. set (replicate m K.zero) l K.one) (range_with_len 0 m);
    exits = replicate m (replicate m K.zero);
  }

  -- (`G` is the graph before the step, and `j` the hypothesis of the step)
  module _ (G : StoredGraph) (j : ℕ) where
    -- what flows through `r` after the step, from the row `zs` of `j` and what flowed before: `y_r + w_j * z_jr`
    unfoldable pub new_flow : List Parts → List Parts → ℕ → Result Parts Wide
    new_flow zs ys r = do
      a ← at (Flow r) Mul (K.written Mul (weight K G j) (numbers_at K zs r))
      at (Flow r) Add (K.written Add (numbers_at K ys r) a)

    -- what `l` sends through `r` after the step, from the row `zs` of `j`, the row of `l` and what it is divided by: `(z_lr + g_lj * z_jr) / d`
    unfoldable pub new_visit : List Parts → List Parts → ℕ → Parts → ℕ → Result Parts Wide
    new_visit zs xs l d r = do
      a ← at (Visit l r) Mul (K.written Mul (edge K G l j) (numbers_at K zs r))
      b ← at (Visit l r) Add (K.written Add (numbers_at K xs r) a)
      at (Visit l r) Div (K.written Div b d)

    -- the exit from `r` to `k` after the step, from the exits to `j` and those to `k`: `x_rk + x_rj * g_jk`
    unfoldable pub new_exit : List Parts → List Parts → ℕ → ℕ → Result Parts Wide
    new_exit hs xs k r = do
      a ← at (Exit r k) Mul (K.written Mul (numbers_at K hs r) (edge K G j k))
      at (Exit r k) Add (K.written Add (numbers_at K xs r) a)

    -- (`earlier` are the hypotheses of the earlier steps, in their order)
    module _ (earlier : List ℕ) where
      -- what flows through each hypothesis after the step: it changes for those of the earlier steps and of this one
      unfoldable pub new_flows : List (List Parts) → List Parts → Result (List Parts) Wide
      new_flows visits ys = put_each (new_flow (row visits j) ys) (earlier ++ j ∷ []) ys

      -- the row of `l` with this divisor: all 0 if there is none
      unfoldable pub new_visits_by : List (List Parts) → ℕ → Option Parts → Result (List Parts) Wide
      new_visits_by visits l None = Ok (map (λ x. K.zero) (row visits l))
      new_visits_by visits l (Some d) = put_each (new_visit (row visits j) (row visits l) l d) (earlier ++ j ∷ l ∷ []) (row visits l)

      -- the row of `l`, which stays if `l` is removed; it is divided by what the removal divides the edges of `l` by
      unfoldable pub new_visits : List (List Parts) → ℕ → Result (List Parts) Wide
      new_visits visits l = if is_gone G j l then Ok (row visits l) else do
        d ← divisor K G j l
        new_visits_by visits l d

      -- the exits to `k`, which stay if `k` is removed; that of `j` is its edge
      unfoldable pub new_exits : List (List Parts) → ℕ → Result (List Parts) Wide
      new_exits exits k = if is_gone G j k then Ok (row exits k) else do
        xs ← put_each (new_exit (row exits j) (row exits k) k) earlier (row exits k)
        Ok (set xs j (edge K G j k))

      -- The tables after the step: first the flows, then the rows by ascending position, neither of them at the last step, and then the exits, if there
      -- are keeps.
      unfoldable pub new_tables : Tables → Bool → Bool → Result Tables Wide
      new_tables t is_last is_kept = do
        flows ← if_wanted (not is_last) t.flows (new_flows t.visits t.flows)
        visits ← if_wanted (not is_last) t.visits (each_below (size G) (new_visits t.visits))
        exits ← if_wanted is_kept t.exits (each_below (size G) (new_exits t.exits))
        Ok (record { flows = flows; visits = visits; exits = exits })
