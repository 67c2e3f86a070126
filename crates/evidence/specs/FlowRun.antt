-- The written flow run of nets (this project's own). For each step of an order, what flows through the hypotheses of the earlier steps is recorded.
-- Then the tables of all components are computed anew, and its hypothesis is removed.
use Rattle.std.specs.Prelude.{ℕ, ◌+◌, List, [], ◌∷◌, ◌++◌, Bool, true, false, not, Result, Ok, Err, map, length, get_or, replicate}
use Rattle.field_core.specs.declared.place.Wide.{Wide}
use Rattle.field_core.specs.declared.place.WideAt.{WideAt}
use Rattle.field_core.specs.Kind.{Kind}
use Rattle.field_core.specs.Steps.{◌>>=◌, in_component, each_below}
use Rattle.removal.specs.StoredGraph.{StoredGraph, no_graph}
use Rattle.entangled.specs.Bundled.{Bundled, size, removed}
use Rattle.evidence_check.specs.Evidence.{others}
use Rattle.evidence_check.specs.EvidenceParts.{StepParts, KeepParts, numbers_at}
use Rattle.evidence.specs.FlowTables.{Tables, row, if_wanted, first_tables, new_tables}

-- the first operation of a run that is undefined, with its step; step 0 is the opening
pub record WideStep : Type 0 where
  pub step : ℕ
  pub at : WideAt

-- a step of a run, with its number
abbrev pub at_step : {A : Type 0} → ℕ → Result A WideAt → Result A WideStep
at_step n (Ok x) = Ok x
at_step n (Err w) = Err (record { step = n; at = w })

-- the nets of a run, and the tables of their components
pub record RunState (S : Type 0) : Type 0 where
  pub bundle : Bundled S
  pub tables : List Tables

-- what a run gives: the steps, and the tables after the last of them
pub record FlowRun : Type 0 where
  pub steps : List StepParts
  pub tables : List Tables

-- steps and keeps, with their numbers as they are stored
pub record WrittenEvidence : Type 0 where
  pub steps : List StepParts
  pub keeps : List KeepParts

-- (stands for tables past the last ones)
abbrev pub no_tables : Tables
no_tables = record { flows = []; visits = []; exits = [] }

-- the graph of a component
abbrev pub graph_at : List StoredGraph → ℕ → StoredGraph
graph_at Gs c = get_or Gs c no_graph

-- the tables of a component
abbrev pub tables_at : List Tables → ℕ → Tables
tables_at ts c = get_or ts c no_tables

-- whether a list has an item
abbrev pub has_some : List ℕ → Bool
has_some [] = false
has_some (k ∷ ks) = true

module _ (K : Kind) where
  -- what is recorded at a step, before anything else is done
  unfoldable pub recorded : List Tables → List ℕ → ℕ → StepParts
  recorded ts earlier j = record { hypothesis = j; flows = map (λ t. map (numbers_at K t.flows) earlier) ts }

  -- the keep of a hypothesis: the exits to it, after the steps of `js`
  unfoldable pub kept_exits : List Tables → List ℕ → ℕ → KeepParts
  kept_exits ts js k = record { hypothesis = k; exits = map (λ t. map (numbers_at K (row t.exits k)) js) ts }

  -- the tables of all components after a step, component by component
  unfoldable pub all_tables : List StoredGraph → List Tables → List ℕ → ℕ → Bool → Bool → Result (List Tables) WideAt
  all_tables Gs ts earlier j is_last is_kept =
      each_below (length ts) (λ c. in_component c (new_tables K (graph_at Gs c) j earlier (tables_at ts c) is_last is_kept))

  module _ {S : Type 0} (graph : S → StoredGraph) (removal : S → ℕ → Result S Wide) (is_kept : Bool) where
    -- a step after the steps of `earlier`: the tables, and then the removal, which the last step leaves out. Exits are written only if there are keeps.
    unfoldable pub flow_step : List ℕ → ℕ → Bool → RunState S → Result (RunState S) WideStep
    flow_step earlier j is_last s = do
      us ← at_step (length earlier + 1) (all_tables (map graph s.bundle.states) s.tables earlier j is_last is_kept)
      d ← at_step (length earlier + 1) (if_wanted (not is_last) s.bundle (removed K graph removal s.bundle j))
      Ok (record { bundle = d; tables = us })

    -- the rest of a run, after the steps of `earlier`: each step records what flows before it
    unfoldable pub flow_run : List ℕ → List ℕ → RunState S → Result FlowRun WideStep
    flow_run earlier [] s = Ok (record { steps = []; tables = s.tables })
    flow_run earlier (j ∷ js) s = do
      t ← flow_step earlier j (not (has_some js)) s
      rest ← flow_run (earlier ++ j ∷ []) js t
      Ok (record { steps = recorded s.tables earlier j ∷ rest.steps; tables = rest.tables })

  -- nets as just opened, with their tables before the first step
  abbrev pub opening_state : {S : Type 0} → (S → StoredGraph) → Bundled S → RunState S
  opening_state graph b = record { bundle = b; tables = replicate (length b.states) (first_tables K (size graph b)) }

  -- the run of nets along `js`, and the evidence that it gives: its steps, and all other hypotheses with their exits after the last step
  unfoldable pub evidence_run : {S : Type 0} → (S → StoredGraph) → (S → ℕ → Result S Wide) → Bundled S → List ℕ
      → Result WrittenEvidence WideStep
  evidence_run graph removal b js = do
    r ← flow_run graph removal (has_some (others (size graph b) js)) [] js (opening_state graph b)
    Ok (record { steps = r.steps; keeps = map (kept_exits r.tables js) (others (size graph b) js) })
