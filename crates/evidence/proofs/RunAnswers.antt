-- What is recorded of the tables, and the nets of a bundle.
use Rattle.std.proofs.Common.{◌≡◌, refl, sym, ap, ap₂, ◌∙◌, ℕ, suc, ◌+◌, ◌<◌, ◌==◌, Bool, true, false, not, List, [], ◌∷◌}
use Rattle.std.proofs.Common.{map, length, get_or, Some, Result, Ok, Err, arith}
use Rattle.std.specs.Prelude.{slice_get}
use Rattle.std.proofs.lemmas.List.{get_or-map}
use Rattle.std.proofs.lemmas.List.Elements.{All-get_or}
use Rattle.std.proofs.lemmas.Option.{get_or_from_slice_get}
use Rattle.std.proofs.lemmas.Bool.Decides.{nat_tests}
use Rattle.field_core.specs.declared.place.Wide.{Wide}
use Rattle.field_core.specs.declared.place.WideAt.{WideAt}
use Rattle.field_core.specs.Kind.{Parts, Kind}
use Rattle.field_core.specs.Steps.{◌>>=◌, in_component, each_below}
use Rattle.field_core.proofs.Fills.{each_fault}
use Rattle.removal.specs.StoredGraph.{StoredGraph, is_live, no_graph}
use Rattle.entangled.specs.Bundled.{Bundled, IsBundle, size, removed, is_live as is_live_in}
use Rattle.evidence_check.specs.Evidence.{others}
use Rattle.evidence_check.specs.EvidenceParts.{KeepParts, numbers_at}
use Rattle.evidence.specs.FlowTables.{Tables, row, if_wanted, new_tables}
use Rattle.evidence.specs.FlowRun.{WideStep, RunState, FlowRun, at_step, has_some, recorded, kept_exits, all_tables, flow_step, flow_run, opening_state}
use Rattle.evidence.specs.FlowRun.{evidence_run, graph_at, tables_at, no_tables}
use Rattle.evidence.specs.TablesView.{tables_of}
use Rattle.evidence.specs.declared.tables.Tables.{Tables as KeptTables}
use Rattle.field_core.specs.declared.fault.Fault.{Fault}
use Rattle.field_core.specs.declared.fault.Fault.TheVariants.{Wide as TooWide, NoMemory}
use Rattle.sequential.specs.declared.fault.RunFault.{RunFault}
use Rattle.sequential.specs.declared.fault.RunFault.TheVariants.{Wide as MakeWide, NoMemory as MakeNoMemory}
use Rattle.field_core.specs.Made.{Makes, fault_in}
use Rattle.sequential.specs.OpeningFault.{fault_at}
use Rattle.evidence.specs.Made.{MakesAll}
use Rattle.evidence.proofs.RowAnswers.{row_is}
use Rattle.evidence.proofs.TableAnswers.{each_none, each_more}

module _ {F : Type 0} (K : Kind) (parts : F → Parts) where
  -- what flows in a component through these hypotheses
  abbrev pub flows_at : List ℕ → KeptTables F → List Parts
  flows_at js t = map (numbers_at K (map parts t.flows)) js

  -- the exits to `k` in a component from these hypotheses
  abbrev pub exits_at : List ℕ → ℕ → KeptTables F → List Parts
  exits_at js k t = map (numbers_at K (map parts (get_or t.exits k []))) js

  flows_all : (js : List ℕ) (ts : List (KeptTables F)) → map (flows_at js) ts ≡ map (λ t. map (numbers_at K t.flows) js) (map (tables_of parts) ts)
  flows_all js [] = refl
  flows_all js (t ∷ ts) = ap (λ xs. flows_at js t ∷ xs) (flows_all js ts)

  exits_all : (js : List ℕ) (k : ℕ) (ts : List (KeptTables F))
      → map (exits_at js k) ts ≡ map (λ t. map (numbers_at K (row t.exits k)) js) (map (tables_of parts) ts)
  exits_all js k [] = refl
  exits_all js k (t ∷ ts) = ap₂ (λ xs xss. xs ∷ xss) (ap (λ xs. map (numbers_at K xs) js) (row_is parts t.exits k (get_or t.exits k []) refl))
      (exits_all js k ts)

  pub recorded_is : (js : List ℕ) (j : ℕ) (flows : List (List F)) (ts : List (KeptTables F)) → map (map parts) flows ≡ map (flows_at js) ts
      → record { hypothesis = j; flows = map (map parts) flows } ≡ recorded K (map (tables_of parts) ts) js j
  unfolding recorded
  recorded_is js j flows ts h = ap (λ xs. record { hypothesis = j; flows = xs }) (h ∙ flows_all js ts)

  pub kept_is : (js : List ℕ) (k : ℕ) (exits : List (List F)) (ts : List (KeptTables F)) → map (map parts) exits ≡ map (exits_at js k) ts
      → record { hypothesis = k; exits = map (map parts) exits } ≡ kept_exits K (map (tables_of parts) ts) js k
  unfolding kept_exits
  kept_is js k exits ts h = ap (λ xs. record { hypothesis = k; exits = xs }) (h ∙ exits_all js k ts)

-- ---- the nets of a bundle

module _ {S : Type 0} (K : Kind) (graph : S → StoredGraph) (b : Bundled S) (B : IsBundle K graph b) (c : ℕ) (s : S) (e : slice_get b.states c ≡ Some s)
    (p : c < length b.states) where
  here : get_or b.states c s ≡ s
  here = get_or_from_slice_get b.states c s s e

  -- what is in by the first net is in each net
  pub live_in_net : (j : ℕ) → is_live_in graph b j ≡ true → is_live (graph s) j ≡ true
  live_in_net j h = ap (λ t. is_live (graph t) j) (sym here)
      ∙ ap (λ f. f j) (All-get_or (λ s. is_live (graph s) ≡ is_live_in graph b) b.states c s p B.alike.live) ∙ h

  pub net_graph : graph_at (map graph b.states) c ≡ graph s
  net_graph = get_or-map graph b.states c s no_graph p ∙ ap graph here

pub net_tables : {F : Type 0} (parts : F → Parts) (ts : List (KeptTables F)) (c : ℕ) (d : KeptTables F) → c < length ts
    → tables_at (map (tables_of parts) ts) c ≡ tables_of parts (get_or ts c d)
net_tables parts ts c d p = get_or-map (tables_of parts) ts c d no_tables p

-- ---- faults on a component

pub made_in : {A B : Type 0} (v : A → B) (c : ℕ) (x : A) (r q : Result B Wide) → r ≡ q → Makes v (Ok x) r → Makes v (Ok x) (in_component c q)
made_in v c x r q e m = ap (in_component c) (sym e ∙ m)

pub fault_made_in : {A B : Type 0} (v : A → B) (c : ℕ) (f : Fault Wide) (r q : Result B Wide) → r ≡ q → Makes v (Err f) r
    → Makes v (Err (fault_in c f)) (in_component c q)
fault_made_in v c (TooWide w) r q e m = ap (in_component c) (sym e ∙ m)
fault_made_in v c NoMemory r q e m = tt

-- ---- all components

module _ (K : Kind) (Gs : List StoredGraph) (ts : List Tables) (earlier : List ℕ) (j : ℕ) (is_last is_kept : Bool) where
  -- the tables of a component after a step
  abbrev pub tables_in : ℕ → Result Tables WideAt
  tables_in c = in_component c (new_tables K (graph_at Gs c) j earlier (tables_at ts c) is_last is_kept)

  pub all_done : (c : ℕ) (us : List Tables) → c ≡ length ts → each_below c tables_in ≡ Ok us
      → all_tables K Gs ts earlier j is_last is_kept ≡ Ok us
  unfolding all_tables
  all_done c us e h = ap (λ n. each_below n tables_in) (sym e) ∙ h

  pub all_refused : (c : ℕ) (us : List Tables) (w : WideAt) → c < length ts → each_below c tables_in ≡ Ok us → tables_in c ≡ Err w
      → all_tables K Gs ts earlier j is_last is_kept ≡ Err w
  unfolding all_tables
  all_refused c us w p h e = each_fault (length ts) c tables_in us w p h e

-- ---- a step

module _ {S : Type 0} (K : Kind) (graph : S → StoredGraph) (removal : S → ℕ → Result S Wide) (is_kept : Bool) (earlier : List ℕ) (j : ℕ)
    (is_last : Bool) (s : RunState S) where
  step_by : flow_step K graph removal is_kept earlier j is_last s
      ≡ (at_step (length earlier + 1) (all_tables K (map graph s.bundle.states) s.tables earlier j is_last is_kept) >>= λ us. at_step (length earlier + 1)
      (if_wanted (not is_last) s.bundle (removed K graph removal s.bundle j)) >>= λ d. Ok (record { bundle = d; tables = us }))
  unfolding flow_step
  step_by = refl

  pub step_fault : {A : Type 0} (v : A → List Tables) (u : A → RunState S) (f : Fault WideAt) (n : ℕ) → n ≡ length earlier + 1
      → Makes v (Err f) (all_tables K (map graph s.bundle.states) s.tables earlier j is_last is_kept)
      → MakesAll u (Err (fault_at n f)) (flow_step K graph removal is_kept earlier j is_last s)
  step_fault v u (TooWide w) n e m = rw (step_by, m) (ap (λ n. Err (record { step = n; at = w })) (sym e))
  step_fault v u NoMemory n e m = tt

  module _ (us : List Tables) (h : all_tables K (map graph s.bundle.states) s.tables earlier j is_last is_kept ≡ Ok us) where
    pub step_last : is_last ≡ true → flow_step K graph removal is_kept earlier j is_last s ≡ Ok (record { bundle = s.bundle; tables = us })
    step_last e = step_by ∙ ap
        (λ r. at_step (length earlier + 1) r >>= λ us. at_step (length earlier + 1)
        (if_wanted (not is_last) s.bundle (removed K graph removal s.bundle j)) >>= λ d. Ok (record { bundle = d; tables = us })) h
        ∙ ap (λ b. at_step (length earlier + 1) (if_wanted (not b) s.bundle (removed K graph removal s.bundle j)) >>= λ d. Ok
        (record { bundle = d; tables = us })) e

    pub step_removed : is_last ≡ false → (d : Bundled S) → removed K graph removal s.bundle j ≡ Ok d
        → flow_step K graph removal is_kept earlier j is_last s ≡ Ok (record { bundle = d; tables = us })
    step_removed e d k = step_by
        ∙ ap (λ r. at_step (length earlier + 1) r >>= λ us. at_step (length earlier + 1)
        (if_wanted (not is_last) s.bundle (removed K graph removal s.bundle j)) >>= λ d. Ok (record { bundle = d; tables = us })) h
        ∙ ap (λ b. at_step (length earlier + 1) (if_wanted (not b) s.bundle (removed K graph removal s.bundle j)) >>= λ d. Ok
        (record { bundle = d; tables = us })) e
        ∙ ap (λ r. at_step (length earlier + 1) r >>= λ d. Ok (record { bundle = d; tables = us })) k

    pub step_not_removed : is_last ≡ false → (n : ℕ) → n ≡ length earlier + 1 → (w : WideAt) → removed K graph removal s.bundle j ≡ Err w
        → flow_step K graph removal is_kept earlier j is_last s ≡ Err (record { step = n; at = w })
    step_not_removed e n m w k = step_by
        ∙ ap (λ r. at_step (length earlier + 1) r >>= λ us. at_step (length earlier + 1)
        (if_wanted (not is_last) s.bundle (removed K graph removal s.bundle j)) >>= λ d. Ok (record { bundle = d; tables = us })) h
        ∙ ap (λ b. at_step (length earlier + 1) (if_wanted (not b) s.bundle (removed K graph removal s.bundle j)) >>= λ d. Ok
        (record { bundle = d; tables = us })) e
        ∙ ap (λ r. at_step (length earlier + 1) r >>= λ d. Ok (record { bundle = d; tables = us })) k
        ∙ ap (λ n. Err (record { step = n; at = w })) (sym m)

-- a fault of a part of a run is a fault of the whole
pub all_fault : {A B C D : Type 0} (v : A → B) (u : C → D) (f : RunFault) (part : Result B WideStep) (whole : Result D WideStep)
    → MakesAll v (Err f) part → ((w : WideStep) → part ≡ Err w → whole ≡ Err w) → MakesAll u (Err f) whole
all_fault v u (MakeWide n w) part whole m h = h _ m
all_fault v u MakeNoMemory part whole m h = tt

-- ---- the evidence of nets

-- a list that isn't empty has an item
some_is : (ks : List ℕ) → not (length ks == 0) ≡ has_some ks
some_is [] = refl
some_is (k ∷ ks) = ap not (not_none (length ks))
  where
    not_none : (n : ℕ) → (suc n == 0) ≡ false
    not_none n = grind (arith, nat_tests)

module _ {S : Type 0} (K : Kind) (graph : S → StoredGraph) (removal : S → ℕ → Result S Wide) (b : Bundled S) (js ks : List ℕ)
    (e : ks ≡ others (size graph b) js) (is_kept : Bool) (i : is_kept ≡ not (length ks == 0)) where
  same_run : flow_run K graph removal (has_some (others (size graph b) js)) [] js (opening_state K graph b) ≡ flow_run K graph removal is_kept [] js
      (opening_state K graph b)
  same_run = ap (λ w. flow_run K graph removal w [] js (opening_state K graph b)) (sym (i ∙ some_is ks ∙ ap has_some e))

  -- a run that is refused
  pub evidence_refused : (w : WideStep) → flow_run K graph removal is_kept [] js (opening_state K graph b) ≡ Err w
      → evidence_run K graph removal b js ≡ Err w
  unfolding evidence_run
  evidence_refused w h = ap (λ q. q >>= λ r. Ok (record { steps = r.steps; keeps = map (kept_exits K r.tables js) (others (size graph b) js) }))
      (same_run ∙ h)

  -- a run that is finished, and the keeps after it
  pub evidence_done : (r : FlowRun) (xs : List KeepParts) → flow_run K graph removal is_kept [] js (opening_state K graph b) ≡ Ok r
      → xs ≡ map (kept_exits K r.tables js) ks
      → evidence_run K graph removal b js ≡ Ok (record { steps = r.steps; keeps = xs })
  unfolding evidence_run
  evidence_done r xs h f =
      ap (λ q. q >>= λ r. Ok (record { steps = r.steps; keeps = map (kept_exits K r.tables js) (others (size graph b) js) })) (same_run ∙ h)
      ∙ ap (λ zs. Ok (record { steps = r.steps; keeps = zs })) (sym (f ∙ ap (map (kept_exits K r.tables js)) e))

-- the steps of the tables of all components
pub ruleset all_steps = (each_none, each_more, all_refused, all_done)
