-- The form reads each text as the machine of places does.
use Rattle.std.proofs.Common.{◌≡◌, ℕ, Bool, true, false, List, [], ◌∷◌, ◌++◌, length, Option, Some, None, Result, Ok, Err, refl, sym, ap, ◌∙◌, if◌then◌else◌}
use Rattle.std.specs.Prelude.{codes}
use Rattle.std.specs.Str.{bytes_eq}
use Rattle.field_core.specs.declared.ratio.Ratio.{Ratio}
use Rattle.field_core.specs.Answers.{and_then}
use Rattle.case_model.specs.declared.draft.Draft.{Draft}
use Rattle.case_model.specs.declared.draft_component.DraftComponent.{DraftComponent}
use Rattle.case_model.specs.declared.draft_edge.DraftEdge.{DraftEdge}
use Rattle.case_model.specs.declared.draft_stages.DraftStages.{DraftStages}
use Rattle.case_model.specs.declared.draft_stages.Arrival.{Arrival}
use Rattle.case_model.specs.declared.spend.Spend.{Spend}
use Rattle.case_model.specs.declared.spend.Spend.TheVariants.{Shares, Table}
use Rattle.case_model.specs.declared.spend_step.SpendStep.{SpendStep}
use Rattle.text_lines.specs.Languages.{FaultAt, on_line, reading as places_reading}
use Rattle.text_lines.specs.Lines.{Row as TextRow}
use Rattle.text_lines.specs.Words.{words_of, words_after}
use Rattle.edge_text.specs.declared.fault.LineKind.{LineKind}
use Rattle.edge_text.specs.declared.fault.LineKind.TheVariants.{Unexpected, WordCount}
use Rattle.edge_text.specs.declared.place.Place.{Place}
use Rattle.edge_text.specs.declared.place.Place.TheVariants as at
use Rattle.edge_text.specs.Drafts.{named, with_p, with_component, edgeless, with_edge, with_stages, with_spend, with_arrival, counted}
use Rattle.edge_text.specs.Grammar.{Words, one}
use Rattle.edge_text.specs.Places.{block as block_step, stages as stages_step, next_block, spend_or_arrive, is_due, further, due, step, unless_due, cases}
use Rattle.edge_text.specs.WordReading.{on_keyword, on_words, found_or, number, numbers, given, edge, count, shares, first_step, step_of, step_words, arrival}
use Rattle.edge_text.proofs.LinesTaken.{left_of, all_left, first_left, none_left, push_left}
use Rattle.text_lines.specs.Forms.{Say, Line, Then, May, Many, Seen, texts_seen, all_read, reading}
use Rattle.text_lines.specs.Kinds.{keyed_line, more_lines, each_after}
use Rattle.edge_text.specs.Document.{Lines, edge_line, if_named, if_step, further_line, share_line, block, table, spend, stages, document, kinds}
use Rattle.edge_text.proofs.FormRuns.{picked, picked_same, on_said, run, run_same, run_say, run_then, run_line, run_may, run_many, run_lines}

abbrev Rows : Type 0
Rows = List (Seen (List ℕ))

abbrev Answer : Type 0
Answer = Result Draft (FaultAt LineKind)

-- these stages, or else those
abbrev or_stages : Option DraftStages → Option DraftStages → Option DraftStages
or_stages s None = s
or_stages None (Some t) = Some t
or_stages (Some s) (Some t) = Some s

no_stages : (o : Option DraftStages) → or_stages None o ≡ o
no_stages None = refl
no_stages (Some s) = refl

these_stages : (s : DraftStages) (o : Option DraftStages) → or_stages (Some s) o ≡ Some s
these_stages s None = refl
these_stages s (Some t) = refl

-- the whole draft
abbrev made : Draft → List DraftComponent → Option DraftStages → Draft
made d ks s = record { names = d.names; alpha = d.alpha; p = d.p; components = ks; stages = or_stages s d.stages }

abbrev with_edges : DraftComponent → List DraftEdge → DraftComponent
with_edges k es = record { share = k.share; weights = k.weights; edges = es }

abbrev with_arrivals : DraftStages → List Spend → List Arrival → DraftStages
with_arrivals s spends arrivals = record { count = s.count; spend = spends; arrivals = arrivals }

module _ (end : ℕ) where
  -- ---- what the form reads from each place on

  abbrev last : Draft → List DraftComponent → Option DraftStages → Rows → Answer
  last d ks s rows = all_read kinds (made d ks s) rows

  abbrev tail : Draft → List DraftComponent → Rows → Answer
  tail d ks rows = run kinds (stages d.names) rows end (λ s rest. last d ks s rest)

  -- further blocks, if blocks have shares
  abbrev behind_block : Bool → Draft → List DraftComponent → Rows → Answer
  behind_block true d ks rows = run kinds (Many share_line (λ xs share. block d.names share) ks) rows end (tail d)
  behind_block false d ks rows = tail d ks rows

  abbrev edges_on : Bool → Draft → DraftComponent → Rows → Answer
  edges_on shared d k rows =
      run kinds (more_lines (edge_line d.names) k.edges) rows end (λ es rest. behind_block shared d (d.components ++ with_edges k es ∷ []) rest)

  abbrev weights_on : Bool → Draft → Ratio → Rows → Answer
  weights_on shared d share rows = run kinds (Line (keyed_line (codes "weights") numbers)) rows end (λ weights rest. edges_on shared d (edgeless share weights) rest)

  abbrev blocks_of : Draft → Lines (List DraftComponent)
  blocks_of d = May share_line (λ share. Then (block d.names share) (λ k. Many share_line (λ ks share. block d.names share) (d.components ++ k ∷ [])))
      (Then (block d.names one) (λ k. Say (d.components ++ k ∷ [])))

  abbrev blocks_on : Draft → Rows → Answer
  blocks_on d rows = run kinds (blocks_of d) rows end (λ ks rest. tail d ks rest)

  abbrev arrivals_on : Draft → DraftStages → List Spend → Rows → Answer
  arrivals_on d s spends rows = run kinds (more_lines (keyed_line (codes "arrive") (arrival d.names)) s.arrivals) rows end
      (λ arrivals rest. last d d.components (Some (with_arrivals s spends arrivals)) rest)

  abbrev spends_on : Draft → DraftStages → List (List ℕ) → List Spend → Rows → Answer
  spends_on d s names spends rows = run kinds (each_after spend spends names) rows end (arrivals_on d s)

  abbrev steps_on : Draft → DraftStages → List (List ℕ) → List SpendStep → Rows → Answer
  steps_on d s [] steps rows = spends_on d s [] (s.spend ++ Table steps ∷ []) rows
  steps_on d s (name ∷ names) steps rows =
      run kinds (more_lines (further_line name) steps) rows end (λ steps rest. spends_on d s names (s.spend ++ Table steps ∷ []) rest)

  abbrev left : Draft → DraftStages → List (List ℕ)
  left d s = left_of d.names (length s.spend)

  abbrev after : Draft → Lines Draft
  after d = Then (blocks_of d) (λ ks. Then (stages d.names) (λ s. Say (made d ks s)))

  abbrev values : Draft → Lines Draft
  values d = May (keyed_line (codes "p") given) (λ p. after (with_p d p)) (after d)

  abbrev from : Place → Rows → Answer
  from at.Alpha rows = run kinds document rows end (all_read kinds)
  from (at.Names alpha) rows = run kinds (Line (keyed_line (codes "hypotheses") (λ words. Ok words))) rows end (λ names rest. run kinds (values (named alpha names)) rest end (all_read kinds))
  from (at.Values d) rows = run kinds (values d) rows end (all_read kinds)
  from (at.Block d) rows = run kinds (after d) rows end (all_read kinds)
  from (at.Weights d share) rows = weights_on true d share rows
  from (at.Edges shared d k) rows = edges_on shared d k rows
  from (at.Spends d s) rows = spends_on d s (left d s) s.spend rows
  from (at.Steps d s steps) rows = steps_on d s (left d s) steps rows

  -- the table of a place is that of a name
  abbrev Fits : Place → Type 0
  Fits (at.Steps d s steps) = (name : List ℕ) × (names : List (List ℕ)) × (left d s ≡ name ∷ names)
  Fits at.Alpha = Unit {0}
  Fits (at.Names alpha) = Unit {0}
  Fits (at.Values d) = Unit {0}
  Fits (at.Block d) = Unit {0}
  Fits (at.Weights d share) = Unit {0}
  Fits (at.Edges shared d k) = Unit {0}
  Fits (at.Spends d s) = Unit {0}

  -- ---- parts of forms

  block_run : (names : Words) (share : Ratio) (rows : Rows) (k : DraftComponent → Rows → Answer)
      → run kinds (block names share) rows end k
      ≡ run kinds (Line (keyed_line (codes "weights") numbers)) rows end (λ weights rest.
      run kinds (more_lines (edge_line names) []) rest end (λ es more. k (record { share = share; weights = weights; edges = es }) more))
  block_run names share rows k =
      run_then kinds (Line (keyed_line (codes "weights") numbers)) _ rows end k
      ∙ run_same kinds (Line (keyed_line (codes "weights") numbers)) rows end _ _ (λ weights rest.
      run_then kinds (more_lines (edge_line names) []) _ rest end k
      ∙ run_same kinds (more_lines (edge_line names) []) rest end _ _ (λ es more. run_say kinds (record { share = share; weights = weights; edges = es }) more end k))

  shared_run : (d : Draft) (share : Ratio) (rows : Rows)
      → run kinds (Then (block d.names share) (λ k. Many share_line (λ ks share. block d.names share) (d.components ++ k ∷ []))) rows end (tail d)
      ≡ weights_on true d share rows
  shared_run d share rows = run_then kinds (block d.names share) _ rows end (tail d) ∙ block_run d.names share rows _

  lone_run : (d : Draft) (rows : Rows)
      → run kinds (Then (block d.names one) (λ k. Say (d.components ++ k ∷ []))) rows end (tail d) ≡ weights_on false d one rows
  lone_run d rows = run_then kinds (block d.names one) _ rows end (tail d)
      ∙ run_same kinds (block d.names one) rows end _ _ (λ k rest. run_say kinds (d.components ++ k ∷ []) rest end (tail d)) ∙ block_run d.names one rows _

  after_run : (d : Draft) (rows : Rows) → run kinds (after d) rows end (all_read kinds) ≡ blocks_on d rows
  after_run d rows = run_then kinds (blocks_of d) _ rows end (all_read kinds)
      ∙ run_same kinds (blocks_of d) rows end _ _ (λ ks rest. run_then kinds (stages d.names) _ rest end (all_read kinds)
      ∙ run_same kinds (stages d.names) rest end _ _ (λ s more. run_say kinds (made d ks s) more end (all_read kinds)))

  -- ---- a line

  abbrev machine : ℕ → Result Place LineKind → List TextRow → Answer
  machine n r rows = and_then (on_line n r) (λ next. places_reading cases next rows end)

  -- the further lines are read alike
  abbrev Later : List TextRow → Type 0
  Later rows = (place : Place) → Fits place → places_reading cases place rows end ≡ from place (texts_seen rows)

  module _ (row : TextRow) (rows : List TextRow) (ih : Later rows) where
    abbrev refused : Answer
    refused = Err (record { line = row.number; kind = Unexpected })

    -- the machine reads a line of a kind
    step_by : {A : Type 0} (keyword : List ℕ) (says : Words → Result A LineKind) (to : A → Place) (other : Result Place LineKind)
        (f : A → Answer) (x : Answer) → ((a : A) → places_reading cases (to a) rows end ≡ f a) → machine row.number other rows ≡ x
        → machine row.number (on_keyword keyword row.text (λ words. and_then (says words) (λ a. Ok (to a))) other) rows
        ≡ picked row.number (keyed_line keyword says row.text) f x
    step_by keyword says to other f x h e =
        on_said row.number keyword row.text says to other (λ next. places_reading cases next rows end)
        ∙ picked_same row.number (keyed_line keyword says row.text) _ _ _ _ (λ a q. h a) e

    stages_run : (d : Draft) (k : DraftComponent) (n : ℕ) (more : Rows)
        → spends_on (with_component d k) (counted n) (left_of d.names 0) [] more
        ≡ run kinds (Then (each_after spend [] d.names) (λ spends. Then (more_lines (keyed_line (codes "arrive") (arrival d.names)) [])
        (λ arrivals. Say (Some (record { count = n; spend = spends; arrivals = arrivals }))))) more end (λ s rest. last d (d.components ++ k ∷ []) s rest)
    stages_run d k n more =
        ap (λ ns. spends_on (with_component d k) (counted n) ns [] more) (all_left d.names)
        ∙ sym (run_then kinds (each_after spend [] d.names) _ more end _
        ∙ run_same kinds (each_after spend [] d.names) more end _ _ (λ spends rest.
        run_then kinds (more_lines (keyed_line (codes "arrive") (arrival d.names)) []) _ rest end _
        ∙ run_same kinds (more_lines (keyed_line (codes "arrive") (arrival d.names)) []) rest end _ _ (λ arrivals others.
        run_say kinds (Some (record { count = n; spend = spends; arrivals = arrivals })) others end _)))

    stages_taken : (d : Draft) (k : DraftComponent)
        → machine row.number (stages_step d k row.text) rows ≡ tail d (d.components ++ k ∷ []) (texts_seen (row ∷ rows))
    stages_taken d k =
        step_by (codes "stages") count (λ n. at.Spends (with_component d k) (counted n)) (Err Unexpected) _ refused
        (λ n. ih (at.Spends (with_component d k) (counted n)) tt ∙ stages_run d k n (texts_seen rows)) refl
        ∙ sym (run_may kinds (keyed_line (codes "stages") count) _ (Say None) _ (texts_seen rows) end _)

    next_taken : (shared : Bool) (d : Draft) (k : DraftComponent)
        → machine row.number (next_block shared d k row.text) rows ≡ behind_block shared d (d.components ++ k ∷ []) (texts_seen (row ∷ rows))
    next_taken false d k = stages_taken d k
    next_taken true d k =
        step_by (codes "component") number (λ share. at.Weights (with_component d k) share) (stages_step d k row.text) _ _
        (λ share. ih (at.Weights (with_component d k) share) tt ∙ sym (block_run d.names share (texts_seen rows) _)) (stages_taken d k)
        ∙ sym (run_many kinds share_line (λ xs share. block d.names share) (d.components ++ k ∷ []) _ (texts_seen rows) end (tail d))

    edges_taken : (shared : Bool) (d : Draft) (k : DraftComponent)
        → machine row.number (step (at.Edges shared d k) row.text) rows ≡ edges_on shared d k (texts_seen (row ∷ rows))
    edges_taken shared d k =
        step_by (codes "edge") (edge d.names row.text) (λ e. at.Edges shared d (with_edge k e)) (next_block shared d k row.text) _ _
        (λ e. ih (at.Edges shared d (with_edge k e)) tt) (next_taken shared d k)
        ∙ sym (run_lines kinds (edge_line d.names) k.edges _ (texts_seen rows) end _)

    weights_taken : (shared : Bool) (d : Draft) (share : Ratio)
        → machine row.number (on_keyword (codes "weights") row.text
        (λ words. and_then (numbers words) (λ weights. Ok (at.Edges shared d (edgeless share weights)))) (Err Unexpected)) rows
        ≡ weights_on shared d share (texts_seen (row ∷ rows))
    weights_taken shared d share =
        step_by (codes "weights") numbers (λ weights. at.Edges shared d (edgeless share weights)) (Err Unexpected) _ refused
        (λ weights. ih (at.Edges shared d (edgeless share weights)) tt) refl
        ∙ sym (run_line kinds (keyed_line (codes "weights") numbers) _ (texts_seen rows) end _)

    block_taken : (d : Draft) → machine row.number (block_step d row.text) rows ≡ run kinds (after d) (texts_seen (row ∷ rows)) end (all_read kinds)
    block_taken d =
        step_by (codes "component") number (λ share. at.Weights d share) _ _ _
        (λ share. ih (at.Weights d share) tt ∙ sym (shared_run d share (texts_seen rows))) (weights_taken false d one ∙ sym (lone_run d (texts_seen (row ∷ rows))))
        ∙ sym (after_run d (texts_seen (row ∷ rows)) ∙ run_may kinds share_line _ (Then (block d.names one) (λ k. Say (d.components ++ k ∷ []))) _ (texts_seen rows) end (tail d))

    values_taken : (d : Draft) → machine row.number (step (at.Values d) row.text) rows ≡ from (at.Values d) (texts_seen (row ∷ rows))
    values_taken d =
        step_by (codes "p") given (λ p. at.Block (with_p d p)) (block_step d row.text) _ _ (λ p. ih (at.Block (with_p d p)) tt) (block_taken d)
        ∙ sym (run_may kinds (keyed_line (codes "p") given) (λ p. after (with_p d p)) (after d) _ (texts_seen rows) end (all_read kinds))

    names_taken : (alpha : Ratio) → machine row.number (step (at.Names alpha) row.text) rows ≡ from (at.Names alpha) (texts_seen (row ∷ rows))
    names_taken alpha =
        step_by (codes "hypotheses") (λ words. Ok words) (λ names. at.Values (named alpha names)) (Err Unexpected) _ refused
        (λ names. ih (at.Values (named alpha names)) tt) refl
        ∙ sym (run_line kinds (keyed_line (codes "hypotheses") (λ words. Ok words)) _ (texts_seen rows) end _)

    alpha_taken : machine row.number (step at.Alpha row.text) rows ≡ from at.Alpha (texts_seen (row ∷ rows))
    alpha_taken =
        step_by (codes "alpha") number (λ alpha. at.Names alpha) (Err Unexpected) _ refused
        (λ alpha. ih (at.Names alpha) tt ∙ sym (run_then kinds (Line (keyed_line (codes "hypotheses") (λ words. Ok words))) _ (texts_seen rows) end (all_read kinds))) refl
        ∙ sym (run_then kinds (Line (keyed_line (codes "alpha") number)) _ (texts_seen (row ∷ rows)) end (all_read kinds)
        ∙ run_line kinds (keyed_line (codes "alpha") number) _ (texts_seen rows) end _)

    -- ---- stages

    -- a spend is added
    spent : (d : Draft) (s : DraftStages) (x : Spend) (name : List ℕ) (more : Words) (others : Rows) → left d s ≡ name ∷ more
        → spends_on d (with_spend s x) (left d (with_spend s x)) (s.spend ++ x ∷ []) others ≡ spends_on d s more (s.spend ++ x ∷ []) others
    spent d s x name more others l = ap (λ ns. spends_on d s ns (s.spend ++ x ∷ []) others) (push_left d.names s.spend x name more l)

    table_run : (d : Draft) (s : DraftStages) (name : List ℕ) (more : Words) (t : SpendStep) (others : Rows)
        → run kinds (Then (more_lines (further_line name) (t ∷ [])) (λ steps. Say (Table steps))) others end (λ x rest. spends_on d s more (s.spend ++ x ∷ []) rest)
        ≡ steps_on d s (name ∷ more) (t ∷ []) others
    table_run d s name more t others =
        run_then kinds (more_lines (further_line name) (t ∷ [])) _ others end _
        ∙ run_same kinds (more_lines (further_line name) (t ∷ [])) others end _ _ (λ steps rest. run_say kinds (Table steps) rest end _)

    spends_taken : (d : Draft) (s : DraftStages) (names : Words) → left d s ≡ names
        → machine row.number (step (at.Spends d s) row.text) rows ≡ spends_on d s names s.spend (texts_seen (row ∷ rows))
    spends_taken d s [] l =
        ap (λ o. machine row.number (spend_or_arrive o d s row.text) rows) (none_left d.names (length s.spend) l)
        ∙ step_by (codes "arrive") (arrival d.names) (λ a. at.Spends d (with_arrival s a)) (Err Unexpected)
        (λ a. arrivals_on d (with_arrival s a) s.spend (texts_seen rows)) refused
        (λ a. ih (at.Spends d (with_arrival s a)) tt ∙ ap (λ ns. spends_on d (with_arrival s a) ns s.spend (texts_seen rows)) l
        ∙ run_say kinds s.spend (texts_seen rows) end (arrivals_on d (with_arrival s a))) refl
        ∙ sym (run_say kinds s.spend (texts_seen (row ∷ rows)) end (arrivals_on d s)
        ∙ run_lines kinds (keyed_line (codes "arrive") (arrival d.names)) s.arrivals _ (texts_seen rows) end _)
    spends_taken d s (name ∷ more) l =
        ap (λ o. machine row.number (spend_or_arrive o d s row.text) rows) (first_left d.names (length s.spend) name more l)
        ∙ step_by (codes "spend") (shares name) (λ xs. at.Spends d (with_spend s (Shares xs))) _
        (λ xs. spends_on d s more (s.spend ++ Shares xs ∷ []) (texts_seen rows)) _
        (λ xs. ih (at.Spends d (with_spend s (Shares xs))) tt ∙ spent d s (Shares xs) name more (texts_seen rows) l)
        (step_by (codes "table") (first_step name) (λ t. at.Steps d s (t ∷ [])) (Err Unexpected)
        (λ t. steps_on d s (name ∷ more) (t ∷ []) (texts_seen rows)) refused
        (λ t. ih (at.Steps d s (t ∷ [])) (name, more, l) ∙ ap (λ ns. steps_on d s ns (t ∷ []) (texts_seen rows)) l) refl)
        ∙ sym (run_then kinds (spend name) _ (texts_seen (row ∷ rows)) end (arrivals_on d s)
        ∙ run_may kinds (keyed_line (codes "spend") (shares name)) (λ xs. Say (Shares xs)) (table name) _ (texts_seen rows) end (λ a rest. spends_on d s more (s.spend ++ a ∷ []) rest)
        ∙ picked_same row.number (keyed_line (codes "spend") (shares name) row.text) _ _ _ _ (λ xs q. run_say kinds (Shares xs) (texts_seen rows) end (λ a rest. spends_on d s more (s.spend ++ a ∷ []) rest))
        (run_then kinds (Line (keyed_line (codes "table") (first_step name))) _ (texts_seen (row ∷ rows)) end _
        ∙ run_line kinds (keyed_line (codes "table") (first_step name)) _ (texts_seen rows) end _
        ∙ picked_same row.number (keyed_line (codes "table") (first_step name) row.text) _ _ _ _ (λ t q. table_run d s name more t (texts_seen rows)) refl))

    module _ (d : Draft) (s : DraftStages) (steps : List SpendStep) (name : List ℕ) (more : Words) (l : left d s ≡ name ∷ more) where
      abbrev other : Result Place LineKind
      other = step (at.Spends d (with_spend s (Table steps))) row.text

      abbrev onwards : SpendStep → Answer
      onwards t = steps_on d s (name ∷ more) (steps ++ t ∷ []) (texts_seen rows)

      abbrev others : Answer
      others = spends_on d s more (s.spend ++ Table steps ∷ []) (texts_seen (row ∷ rows))

      other_read : machine row.number other rows ≡ others
      other_read = spends_taken d (with_spend s (Table steps)) more (push_left d.names s.spend (Table steps) name more l)

      step_said : (r : Result SpendStep LineKind)
          → machine row.number (and_then r (λ t. Ok (at.Steps d s (steps ++ t ∷ [])))) rows ≡ picked row.number (Some r) onwards others
      step_said (Ok t) = ih (at.Steps d s (steps ++ t ∷ [])) (name, more, l) ∙ ap (λ ns. steps_on d s ns (steps ++ t ∷ []) (texts_seen rows)) l
      step_said (Err k) = refl

      asked : (w : List ℕ × List ℕ × Words) (b : Bool)
          → machine row.number (if b then and_then (step_of w.1 w.2) (λ t. Ok (at.Steps d s (steps ++ t ∷ []))) else other) rows
          ≡ picked row.number (if b then Some (step_of w.1 w.2) else None) onwards others
      asked w true = step_said (step_of w.1 w.2)
      asked w false = other_read

      if_due : (o : Option (List ℕ × List ℕ × Words))
          → machine row.number (found_or o WordCount (λ w. if is_due w.0 (due d s) then and_then (step_of w.1 w.2) (λ t. Ok (at.Steps d s (steps ++ t ∷ []))) else other)) rows
          ≡ picked row.number (if_named name o) onwards others
      if_due (Some w) =
          ap (λ o. machine row.number (if is_due w.0 o then and_then (step_of w.1 w.2) (λ t. Ok (at.Steps d s (steps ++ t ∷ []))) else other) rows)
          (first_left d.names (length s.spend) name more l)
          ∙ asked w (bytes_eq w.0 name)
      if_due None = refl

      if_table : (o : Option Words)
          → machine row.number (on_words o (λ words. further d s steps words other) other) rows ≡ picked row.number (if_step name o) onwards others
      if_table (Some words) = if_due (step_words words)
      if_table None = other_read

      steps_taken : machine row.number (step (at.Steps d s steps) row.text) rows ≡ steps_on d s (name ∷ more) steps (texts_seen (row ∷ rows))
      steps_taken = if_table (words_after (codes "table") (words_of row.text)) ∙ sym (run_lines kinds (further_line name) steps _ (texts_seen rows) end _)

    line_read : (place : Place) → Fits place → places_reading cases place (row ∷ rows) end ≡ from place (texts_seen (row ∷ rows))
    line_read at.Alpha h = alpha_taken
    line_read (at.Names alpha) h = names_taken alpha
    line_read (at.Values d) h = values_taken d
    line_read (at.Block d) h = block_taken d
    line_read (at.Weights d share) h = weights_taken true d share
    line_read (at.Edges shared d k) h = edges_taken shared d k
    line_read (at.Spends d s) h = spends_taken d s (left d s) refl
    line_read (at.Steps d s steps) h =
        steps_taken d s steps h.0 h.1 h.2 ∙ ap (λ ns. steps_on d s ns steps (texts_seen (row ∷ rows))) (sym h.2)

  -- ---- the end of a text

  ended_tail : (d : Draft) (k : DraftComponent) → Ok (with_component d k) ≡ tail d (d.components ++ k ∷ []) []
  ended_tail d k = ap (λ o. Ok (record { names = d.names; alpha = d.alpha; p = d.p; components = d.components ++ k ∷ []; stages = o })) (sym (no_stages d.stages))

  ended_edges : (shared : Bool) (d : Draft) (k : DraftComponent) → Ok (with_component d k) ≡ edges_on shared d k []
  ended_edges true d k = ended_tail d k
  ended_edges false d k = ended_tail d k

  ended_spends : (d : Draft) (s : DraftStages) (names : Words) → left d s ≡ names → on_line end (unless_due (due d s) (with_stages d s)) ≡ spends_on d s names s.spend []
  ended_spends d s [] l =
      ap (λ o. on_line end (unless_due o (with_stages d s))) (none_left d.names (length s.spend) l)
      ∙ ap (λ o. Ok (record { names = d.names; alpha = d.alpha; p = d.p; components = d.components; stages = o })) (sym (these_stages s d.stages))
  ended_spends d s (name ∷ more) l = ap (λ o. on_line end (unless_due o (with_stages d s))) (first_left d.names (length s.spend) name more l)

  end_read : (place : Place) → Fits place → places_reading cases place [] end ≡ from place []
  end_read at.Alpha h = refl
  end_read (at.Names alpha) h = refl
  end_read (at.Values d) h = refl
  end_read (at.Block d) h = refl
  end_read (at.Weights d share) h = refl
  end_read (at.Edges shared d k) h = ended_edges shared d k
  end_read (at.Spends d s) h = ended_spends d s (left d s) refl
  end_read (at.Steps d s steps) h =
      ended_spends d (with_spend s (Table steps)) h.1 (push_left d.names s.spend (Table steps) h.0 h.1 h.2)
      ∙ ap (λ ns. steps_on d s ns steps []) (sym h.2)

  all_lines : (rows : List TextRow) → Later rows
  all_lines [] = end_read
  all_lines (row ∷ rows) = line_read row rows (all_lines rows)

  pub forms_read : (rows : List TextRow) → places_reading cases at.Alpha rows end ≡ reading kinds document (texts_seen rows) end
  forms_read rows = all_lines rows at.Alpha tt
