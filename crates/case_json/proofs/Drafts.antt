-- Drafts of values, and the cases or errors that they give.
use Rattle.std.proofs.Common.{◌≡◌, ◌≢◌, ◌∙◌, ◌⊎◌, inl, inr, ℕ, Bool, ◌&&◌, true, false, true≢false, List, [], ◌∷◌, Option}
use Rattle.std.proofs.Common.{Some, None, refl, sym, ap, ap₂, subst, length}
use Rattle.std.specs.Fmt.{decimal}
use Rattle.std.specs.List.{list_all}
use Rattle.std.specs.Option.{option_map_or}
use Rattle.std.specs.Prelude.{◌+◌, codes, nat_lt, ok_or, Result, Ok, Err, IfErr, IsUtf8, IsTrue, ◌↔◌}
use Rattle.std.specs.Str.{bytes_eq}
use Rattle.std.proofs.lemmas.Bool.{lt-ltb}
use Rattle.std.proofs.lemmas.List.Quantifiers.{position-Some}
use Rattle.serde_json.specs.Data.{Data, string, array}
use Rattle.serde_json.specs.Find.{get}
use Rattle.serde_json.specs.Read.{read}
use Rattle.case_model.specs.Names.{position_of}
use Rattle.case_model.specs.declared.draft.Draft.{Draft}
use Rattle.case_model.specs.declared.draft_component.DraftComponent.{DraftComponent}
use Rattle.case_model.specs.declared.draft_stages.DraftStages.{DraftStages}
use Rattle.case_model.specs.declared.fault.Refused.{Refused}
use Rattle.case_model.specs.declared.fault.CaseFault.TheVariants.{NoMemory as OutOfMemory}
use Rattle.case_model.specs.CaseFaults.{case_fault}
use Rattle.case_model.specs.Draft.{goes_between, have_known_ends, have_known_arrivals, arrives_among}
use Rattle.case_json.specs.declared.fault.JsonFault.{JsonFault}
use Rattle.case_json.specs.declared.fault.JsonFault.TheVariants as faults
use Rattle.case_json.specs.Values.{IsJson, OrMemory, item_list, under}
use Rattle.field_core.specs.Answers.{told_as}
use Rattle.field_core.proofs.Results.{came_from, same_value, value_told}
use Rattle.case_json.specs.Answers.{with_keys, Reader, part_at, at, part_or, at_or, each, list_of, IsAnswer}
use Rattle.case_json.specs.Document.{edge_keys, component_keys, arrival_keys, stages_keys, document_keys}
use Rattle.case_json.specs.Document.{one, number_of, place_of, text_of, count_of, weight_of, spend_of, hypothesis_of, edge_of, component_of, arrival_of, stages_of, some_stages, document_of, IsDraft}
use Rattle.case_json.specs.Faults.{IsFirstFault}
use Rattle.case_json.specs.Reading.{SaysDraft, IsJsonFault}
use Rattle.case_json.proofs.Paths.{HasPath, fault_placed}

-- ---- known ends

-- what is read passes a test
abbrev pub Tested : {A : Type 0} → Reader A → (A → Bool) → Type 0
Tested read test = (d : Data) (a : _) → read d ≡ Ok a → test a ≡ true

module _ {A : Type 0} (read : Reader A) (test : A → Bool) (tested : Tested read test) where
  pub in_part : (key : List ℕ) (o : Option Data) (a : A) → part_at key read o ≡ Ok a → test a ≡ true
  in_part key None a e = absurd (cc e)
  in_part key (Some d) a e = tested d a (value_told (under key) (read d) a e)

  may_part : (absent : A) → test absent ≡ true → (key : List ℕ) (o : Option Data) (a : A) → part_or absent key read o ≡ Ok a → test a ≡ true
  may_part absent h key None a e = ap test (sym (same_value absent a e)) ∙ h
  may_part absent h key (Some d) a e = tested d a (value_told (under key) (read d) a e)

  all_of : (i : ℕ) (ds : List Data) (xs : List A) → each read i ds ≡ Ok xs → list_all test xs ≡ true
  all_of i [] xs e = ap (list_all test) (sym (same_value [] xs e))
  all_of i (d ∷ ds) xs e =
      let first = came_from (told_as (under (decimal i)) (read d)) _ xs e in
      let rest = came_from (each read (i + 1) ds) _ xs first.2 in
      ap (list_all test) (sym (same_value (first.0 ∷ rest.0) xs rest.2))
      ∙ ap₂ (λ a b. a && b) (tested d first.0 (value_told (under (decimal i)) (read d) first.0 first.1)) (all_of (i + 1) ds rest.0 rest.1)

  pub all_in : Tested (list_of read) (list_all test)
  all_in (array ds) xs e = all_of 0 (item_list ds) xs e
  all_in other xs e = absurd (cc e)

module _ (names : List (List ℕ)) where
  abbrev among : ℕ → Bool
  among i = nat_lt i (length names)

  found : (name : List ℕ) (o : Option ℕ) (i : ℕ) → position_of name names ≡ o → ok_or o (faults.UnknownName []) ≡ Ok i → among i ≡ true
  found name None i p e = absurd (cc e)
  found name (Some j) i p e =
      subst (λ k. among k ≡ true) (same_value j i e) (lt-ltb j (length names) (position-Some (bytes_eq name) names j [] p).0)

  known : Tested (hypothesis_of names) among
  known (string name) i e = found name (position_of name names) i refl e
  known other i e = absurd (cc e)

  known_at : (key : List ℕ) (d : Data) (i : ℕ) → at key (hypothesis_of names) d ≡ Ok i → among i ≡ true
  known_at key d i e = in_part (hypothesis_of names) among known key (get key d) i e

  known_edge : Tested (edge_of names) (goes_between (length names))
  known_edge d edge e =
      let keys = came_from (with_keys edge_keys d) _ edge e in
      let from = came_from (at (codes "from") (hypothesis_of names) d) _ edge keys.2 in
      let to = came_from (at (codes "to") (hypothesis_of names) d) _ edge from.2 in
      let weight = came_from (at (codes "weight") weight_of d) _ edge to.2 in
      ap (goes_between (length names)) (sym (same_value (record { from = from.0; to = to.0; entry = weight.0 }) edge weight.2))
      ∙ ap₂ (λ a b. a && b) (known_at (codes "from") d from.0 from.1) (known_at (codes "to") d to.0 to.1)

  abbrev component_ends : DraftComponent → Bool
  component_ends k = list_all (goes_between (length names)) k.edges

  known_component : Tested (component_of names) component_ends
  known_component d component e =
      let keys = came_from (with_keys component_keys d) _ component e in
      let share = came_from (at_or one (codes "share") number_of d) _ component keys.2 in
      let weights = came_from (at (codes "weights") (list_of number_of) d) _ component share.2 in
      let edges = came_from (at (codes "edges") (list_of (edge_of names)) d) _ component weights.2 in
      ap component_ends (sym (same_value (record { share = share.0; weights = weights.0; edges = edges.0 }) component edges.2))
      ∙ in_part (list_of (edge_of names)) (list_all (goes_between (length names))) (all_in (edge_of names) (goes_between (length names)) known_edge)
      (codes "edges") (get (codes "edges") d) edges.0 edges.1

  known_arrival : Tested (arrival_of names) (arrives_among (length names))
  known_arrival d arrival e =
      let keys = came_from (with_keys arrival_keys d) _ arrival e in
      let hypothesis = came_from (at (codes "hypothesis") (hypothesis_of names) d) _ arrival keys.2 in
      let stage = came_from (at (codes "stage") count_of d) _ arrival hypothesis.2 in
      let p = came_from (at (codes "p") number_of d) _ arrival stage.2 in
      ap (arrives_among (length names)) (sym (same_value (record { hypothesis = hypothesis.0; stage = stage.0; p = p.0 }) arrival p.2))
      ∙ known_at (codes "hypothesis") d hypothesis.0 hypothesis.1

  abbrev stages_ends : Option DraftStages → Bool
  stages_ends s = option_map_or (λ t. list_all (arrives_among (length names)) t.arrivals) s true

  known_stages : Tested (some_stages names) stages_ends
  known_stages d some e =
      let stages = came_from (stages_of names d) _ some e in
      let keys = came_from (with_keys stages_keys d) _ stages.0 stages.1 in
      let count = came_from (at (codes "count") count_of d) _ stages.0 keys.2 in
      let spend = came_from (at (codes "spend") (list_of spend_of) d) _ stages.0 count.2 in
      let arrivals = came_from (at (codes "arrivals") (list_of (arrival_of names)) d) _ stages.0 spend.2 in
      let is = same_value (record { count = count.0; spend = spend.0; arrivals = arrivals.0 }) stages.0 arrivals.2 in
      ap stages_ends (sym (same_value (Some stages.0) some stages.2) ∙ ap Some (sym is))
      ∙ in_part (list_of (arrival_of names)) (list_all (arrives_among (length names))) (all_in (arrival_of names) (arrives_among (length names)) known_arrival)
      (codes "arrivals") (get (codes "arrivals") d) arrivals.0 arrivals.1

-- what the parts of a document read
record Parts (value : Data) (draft : Draft) : Type 0 where
  components : at (codes "components") (list_of (component_of draft.names)) value ≡ Ok draft.components
  stages : at_or None (codes "stages") (some_stages draft.names) value ≡ Ok draft.stages

parts : (value : Data) (draft : Draft) → IsDraft value draft → Parts value draft
parts value draft e =
    let keys = came_from (with_keys document_keys value) _ draft e in
    let alpha = came_from (at (codes "alpha") number_of value) _ draft keys.2 in
    let names = came_from (at (codes "hypotheses") (list_of text_of) value) _ draft alpha.2 in
    let p = came_from (at_or [] (codes "p") (list_of place_of) value) _ draft names.2 in
    let components = came_from (at (codes "components") (list_of (component_of names.0)) value) _ draft p.2 in
    let stages = came_from (at_or None (codes "stages") (some_stages names.0) value) _ draft components.2 in
    let is = same_value (record { names = names.0; alpha = alpha.0; p = p.0; components = components.0; stages = stages.0 }) draft stages.2 in
    subst (Parts value) is (record { components = components.1; stages = stages.1 })

draft_ends : (value : Data) (draft : Draft) → IsDraft value draft → have_known_ends draft ≡ true
unfolding have_known_ends
draft_ends value draft e =
    in_part (list_of (component_of draft.names)) (list_all (component_ends draft.names))
    (all_in (component_of draft.names) (component_ends draft.names) (known_component draft.names))
    (codes "components") (get (codes "components") value) draft.components (parts value draft e).components

draft_arrivals : (value : Data) (draft : Draft) → IsDraft value draft → have_known_arrivals draft ≡ true
unfolding have_known_arrivals
draft_arrivals value draft e =
    may_part (some_stages draft.names) (stages_ends draft.names) (known_stages draft.names) None refl
    (codes "stages") (get (codes "stages") value) draft.stages (parts value draft e).stages

-- ---- faults

with_path : (bytes : List ℕ) (value : Data) (fault : JsonFault) → HasPath fault → IsJson bytes value → IsFirstFault value fault
    → IsJsonFault bytes fault
unfolding IsJsonFault
with_path bytes value faults.Syntax path is bad = absurd path
with_path bytes value (faults.Shape p) path is bad = (value, is, bad)
with_path bytes value (faults.NotWhole p) path is bad = (value, is, bad)
with_path bytes value (faults.Number p why) path is bad = (value, is, bad)
with_path bytes value (faults.UnknownName p) path is bad = (value, is, bad)
with_path bytes value (faults.Expr p why) path is bad = (value, is, bad)
with_path bytes value (faults.Case refused) path is bad = absurd path
with_path bytes value faults.NoMemory path is bad = absurd path

pub no_memory : (bytes : List ℕ) → IsJsonFault bytes faults.NoMemory
unfolding IsJsonFault
no_memory bytes = tt

-- a fault of the value is one of the bytes
pub value_fault : (bytes : List ℕ) (value : Data) (fault : JsonFault) → IsJson bytes value → OrMemory (IsFirstFault value) fault
    → IsJsonFault bytes fault
value_fault bytes value fault is (inl memory) = subst (IsJsonFault bytes) (sym memory) (no_memory bytes)
value_fault bytes value fault is (inr bad) = with_path bytes value fault (fault_placed value fault bad) is bad

pub value_faults : (bytes : List ℕ) (value : Data) (result : Result Draft JsonFault) → IsJson bytes value
    → IsAnswer result (document_of value) → IfErr result (IsJsonFault bytes)
value_faults bytes value (Ok a) is h = tt
value_faults bytes value (Err fault) is h = value_fault bytes value fault is h

pub not_so : {P : Type 0} (b : Bool) → IsTrue b ↔ P → b ≡ false → ¬ P
not_so true h e = absurd (true≢false e)
not_so false h e = λ p. true≢false (sym (h.1 p))

-- bytes that are not JSON
pub no_json : (bytes : List ℕ) → (IsUtf8 bytes → read bytes ≡ None) → IsJsonFault bytes faults.Syntax
unfolding IsJsonFault
no_json bytes none value is = let same : None ≡ Some value = sym (none is.0) ∙ is.1 in cc

pub says_ends : (bytes : List ℕ) (draft : Draft) → SaysDraft bytes draft → have_known_ends draft ≡ true
says_ends bytes draft says = draft_ends says.0 draft says.2

pub says_arrivals : (bytes : List ℕ) (draft : Draft) → SaysDraft bytes draft → have_known_arrivals draft ≡ true
says_arrivals bytes draft says = draft_arrivals says.0 draft says.2

-- so is one of the draft
pub draft_fault : (bytes : List ℕ) (draft : Draft) (refused : Refused) (fault : JsonFault) → SaysDraft bytes draft → (refused.fault ≡ OutOfMemory)
    ⊎ (case_fault draft ≡ Some refused.fault) → refused.names ≡ draft.names
    → ((refused.fault ≡ OutOfMemory) × (fault ≡ faults.NoMemory)) ⊎ ((refused.fault ≢ OutOfMemory) × (fault ≡ faults.Case refused))
    → IsJsonFault bytes fault
unfolding IsJsonFault
draft_fault bytes draft refused fault t f n (inl (m, e)) = subst (IsJsonFault bytes) (sym e) tt
draft_fault bytes draft refused fault t (inl m) n (inr (o, e)) = absurd (o m)
draft_fault bytes draft refused fault t (inr f) n (inr (o, e)) =
    subst (IsJsonFault bytes) (sym e) (record { draft = draft; says = t; fault_is = f; names_are = n })
