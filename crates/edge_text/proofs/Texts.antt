-- Texts that say a draft, and what becomes of it.
use Rattle.std.proofs.Common.{◌≡◌, ◌≢◌, ◌⊎◌, inl, inr, ℕ, Bool, ◌&&◌, true, List, [], ◌∷◌, ◌++◌, length, Option, Some, None, Result, Ok, Err, refl, sym, ap₂, subst, ◌∙◌}
use Rattle.std.specs.Prelude.{nat_lt, codes, IfOk, IfErr}
use Rattle.std.specs.List.{AllByRecursion, list_all}
use Rattle.std.specs.Option.{option_map_or}
use Rattle.std.specs.Str.{bytes_eq}
use Rattle.std.proofs.lemmas.Bool.{lt-ltb}
use Rattle.std.proofs.lemmas.List.Quantifiers.{position-Some}
use Rattle.field_core.specs.declared.ratio.Ratio.{Ratio}
use Rattle.case_model.specs.declared.fault.Refused.{Refused}
use Rattle.case_model.specs.declared.fault.CaseFault.TheVariants.{NoMemory as OutOfMemory}
use Rattle.case_model.specs.declared.draft.Draft.{Draft}
use Rattle.case_model.specs.declared.draft_component.DraftComponent.{DraftComponent}
use Rattle.case_model.specs.declared.draft_edge.DraftEdge.{DraftEdge}
use Rattle.case_model.specs.declared.draft_stages.Arrival.{Arrival}
use Rattle.case_model.specs.declared.draft_stages.DraftStages.{DraftStages}
use Rattle.case_model.specs.CaseFaults.{case_fault}
use Rattle.case_model.specs.Draft.{have_known_ends, have_known_arrivals, arrives_among}
use Rattle.case_model.specs.Names.{position_of}
use Rattle.text_lines.specs.Forms.{Seen, AreMany, Is, IsDocument, texts_seen}
use Rattle.text_lines.specs.Kinds.{keyed_line}
use Rattle.text_lines.specs.Languages.{reading}
use Rattle.text_lines.specs.Lines.{rows_of, end_of}
use Rattle.text_lines.proofs.FormLines.{lines_all}
use Rattle.edge_text.specs.declared.fault.TextFault.{TextFault}
use Rattle.edge_text.specs.declared.fault.TextFault.TheVariants as faults
use Rattle.edge_text.specs.declared.place.Place.TheVariants.{Alpha}
use Rattle.edge_text.specs.Document.{edge_line, block, blocks, stages, after_p, document, IsText}
use Rattle.edge_text.specs.Grammar.{Words, one, IsEdgeLine, IsArriveLine}
use Rattle.edge_text.specs.Places.{cases}
use Rattle.edge_text.specs.Reading.{IsTextFault}
use Rattle.edge_text.specs.View.{GivesAll, IsFaultAt}
use Rattle.edge_text.specs.WordReading.{number, arrival}
use Rattle.edge_text.proofs.FormPlaces.{forms_read}
use Rattle.edge_text.proofs.LinesSaid.{edge_line_is, arrive_line_is}
use Rattle.edge_text.proofs.TextLaws.{says_lines}

abbrev Rows : Type 0
Rows = List (Seen (List ℕ))

-- ---- what the edges and the p-values of a text have in common

-- each edge of a component has a property
abbrev pub EdgesAll : (DraftEdge → Type 0) → DraftComponent → Type 0
EdgesAll P k = AllByRecursion P k.edges

module _ (names : Words) (P : DraftEdge → Type 0) (edges : (line : List ℕ) (e : DraftEdge) → IsEdgeLine names line e → P e) where
  block_all : (share : Ratio) (rows rest : Rows) (k : DraftComponent) → Is (block names share) rows k rest → EdgesAll P k
  block_all share rows rest k h =
      let m = h.3.2 in
      subst (EdgesAll P) (sym h.3.3.0) (subst (AllByRecursion P) (sym m.1)
      (lines_all (edge_line names) P (λ line e q. edges line e (edge_line_is names line e q)) [] m.0 h.1 h.3.1 m.2))

  blocks_many : (before ks : List DraftComponent) (rows rest : Rows) → AreMany (keyed_line (codes "component") number) (λ ks share. Is (block names share)) before rows ks rest
      → AllByRecursion (EdgesAll P) ks
  blocks_many before [] rows rest m = tt
  blocks_many before (k ∷ ks) rows rest m = (block_all m.0 m.1 m.2 k m.4, blocks_many (before ++ k ∷ []) ks m.2 rest m.5)

  blocks_all : (rows rest : Rows) (ks : List DraftComponent) → Is (blocks names) rows ks rest → AllByRecursion (EdgesAll P) ks
  blocks_all rows rest ks (inl h) =
      let m = h.3.3 in
      subst (AllByRecursion (EdgesAll P)) (sym m.1) (block_all h.0 h.1 h.3.1 h.3.0 h.3.2, blocks_many (h.3.0 ∷ []) m.0 h.3.1 rest m.2)
  blocks_all rows rest ks (inr h) =
      subst (AllByRecursion (EdgesAll P)) (sym h.1.3.0) (block_all one rows h.1.1 h.1.0 h.1.2, tt)

-- what follows the names and the p-values
record Body (draft : Draft) : Type 0 where
  rows : Rows
  mid : Rows
  blocks : Is (blocks draft.names) rows draft.components mid
  stages : (rest : Rows) × Is (stages draft.names) mid draft.stages rest

after_body : (alpha : Ratio) (names : Words) (p : List (Option Ratio)) (rows rest : Rows) (draft : Draft) → Is (after_p alpha names p) rows draft rest → Body draft
after_body alpha names p rows rest draft h =
    subst Body (sym h.3.3.0) (record { rows = rows; mid = h.1; blocks = h.2; stages = (h.3.1, h.3.2) })

body : (rows : Rows) (draft : Draft) → IsDocument document rows draft → Body draft
body rows draft h = elim h.3.3 [
  | inl k ↦ after_body h.0 h.3.0 k.0 k.1 [] draft k.3
  | inr k ↦ after_body h.0 h.3.0 [] h.3.1 [] draft k.1
]

text_body : (bytes : List ℕ) (draft : Draft) → IsText bytes draft → Body draft
text_body bytes draft t = body (texts_seen (rows_of bytes)) draft ((says_lines bytes draft).0 t)

-- each edge of a text has what all edges have that lines say
pub text_edges : (bytes : List ℕ) (draft : Draft) (P : DraftEdge → Type 0) → IsText bytes draft
    → ((line : List ℕ) (e : DraftEdge) → IsEdgeLine draft.names line e → P e) → AllByRecursion (EdgesAll P) draft.components
text_edges bytes draft P t edges = let b = text_body bytes draft t in blocks_all draft.names P edges b.rows b.mid draft.components b.blocks

abbrev ArrivalsAll : (Arrival → Type 0) → Option DraftStages → Type 0
ArrivalsAll P None = Unit {0}
ArrivalsAll P (Some s) = AllByRecursion P s.arrivals

arrivals_all : (names : Words) (P : Arrival → Type 0) → ((line : List ℕ) (a : Arrival) → IsArriveLine names line a → P a)
    → (rows rest : Rows) (o : Option DraftStages) → Is (stages names) rows o rest → ArrivalsAll P o
arrivals_all names P arrives rows rest o (inl h) =
    let m = h.3.3.2 in
    subst (ArrivalsAll P) (sym h.3.3.3.0) (subst (AllByRecursion P) (sym m.1)
    (lines_all (keyed_line (codes "arrive") (arrival names)) P (λ line a q. arrives line a (arrive_line_is names line a q)) [] m.0 h.3.1 h.3.3.1 m.2))
arrivals_all names P arrives rows rest o (inr h) = subst (ArrivalsAll P) (sym h.1.0) tt

-- ---- known ends

known : (names : List (List ℕ)) (name : List ℕ) (i : ℕ) → position_of name names ≡ Some i → nat_lt i (length names) ≡ true
known names name i e = lt-ltb i (length names) (position-Some (bytes_eq name) names i [] e).0

all_pass : {A : Type 0} (test : A → Bool) (xs : List A) → AllByRecursion (λ x. test x ≡ true) xs → list_all test xs ≡ true
all_pass test [] h = refl
all_pass test (x ∷ xs) h = ap₂ (λ b c. b && c) h.0 (all_pass test xs h.1)

pub edges_pass : (test : DraftEdge → Bool) (ks : List DraftComponent) → AllByRecursion (EdgesAll (λ e. test e ≡ true)) ks
    → list_all (λ k. list_all test k.edges) ks ≡ true
edges_pass test [] h = refl
edges_pass test (k ∷ ks) h = ap₂ (λ b c. b && c) (all_pass test k.edges h.0) (edges_pass test ks h.1)

pub document_ends : (bytes : List ℕ) (draft : Draft) → IsText bytes draft → have_known_ends draft ≡ true
unfolding have_known_ends
document_ends bytes draft t =
    let names = draft.names in
    let test : DraftEdge → Bool = λ e. nat_lt e.from (length names) && nat_lt e.to (length names) in
    edges_pass test draft.components (text_edges bytes draft (λ e. test e ≡ true) t (λ line e h.
    ap₂ (λ x y. x && y) (known names h.are.from e.from h.are.from_is) (known names h.are.to e.to h.are.to_is)))

pub document_arrivals : (bytes : List ℕ) (draft : Draft) → IsText bytes draft → have_known_arrivals draft ≡ true
unfolding have_known_arrivals
document_arrivals bytes draft t = by draft.stages (arrivals_all names (λ a. test a ≡ true) (λ line a h. known names h.are.name a.hypothesis h.are.name_is)
    b.mid b.stages.0 draft.stages b.stages.1)
  where
    names : Words
    names = draft.names

    test : Arrival → Bool
    test = arrives_among (length names)

    b : Body draft
    b = text_body bytes draft t

    by : (o : Option DraftStages) → ArrivalsAll (λ a. test a ≡ true) o → option_map_or (λ s. list_all (arrives_among (length names)) s.arrivals) o true ≡ true
    by None h = refl
    by (Some s) h = all_pass test s.arrivals h

-- ---- what is read

pub read_found : (bytes : List ℕ) (r : Result Draft TextFault) → GivesAll (reading cases Alpha (rows_of bytes) (end_of bytes)) r → IfOk r (IsText bytes)
read_found bytes (Ok d) g = sym (forms_read (end_of bytes) (rows_of bytes)) ∙ g
read_found bytes (Err fault) g = tt

pub read_fault : (bytes : List ℕ) (r : Result Draft TextFault) → GivesAll (reading cases Alpha (rows_of bytes) (end_of bytes)) r → IfErr r (IsFaultAt bytes)
read_fault bytes (Ok d) g = tt
read_fault bytes (Err (faults.Line n kind)) g = sym (forms_read (end_of bytes) (rows_of bytes)) ∙ g
read_fault bytes (Err (faults.Case refused)) g = g
read_fault bytes (Err faults.NoMemory) g = tt

-- ---- faults

-- a fault of a line is one of the text
pub line_fault : (bytes : List ℕ) (fault : TextFault) → IsFaultAt bytes fault → IsTextFault bytes fault
unfolding IsTextFault
line_fault bytes (faults.Line n kind) f = f
line_fault bytes (faults.Case refused) f = absurd f
line_fault bytes faults.NoMemory f = tt

-- so is one of the draft
pub draft_fault : (bytes : List ℕ) (draft : Draft) (refused : Refused) (fault : TextFault) → IsText bytes draft → (refused.fault ≡ OutOfMemory)
    ⊎ (case_fault draft ≡ Some refused.fault) → refused.names ≡ draft.names
    → ((refused.fault ≡ OutOfMemory) × (fault ≡ faults.NoMemory)) ⊎ ((refused.fault ≢ OutOfMemory) × (fault ≡ faults.Case refused))
    → IsTextFault bytes fault
unfolding IsTextFault
draft_fault bytes draft refused fault t f n (inl (m, e)) = subst (IsTextFault bytes) (sym e) tt
draft_fault bytes draft refused fault t (inl m) n (inr (o, e)) = absurd (o m)
draft_fault bytes draft refused fault t (inr f) n (inr (o, e)) =
    subst (IsTextFault bytes) (sym e) (record { draft = draft; says = t; fault_is = f; names_are = n })
