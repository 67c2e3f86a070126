-- The stages that commands have in common: the case is read, and tested whether the command can take it.
use Rattle.std.specs.Prelude.{◌≡◌, ◌⊎◌, ◌+◌, ◌≤◌, ℕ, List, [], Option, length}
use Rattle.std.specs.Io.KnownBytes.{IsAtEnd}
use Rattle.graph_io.specs.Reading.{TookAtMost}
use Rattle.answers.specs.declared.refusal.Refusal.{Refusal}
use Rattle.answers.specs.Stages.{Stage, stage_of, given_unless, given_if, and_then, told_as, on_bytes, within, most_bytes}
use Rattle.case_model.specs.CaseFaults.{case_fault}
use Rattle.case_model.specs.declared.inputs.Inputs.{Inputs}
use Rattle.case_model.specs.declared.inputs.Inputs.TheVariants.{Bare as NoValues, Single as Values, Staged as Stages}
use Rattle.case_model.specs.Content.{Content, content_of}
use Rattle.case_model.specs.declared.draft.Draft.{Draft}
use Rattle.command_words.specs.Asked.{Encoding, text, csv, json}
use Rattle.text_lines.specs.Faults.{FaultAt}
use Rattle.edge_text.specs.Document.{text_reading}
use Rattle.edge_text.specs.declared.fault.LineKind.{LineKind}
use Rattle.case_csv.specs.Answers.{RowFault}
use Rattle.case_csv.specs.Table.{cells_of, table_of}
use Rattle.case_json.specs.Reading.{SaysDraft, HasFirstFault}
use Rattle.case_json.specs.Values.{IsJson}
use Rattle.case_json.specs.declared.fault.JsonFault.{JsonFault}
use Rattle.serde_json.specs.Data.{Data}
use Rattle.refusals.specs.CaseRefusal.{case_refusal}
use Rattle.refusals.specs.CellRefusal.{cell_refusal}
use Rattle.refusals.specs.JsonRefusal.{syntax_refusal, json_refusal}
use Rattle.refusals.specs.TextRefusal.{line_refusal}
use Rattle.graph_cli.specs.declared.kind.InputKind.{InputKind}
use Rattle.graph_cli.specs.declared.kind.InputKind.TheVariants.{Any, Single, Staged, Awaited}
use Rattle.graph_cli.specs.declared.needs.Needs.{Needs}
use Rattle.graph_cli.specs.declared.trouble.Trouble.{Trouble}
use Rattle.graph_cli.specs.declared.trouble.Trouble.TheVariants as troubles
use Rattle.graph_cli.specs.Troubles.{line_of}

-- An input is at its end, or at most one byte more than an input may have was taken from it. In both cases the number of takes is at most this number
-- of bytes.
pub record IsTakenWithin {S : Type 0} (left : S → Option (List ℕ)) (calls : S → ℕ) (old new : S) : Type 0 where
  pub taken : IsAtEnd (left new) ⊎ TookAtMost (left old) (left new) (most_bytes + 1)
  pub turns : calls new ≤ calls old + (most_bytes + 1)

-- the bytes are the JSON of no value
abbrev pub IsNoJson : List ℕ → Type 0
IsNoJson bytes = (value : Data) → ¬ IsJson bytes value

-- the draft that bytes denote in a format, or the first place at which they are not allowed
abbrev pub grammar : Encoding → List ℕ → Stage Refusal Draft
grammar text bytes = told_as (λ (f : FaultAt LineKind). line_refusal f.line f.kind) (stage_of (text_reading bytes))
grammar (csv alpha) bytes = told_as (λ (f : RowFault). cell_refusal f.row f.column f.kind) (stage_of (table_of alpha (cells_of bytes)))
grammar json bytes = record {
  Gives = λ d. SaysDraft bytes d;
  Refuses = λ r. (IsNoJson bytes × (r ≡ syntax_refusal)) ⊎ ((fault : JsonFault) × HasFirstFault bytes fault × (r ≡ json_refusal fault));
}

-- the case of a draft, or its first fault
abbrev pub faultless : Draft → Stage Refusal Content
faultless d = told_as (case_refusal d.names) (given_unless (case_fault d) (content_of d))

-- the case that bytes denote in a format
abbrev pub case_in : Encoding → List ℕ → Stage Refusal Content
case_in format bytes = and_then (grammar format bytes) faultless

-- p-values are of a kind
abbrev pub IsOfKind : InputKind → Inputs → Type 0
IsOfKind Any inputs = Unit {0}
IsOfKind Single (Values ps) = Unit {0}
IsOfKind Single NoValues = ⊥
IsOfKind Single (Stages stages) = ⊥
IsOfKind Staged (Stages stages) = Unit {0}
IsOfKind Staged NoValues = ⊥
IsOfKind Staged (Values ps) = ⊥
IsOfKind Awaited (Stages stages) = stages.arrivals ≡ []
IsOfKind Awaited NoValues = ⊥
IsOfKind Awaited (Values ps) = ⊥

-- a case with p-values of a kind
abbrev pub of_kind : InputKind → Content → Stage Trouble Content
of_kind kind c = given_if (IsOfKind kind c.inputs) c troubles.Kind

-- a case of at most this number of hypotheses
abbrev pub of_size : ℕ → Content → Stage Trouble Content
of_size most c = given_if (length c.names ≤ most) c (troubles.Closure (length c.names))

-- a case that a command with these needs can take
abbrev pub suitable : Needs → Content → Stage Trouble Content
suitable needs c = and_then (of_kind needs.kind c) (of_size needs.most)

-- the case that a source denotes in a format, if a command with these needs can take it
abbrev pub accepted : Encoding → Needs → Option (List ℕ) → Stage Refusal Content
accepted format needs left = and_then (on_bytes left (within [])) (λ bytes. and_then (case_in format bytes) (λ c. told_as (line_of c.names) (suitable needs c)))
