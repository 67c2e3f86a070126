-- Texts of cases: a document as one value, the form of its lines.
use Rattle.std.specs.Prelude.{◌≡◌, ℕ, if◌then◌else◌, List, [], ◌∷◌, Option, Some, None, Result, Ok, Err, codes}
use Rattle.std.specs.Str.{bytes_eq}
use Rattle.field_core.specs.declared.ratio.Ratio.{Ratio}
use Rattle.case_model.specs.declared.draft.Draft.{Draft}
use Rattle.case_model.specs.declared.draft_component.DraftComponent.{DraftComponent}
use Rattle.case_model.specs.declared.draft_edge.DraftEdge.{DraftEdge}
use Rattle.case_model.specs.declared.draft_stages.DraftStages.{DraftStages}
use Rattle.case_model.specs.declared.spend.Spend.{Spend}
use Rattle.case_model.specs.declared.spend.Spend.TheVariants.{Shares, Table}
use Rattle.case_model.specs.declared.spend_step.SpendStep.{SpendStep}
use Rattle.text_lines.specs.Faults.{FaultAt}
use Rattle.text_lines.specs.Forms.{Form, Say, Line, Then, May, Many, Kinds, Leaf, texts_seen, reading}
use Rattle.text_lines.specs.Kinds.{keyed_line, more_lines, each_of}
use Rattle.text_lines.specs.Lines.{rows_of, end_of}
use Rattle.text_lines.specs.Words.{words_of, words_after}
use Rattle.edge_text.specs.declared.fault.LineKind.{LineKind}
use Rattle.edge_text.specs.declared.fault.LineKind.TheVariants.{Unexpected, Ended, WordCount}
use Rattle.edge_text.specs.Grammar.{Words, one}
use Rattle.edge_text.specs.WordReading.{number, numbers, given, edge, count, shares, first_step, step_of, step_words, arrival}

-- lines that say a value of `A`
abbrev pub Lines : Type 0 → Type 1
Lines A = Form (List ℕ) LineKind A

-- ---- lines of which more than the words after the first one counts

-- `edge`: the expression is all that follows the second name
abbrev pub edge_line : Words → Leaf (List ℕ) LineKind DraftEdge
edge_line names line = keyed_line (codes "edge") (edge names line) line

-- a further step of the table of this name; a step of another table is a line of another kind
abbrev pub if_named : List ℕ → Option (List ℕ × List ℕ × Words) → Option (Result SpendStep LineKind)
if_named name (Some w) = if bytes_eq w.0 name then Some (step_of w.1 w.2) else None
if_named name None = Some (Err WordCount)

abbrev pub if_step : List ℕ → Option Words → Option (Result SpendStep LineKind)
if_step name (Some words) = if_named name (step_words words)
if_step name None = None

-- `table`, if it names this table
abbrev pub further_line : List ℕ → Leaf (List ℕ) LineKind SpendStep
further_line name line = if_step name (words_after (codes "table") (words_of line))

-- `component`, with the share of the component that follows
abbrev pub share_line : Leaf (List ℕ) LineKind Ratio
share_line = keyed_line (codes "component") number

-- ---- documents

-- a component of this share: its weights, and then its edges
abbrev pub block : Words → Ratio → Lines DraftComponent
block names share =
    Then (Line (keyed_line (codes "weights") numbers)) (λ weights.
    Then (more_lines (edge_line names) []) (λ edges.
    Say (record { share = share; weights = weights; edges = edges })))

-- One block or more, each after its share; or else one block, of share 1.
abbrev pub blocks : Words → Lines (List DraftComponent)
blocks names =
    May share_line (λ share.
    Then (block names share) (λ k. Many share_line (λ ks share. block names share) (k ∷ [])))
    (Then (block names one) (λ k. Say (k ∷ [])))

-- all lines of the table of this name that follow one another
abbrev pub table : List ℕ → Lines Spend
table name =
    Then (Line (keyed_line (codes "table") (first_step name))) (λ step.
    Then (more_lines (further_line name) (step ∷ [])) (λ steps. Say (Table steps)))

-- What the hypothesis of this name spends: a line of shares, or its table.
abbrev pub spend : List ℕ → Lines Spend
spend name = May (keyed_line (codes "spend") (shares name)) (λ xs. Say (Shares xs)) (table name)

-- The stages, if there are some: their number, what each hypothesis spends, in the order of the names, and the p-values that arrived.
abbrev pub stages : Words → Lines (Option DraftStages)
stages names =
    May (keyed_line (codes "stages") count) (λ n.
    Then (each_of spend names) (λ spends.
    Then (more_lines (keyed_line (codes "arrive") (arrival names)) []) (λ arrivals.
    Say (Some (record { count = n; spend = spends; arrivals = arrivals })))))
    (Say None)

-- what follows the names and these p-values: the components, and then the stages
abbrev pub after_p : Ratio → Words → List (Option Ratio) → Lines Draft
after_p alpha names p =
    Then (blocks names) (λ components.
    Then (stages names) (λ stages.
    Say (record { names = names; alpha = alpha; p = p; components = components; stages = stages })))

-- A case: its level, its names, perhaps its p-values, its components, and perhaps its stages.
abbrev pub document : Lines Draft
document =
    Then (Line (keyed_line (codes "alpha") number)) (λ alpha.
    Then (Line (keyed_line (codes "hypotheses") (λ words. Ok words))) (λ names.
    May (keyed_line (codes "p") given) (after_p alpha names) (after_p alpha names [])))

-- ---- texts

-- what is wrong with a line that is not allowed where it is, and with a text that ends too early
abbrev pub kinds : Kinds LineKind
kinds = record { unexpected = Unexpected; ended = Ended }

-- what a text denotes, or its first fault
abbrev pub text_reading : List ℕ → Result Draft (FaultAt LineKind)
text_reading bytes = reading kinds document (texts_seen (rows_of bytes)) (end_of bytes)

-- the lines of a text that aren't skipped are a document, and it denotes this draft
abbrev pub IsText : List ℕ → Draft → Type 0
IsText bytes draft = text_reading bytes ≡ Ok draft
