-- Texts of cases: which line is allowed at which place, and what it adds.
use Rattle.std.specs.Prelude.{ℕ, ◌++◌, if◌then◌else◌, length, slice_get, Bool, true, false, List, [], ◌∷◌, Option, Some, None, Result, Ok, Err, codes}
use Rattle.std.specs.Str.{bytes_eq}
use Rattle.case_model.specs.declared.draft.Draft.{Draft}
use Rattle.case_model.specs.declared.draft_component.DraftComponent.{DraftComponent}
use Rattle.case_model.specs.declared.spend_step.SpendStep.{SpendStep}
use Rattle.case_model.specs.declared.draft_stages.DraftStages.{DraftStages}
use Rattle.case_model.specs.declared.spend.Spend.TheVariants.{Shares, Table}
use Rattle.edge_text.specs.declared.fault.LineKind.{LineKind}
use Rattle.edge_text.specs.declared.fault.LineKind.TheVariants.{Unexpected, Ended, WordCount}
use Rattle.edge_text.specs.declared.place.Place.{Place}
use Rattle.edge_text.specs.declared.place.Place.TheVariants.{Alpha, Names, Values, Block, Weights, Edges, Spends, Steps}
use Rattle.edge_text.specs.Drafts.{named, with_p, with_component, edgeless, with_edge, with_stages, counted, with_spend, with_arrival}
use Rattle.field_core.specs.Answers.{and_then}
use Rattle.text_lines.specs.Languages.{Language}
use Rattle.edge_text.specs.Grammar.{Words, one}
use Rattle.edge_text.specs.WordReading.{on_keyword, number, numbers, given, edge, count, shares, first_step, step_of, step_words, arrival, found_or}

-- a line at which the first block is required
abbrev pub block : Draft → List ℕ → Result Place LineKind
block d line =
    on_keyword (codes "component") line (λ words. and_then (number words) (λ share. Ok (Weights d share)))
    (on_keyword (codes "weights") line (λ words. and_then (numbers words) (λ weights. Ok (Edges false d (edgeless one weights))))
    (Err Unexpected))

-- the stages, after the last block
abbrev pub stages : Draft → DraftComponent → List ℕ → Result Place LineKind
stages d k line = on_keyword (codes "stages") line (λ words. and_then (count words) (λ n. Ok (Spends (with_component d k) (counted n)))) (Err Unexpected)

-- the next block if blocks have shares, or else the stages
abbrev pub next_block : Bool → Draft → DraftComponent → List ℕ → Result Place LineKind
next_block true d k line = on_keyword (codes "component") line (λ words. and_then (number words) (λ share. Ok (Weights (with_component d k) share))) (stages d k line)
next_block false d k line = stages d k line

-- the name of the hypothesis whose spend is due next, if one is left
abbrev pub due : Draft → DraftStages → Option (List ℕ)
due d s = slice_get d.names (length s.spend)

-- what the hypothesis of this name spends; or, if no name is left, a p-value that arrived
abbrev pub spend_or_arrive : Option (List ℕ) → Draft → DraftStages → List ℕ → Result Place LineKind
spend_or_arrive (Some name) d s line =
    on_keyword (codes "spend") line (λ words. and_then (shares name words) (λ xs. Ok (Spends d (with_spend s (Shares xs)))))
    (on_keyword (codes "table") line (λ words. and_then (first_step name words) (λ t. Ok (Steps d s (t ∷ [])))) (Err Unexpected))
spend_or_arrive None d s line =
    on_keyword (codes "arrive") line (λ words. and_then (arrival d.names words) (λ a. Ok (Spends d (with_arrival s a)))) (Err Unexpected)

-- what the next hypothesis spends, or a p-value that arrived
abbrev pub spends : Draft → DraftStages → List ℕ → Result Place LineKind
spends d s line = spend_or_arrive (due d s) d s line

-- whether this is the name that is due
abbrev pub is_due : List ℕ → Option (List ℕ) → Bool
is_due name (Some n) = bytes_eq name n
is_due name None = false

-- a further step of the table, or else a line that follows the table
abbrev pub further : Draft → DraftStages → List SpendStep → Words → Result Place LineKind → Result Place LineKind
further d s steps words other =
    found_or (step_words words) WordCount (λ w.
    if is_due w.0 (due d s) then and_then (step_of w.1 w.2) (λ t. Ok (Steps d s (steps ++ t ∷ []))) else other)

-- The place after a line, or what is wrong with the line.
abbrev pub step : Place → List ℕ → Result Place LineKind
step Alpha line = on_keyword (codes "alpha") line (λ words. and_then (number words) (λ alpha. Ok (Names alpha))) (Err Unexpected)
step (Names alpha) line = on_keyword (codes "hypotheses") line (λ words. Ok (Values (named alpha words))) (Err Unexpected)
step (Values d) line = on_keyword (codes "p") line (λ words. and_then (given words) (λ p. Ok (Block (with_p d p)))) (block d line)
step (Block d) line = block d line
step (Weights d share) line =
    on_keyword (codes "weights") line (λ words. and_then (numbers words) (λ weights. Ok (Edges true d (edgeless share weights)))) (Err Unexpected)
step (Edges shared d k) line =
    on_keyword (codes "edge") line (λ words. and_then (edge d.names line words) (λ e. Ok (Edges shared d (with_edge k e)))) (next_block shared d k line)
step (Spends d s) line = spends d s line
step (Steps d s steps) line =
    on_keyword (codes "table") line (λ words. further d s steps words (spends d (with_spend s (Table steps)) line)) (spends d (with_spend s (Table steps)) line)

-- the draft, if no name is left
abbrev pub unless_due : Option (List ℕ) → Draft → Result Draft LineKind
unless_due (Some name) d = Err Ended
unless_due None d = Ok d

-- the draft of a text that ends at the place, or the fault that it ends too early
abbrev pub whole : Place → Result Draft LineKind
whole (Edges shared d k) = Ok (with_component d k)
whole Alpha = Err Ended
whole (Names alpha) = Err Ended
whole (Values d) = Err Ended
whole (Block d) = Err Ended
whole (Weights d share) = Err Ended
whole (Spends d s) = unless_due (due d s) (with_stages d s)
whole (Steps d s steps) = unless_due (due d (with_spend s (Table steps))) (with_stages d (with_spend s (Table steps)))

-- the language of cases
abbrev pub cases : Language (List ℕ) Place Draft LineKind
cases = record { line_of = λ text. text; step = step; end = whole }
