-- No line of a text of a case is refused as an end.
use Rattle.std.proofs.Common.{◌≡◌, ◌≢◌, ℕ, Bool, true, false, List, [], ◌∷◌, ◌++◌, Option, Some, None, Result, Ok, Err, if◌then◌else◌}
use Rattle.std.specs.Prelude.{codes}
use Rattle.std.specs.Option.{option_map}
use Rattle.std.specs.Str.{bytes_eq}
use Rattle.field_core.specs.declared.ratio.Ratio.{Ratio}
use Rattle.case_model.specs.declared.spend.Spend.{Spend}
use Rattle.case_model.specs.declared.spend_step.SpendStep.{SpendStep}
use Rattle.text_lines.specs.Words.{words_of, words_after}
use Rattle.edge_text.specs.declared.fault.LineKind.{LineKind}
use Rattle.edge_text.specs.declared.fault.LineKind.TheVariants.{Ended}
use Rattle.edge_text.specs.Grammar.{Words, one}
use Rattle.edge_text.specs.WordReading.{number, numbers, given, edge, count, shares, first_step, step_of, step_words, arrival}
use Rattle.text_lines.specs.Kinds.{keyed_line, each_after}
use Rattle.edge_text.specs.Document.{if_named, if_step, further_line, edge_line, block, blocks, spend, stages, after_p, document, kinds}
use Rattle.text_lines.proofs.FaultKinds.{LeafRuns, Runs}
use Rattle.edge_text.proofs.Endings.{Runs as Fine, number_runs, numbers_run, given_run, edge_runs, count_runs, shares_run, step_of_runs, first_step_runs, arrival_runs}

some : {A : Type 0} (r : Result A LineKind) → Fine r → ◌≢◌ {A = Option (Result A LineKind)} (Some r) (Some (Err Ended))
some r n e = n (let k : r ≡ Err Ended = cc in k)

key : {A : Type 0} (keyword : List ℕ) (says : Words → Result A LineKind) → ((words : Words) → Fine (says words)) → LeafRuns kinds (keyed_line keyword says)
key {A} keyword says h line = by (words_after keyword (words_of line))
  where
    by : (o : Option Words) → ◌≢◌ {A = Option (Result A LineKind)} (option_map says o) (Some (Err Ended))
    by (Some words) = some (says words) (h words)
    by None = λ e. cc

edges_run : (names : Words) → LeafRuns kinds (edge_line names)
edges_run names line = key (codes "edge") (edge names line) (edge_runs names line) line

further_run : (name : List ℕ) → LeafRuns kinds (further_line name)
further_run name line = by (words_after (codes "table") (words_of line))
  where
    chosen : (w : List ℕ × List ℕ × Words) (b : Bool)
        → ◌≢◌ {A = Option (Result SpendStep LineKind)} (if b then Some (step_of w.1 w.2) else None) (Some (Err Ended))
    chosen w true = some (step_of w.1 w.2) (step_of_runs w.1 w.2)
    chosen w false = λ e. cc

    named : (o : Option (List ℕ × List ℕ × Words)) → if_named name o ≢ Some (Err Ended)
    named (Some w) = chosen w (bytes_eq w.0 name)
    named None = λ e. cc

    by : (o : Option Words) → if_step name o ≢ Some (Err Ended)
    by (Some words) = named (step_words words)
    by None = λ e. cc

block_runs : (names : Words) (share : Ratio) → Runs kinds (block names share)
block_runs names share = (key (codes "weights") numbers numbers_run, (λ weights. ((edges_run names, (λ ys a. tt)), (λ edges. tt))))

blocks_run : (names : Words) → Runs kinds (blocks names)
blocks_run names =
    let shared = key (codes "component") number number_runs in
    (shared, (λ share. (block_runs names share, (λ k. (shared, (λ ks share. block_runs names share))))), (block_runs names one, (λ k. tt)))

spend_runs : (name : List ℕ) → Runs kinds (spend name)
spend_runs name = (
  key (codes "spend") (shares name) (shares_run name),
  (λ xs. tt),
  (key (codes "table") (first_step name) (first_step_runs name), (λ step. ((further_run name, (λ ys a. tt)), (λ steps. tt)))),
)

spends_run : (names : Words) (before : List Spend) → Runs kinds (each_after spend before names)
spends_run [] before = tt
spends_run (name ∷ names) before = (spend_runs name, (λ x. spends_run names (before ++ x ∷ [])))

stages_run : (names : Words) → Runs kinds (stages names)
stages_run names = (
  key (codes "stages") count count_runs,
  (λ n. (spends_run names [], (λ spends. ((key (codes "arrive") (arrival names) (arrival_runs names), (λ ys a. tt)), (λ arrivals. tt))))),
  tt,
)

after_runs : (alpha : Ratio) (names : Words) (p : List (Option Ratio)) → Runs kinds (after_p alpha names p)
after_runs alpha names p = (blocks_run names, (λ ks. (stages_run names, (λ s. tt))))

pub document_runs : Runs kinds document
document_runs = (
  key (codes "alpha") number number_runs,
  (λ alpha. (
    key (codes "hypotheses") (λ words. Ok words) (λ words e. cc),
    (λ names.
        (key (codes "p") given given_run, (λ p. after_runs alpha names p), after_runs alpha names [])),
  )),
)
