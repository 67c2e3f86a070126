-- Only the end of a text is reported as ended.
use Rattle.std.proofs.Common.{◌≢◌, ℕ, Bool, true, false, List, [], ◌∷◌, map, Option, Some, None, Result, Ok, Err, if◌then◌else◌}
use Rattle.std.specs.Str.{bytes_eq}
use Rattle.field_core.specs.Answers.{and_then, told_as}
use Rattle.case_model.specs.Names.{position_of}
use Rattle.text_lines.specs.Words.{after_words, only_word, only_three}
use Rattle.fraction.specs.Numerals.{numeral_of}
use Rattle.entries.specs.Entries.{entry_of}
use Rattle.edge_text.specs.declared.fault.LineKind.{LineKind}
use Rattle.edge_text.specs.declared.fault.LineKind.TheVariants.{Unexpected, Ended, WordCount, UnknownName, Whole, Number, Expr}
use Rattle.edge_text.specs.Grammar.{Words}
use Rattle.edge_text.specs.WordReading.{found_or, numeral, number, numbers, some_numbers, given, entry, ends_of, edge, is_whole, whole, count, share_words}
use Rattle.edge_text.specs.WordReading.{step_words, shares, step_of, first_step, arrival}

-- what is wrong, if anything, isn't that a text ended
abbrev pub Runs : {A : Type 0} → Result A LineKind → Type 0
Runs r = r ≢ Err Ended

fine : {A : Type 0} (x : A) → Runs (Ok x)
fine x e = cc

other : {A : Type 0} (kind : LineKind) → kind ≢ Ended → Runs {A = A} (Err kind)
other kind n e = n (cc)

chain : {A B : Type 0} (r : Result A LineKind) (next : A → Result B LineKind) → Runs r → ((x : A) → Runs (next x)) → Runs (and_then r next)
chain (Ok x) next h k e = k x e
chain (Err f) next h k e = h (cc)

pub tell : {A F : Type 0} (kind : F → LineKind) (r : Result A F) → ((f : F) → kind f ≢ Ended) → Runs (told_as kind r)
tell kind (Ok x) n e = cc
tell kind (Err f) n e = n f (cc)

found : {A B : Type 0} (o : Option A) (kind : LineKind) (f : A → Result B LineKind) → kind ≢ Ended → ((x : A) → Runs (f x)) → Runs (found_or o kind f)
found (Some x) kind f n h = h x
found None kind f n h = other kind n

choose : {A : Type 0} (b : Bool) (x y : Result A LineKind) → Runs x → Runs y → Runs (if b then x else y)
choose true x y h k = h
choose false x y h k = k

-- ---- words

numeral_runs : (word : List ℕ) → Runs (numeral word)
numeral_runs word = tell Number (numeral_of word) (λ f e. cc)

pub number_runs : (words : Words) → Runs (number words)
number_runs words = found (only_word words) WordCount numeral (λ e. cc) numeral_runs

pub numbers_run : (words : Words) → Runs (numbers words)
numbers_run [] = fine []
numbers_run (word ∷ words) = chain (numeral word) _ (numeral_runs word) (λ x. chain (numbers words) _ (numbers_run words) (λ xs. fine (x ∷ xs)))

some_run : (words : Words) → Runs (some_numbers words)
some_run [] = other WordCount (λ e. cc)
some_run (word ∷ words) = numbers_run (word ∷ words)

pub given_run : (words : Words) → Runs (given words)
given_run words = chain (some_numbers words) _ (some_run words) (λ xs. fine (map Some xs))

pub edge_runs : (names : List (List ℕ)) (line : List ℕ) (words : Words) → Runs (edge names line words)
edge_runs names line words =
    found (ends_of words) WordCount _ (λ e. cc)
    (λ ends. found (position_of ends.0 names) UnknownName _ (λ e. cc)
    (λ from. found (position_of ends.1 names) UnknownName _ (λ e. cc)
    (λ to. chain (entry (after_words 3 line)) _ (tell Expr (entry_of (after_words 3 line)) (λ f e. cc)) (λ weight. fine _))))

whole_runs : (word : List ℕ) → Runs (whole word)
whole_runs word = choose (is_whole word) _ _ (fine _) (other Whole (λ e. cc))

pub count_runs : (words : Words) → Runs (count words)
count_runs words = found (only_word words) WordCount whole (λ e. cc) whole_runs

pub shares_run : (name : List ℕ) (words : Words) → Runs (shares name words)
shares_run name words = found (share_words words) WordCount _ (λ e. cc)
    (λ w. choose (bytes_eq w.0 name) (numbers w.1) (Err Unexpected) (numbers_run w.1) (other Unexpected (λ e. cc)))

pub step_of_runs : (from : List ℕ) (levels : Words) → Runs (step_of from levels)
step_of_runs from levels = chain (numeral from) _ (numeral_runs from) (λ x. chain (numbers levels) _ (numbers_run levels) (λ xs. fine _))

pub first_step_runs : (name : List ℕ) (words : Words) → Runs (first_step name words)
first_step_runs name words = found (step_words words) WordCount _ (λ e. cc)
    (λ w. choose (bytes_eq w.0 name) (step_of w.1 w.2) (Err Unexpected) (step_of_runs w.1 w.2) (other Unexpected (λ e. cc)))

pub arrival_runs : (names : List (List ℕ)) (words : Words) → Runs (arrival names words)
arrival_runs names words =
    found (only_three words) WordCount _ (λ e. cc)
    (λ said. found (position_of said.0 names) UnknownName _ (λ e. cc)
    (λ hypothesis. chain (whole said.1) _ (whole_runs said.1)
    (λ stage. chain (numeral said.2) _ (numeral_runs said.2) (λ p. fine _))))
