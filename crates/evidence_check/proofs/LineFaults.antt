-- No line is reported as the end of a text.
use Rattle.std.proofs.Common.{◌≡◌, ◌≢◌, ◌&&◌, ℕ, Bool, true, false, if◌then◌else◌, List, [], ◌∷◌, ◌++◌, Option, Some, None, Result, Ok, Err}
use Rattle.std.specs.Prelude.{◌+◌, codes}
use Rattle.std.specs.Fmt.{decimal}
use Rattle.std.specs.List.{range_with_len}
use Rattle.std.specs.Option.{option_map}
use Rattle.std.specs.Str.{bytes_eq}
use Rattle.text_lines.specs.Words.{words_after, only_word, only_three}
use Rattle.text_lines.specs.Forms.{Line}
use Rattle.text_lines.specs.Kinds.{keyed_words, each_after}
use Rattle.text_lines.proofs.FaultKinds.{LeafRuns, Runs}
use Rattle.evidence_check.specs.declared.fault.ProofKind.{ProofKind}
use Rattle.evidence_check.specs.declared.fault.ProofKind.TheVariants.{Unexpected, Ended, WordCount, Version, UnknownName, Number}
use Rattle.evidence_check.specs.declared.quantity.Quantity.{Quantity}
use Rattle.evidence_check.specs.declared.quantity.Quantity.TheVariants.{Flow, Exit}
use Rattle.evidence_check.specs.EvidenceParts.{StepParts}
use Rattle.evidence_check.specs.DocumentLines.{Words, Frame, kinds, found_or, place_fault, keyword, nothing, version_line, step_line, number_line, keep_line, end_line}
use Rattle.evidence_check.specs.Document.{Lines, component_numbers, numbers, named, step, keep, kept, last, document}

-- what is wrong, if anything, isn't that a text ended
abbrev Fine : {A : Type 0} → Result A ProofKind → Type 0
Fine r = r ≢ Err Ended

found : {A B : Type 0} (o : Option A) (kind : ProofKind) (f : A → Result B ProofKind) → kind ≢ Ended → ((x : A) → Fine (f x)) → Fine (found_or o kind f)
found (Some x) kind f n h = h x
found None kind f n h = λ e. n (cc)

choose : {A : Type 0} (b : Bool) (x y : Result A ProofKind) → Fine x → Fine y → Fine (if b then x else y)
choose true x y h k = h
choose false x y h k = k

key : {A : Type 0} (first : List ℕ) (f : Words → Result A ProofKind) → ((ws : Words) → Fine (f ws)) → LeafRuns kinds (keyed_words first f)
key {A} first f h line = by (words_after first line)
  where
    some : (r : Result A ProofKind) → Fine r → ◌≢◌ {A = Option (Result A ProofKind)} (Some r) (Some (Err Ended))
    some r n e = n (let k : r ≡ Err Ended = cc in k)

    by : (o : Option Words) → ◌≢◌ {A = Option (Result A ProofKind)} (option_map f o) (Some (Err Ended))
    by (Some words) = some (f words) (h words)
    by None = λ e. cc

version_runs : LeafRuns kinds version_line
version_runs = key (codes "evidence") _ (λ rest. found (only_word rest) WordCount _ (λ e. cc) (λ v.
    choose (bytes_eq v (codes "1")) (Ok 1) _ (λ e. cc) (choose (bytes_eq v (codes "2")) (Ok 2) (Err Version) (λ e. cc) (λ e. cc))))

end_runs : LeafRuns kinds end_line
end_runs = key (codes "end") nothing by
  where
    by : (ws : Words) → Fine (nothing ws)
    by [] = λ e. cc
    by (w ∷ ws) = λ e. cc

place_fine : (q : Quantity) → place_fault q ≢ Ended
place_fine Flow = λ e. cc
place_fine Exit = λ e. cc

each_runs : {X A : Type 0} (f : X → Lines A) → ((x : X) → Runs kinds (f x)) → (before : List A) (xs : List X) → Runs kinds (each_after f before xs)
each_runs f h before [] = tt
each_runs f h before (x ∷ xs) = (h x, (λ a. each_runs f h (before ++ a ∷ []) xs))

module _ (F : Frame) where
  step_line_runs : LeafRuns kinds (step_line F)
  step_line_runs = key (codes "step") _ (λ rest. found (only_word rest) WordCount _ (λ e. cc) (λ name. found (F.position name) UnknownName _ (λ e. cc) (λ j. λ e. cc)))

  number_runs : (q : Quantity) (c h : ℕ) → LeafRuns kinds (number_line F q c h)
  number_runs q c h = key (keyword q) _ (λ rest. found (only_three rest) WordCount _ (λ e. cc) (λ ws.
      choose (bytes_eq ws.0 (decimal (c + 1)) && bytes_eq ws.1 (F.name h)) _ (Err (place_fault q))
      (found (F.number ws.2) Number _ (λ e. cc) (λ x. λ e. cc)) (λ e. place_fine q (cc))))

  keep_line_runs : (h : ℕ) → LeafRuns kinds (keep_line F h)
  keep_line_runs h = key (codes "keep") _ (λ rest. found (only_word rest) WordCount _ (λ e. cc) (λ name.
      choose (bytes_eq name (F.name h)) (Ok h) (Err Unexpected) (λ e. cc) (λ e. cc)))

  numbers_run : (q : Quantity) (js : List ℕ) → Runs kinds (numbers F q js)
  numbers_run q js = each_runs (component_numbers F q js) (λ c. each_runs (λ j. Line (number_line F q c j)) (λ j. number_runs q c j) [] js) []
      (range_with_len 0 F.components)

  step_runs : (ss : List StepParts) (j : ℕ) → Runs kinds (step F ss j)
  step_runs ss j = (numbers_run Flow (named ss), (λ flows. tt))

  keep_runs : (js : List ℕ) (k : ℕ) → Runs kinds (keep F js k)
  keep_runs js k = (keep_line_runs k, (λ h. (numbers_run Exit js, (λ exits. tt))))

  last_runs : (v : ℕ) (ss : List StepParts) → Runs kinds (last F v ss)
  last_runs v ss = (each_runs (keep F (named ss)) (keep_runs (named ss)) [] (kept F v (named ss)), (λ ks. (end_runs, (λ u. tt))))

  pub document_runs : Runs kinds (document F)
  document_runs = (version_runs, (λ v. ((step_line_runs, step_runs), (λ ss. last_runs v ss))))
