-- The lines of evidence, in order.
use Rattle.std.specs.Prelude.{ℕ, suc, List, [], ◌∷◌, ◌++◌, map}
use Rattle.field_core.specs.Kind.{Parts}
use Rattle.evidence_check.specs.declared.quantity.Quantity.{Quantity}
use Rattle.evidence_check.specs.declared.quantity.Quantity.TheVariants.{Flow, Exit}
use Rattle.evidence_check.specs.EvidenceParts.{StepParts, KeepParts}
use Rattle.evidence_check.specs.DocumentLines.{Words, Frame, version_words, step_words, number_words, keep_words, end_words}

module _ (F : Frame) where
  -- the numbers of a component, one for each of these hypotheses
  abbrev pub number_lines : Quantity → ℕ → List ℕ → List Parts → List Words
  number_lines q c [] xs = []
  number_lines q c (j ∷ js) [] = []
  number_lines q c (j ∷ js) (x ∷ xs) = number_words F q c j x ∷ number_lines q c js xs

  -- the numbers of the components from `c` on
  abbrev pub list_lines : Quantity → ℕ → List ℕ → List (List Parts) → List Words
  list_lines q c js [] = []
  list_lines q c js (xs ∷ lists) = number_lines q c js xs ++ list_lines q (suc c) js lists

  -- steps, after steps of these hypotheses: each with its flows
  abbrev pub step_lines : List ℕ → List StepParts → List Words
  step_lines js [] = []
  step_lines js (s ∷ ss) = step_words F s.hypothesis ∷ list_lines Flow 0 js s.flows ++ step_lines (js ++ s.hypothesis ∷ []) ss

  -- keeps, after steps of these hypotheses: each with its exits
  abbrev pub keep_lines : List ℕ → List KeepParts → List Words
  keep_lines js [] = []
  keep_lines js (x ∷ xs) = keep_words F x.hypothesis ∷ list_lines Exit 0 js x.exits ++ keep_lines js xs

  -- the lines of evidence: the version, the steps, the keeps, and the end
  abbrev pub evidence_lines : ℕ → List StepParts → List KeepParts → List Words
  evidence_lines version steps keeps =
      version_words version ∷ step_lines [] steps ++ keep_lines (map (λ s. s.hypothesis) steps) keeps ++ end_words ∷ []
