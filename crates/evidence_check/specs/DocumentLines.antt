-- The lines of evidence: what each says, and the words that say it.
use Rattle.std.specs.Prelude.{ℕ, ◌+◌, ◌&&◌, if◌then◌else◌, List, [], ◌∷◌, Option, Some, None, Result, Ok, Err, codes}
use Rattle.std.specs.Fmt.{decimal}
use Rattle.std.specs.Str.{bytes_eq}
use Rattle.field_core.specs.Kind.{Parts}
use Rattle.text_lines.specs.Words.{only_word, only_three}
use Rattle.text_lines.specs.Forms.{Kinds, Leaf}
use Rattle.text_lines.specs.Kinds.{keyed_words}
use Rattle.evidence_check.specs.declared.fault.ProofKind.{ProofKind}
use Rattle.evidence_check.specs.declared.fault.ProofKind.TheVariants.{Unexpected, Ended, WordCount, Version, UnknownName, FlowPlace, ExitPlace, Number}
use Rattle.evidence_check.specs.declared.quantity.Quantity.{Quantity}
use Rattle.evidence_check.specs.declared.quantity.Quantity.TheVariants.{Flow, Exit}

-- the words of a line
abbrev pub Words : Type 0
Words = List (List ℕ)

-- What the lines refer to in a case: the names of its hypotheses and their positions, the number of its components, and the hypotheses other than
-- those listed. Also its numbers and their texts.
pub record Frame : Type 0 where
  pub name : ℕ → List ℕ
  pub position : List ℕ → Option ℕ
  pub components : ℕ
  pub others : List ℕ → List ℕ
  pub number : List ℕ → Option Parts
  pub text : Parts → List ℕ

-- what is wrong with a line that is not allowed where it is, and with a document that ends before `end`
abbrev pub kinds : Kinds ProofKind
kinds = record { unexpected = Unexpected; ended = Ended }

-- the first word of the line of a number
abbrev pub keyword : Quantity → List ℕ
keyword Flow = codes "flow"
keyword Exit = codes "exit"

-- what is wrong if the component or the name of a number isn't the one that must be there
abbrev pub place_fault : Quantity → ProofKind
place_fault Flow = FlowPlace
place_fault Exit = ExitPlace

-- what is found continues, or else this is wrong
abbrev pub found_or : {A B : Type 0} → Option A → ProofKind → (A → Result B ProofKind) → Result B ProofKind
found_or (Some x) kind f = f x
found_or None kind f = Err kind

-- ---- what a line says: the first word, the number of words, and then the words from left to right

-- a line of this first word, and of one word after it
abbrev pub one_after : {A : Type 0} → List ℕ → (List ℕ → Result A ProofKind) → Leaf Words ProofKind A
one_after first f = keyed_words first (λ rest. found_or (only_word rest) WordCount f)

-- the line of the version
abbrev pub version_line : Leaf Words ProofKind ℕ
version_line = one_after (codes "evidence") (λ v. if bytes_eq v (codes "1") then Ok 1 else (if bytes_eq v (codes "2") then Ok 2 else Err Version))

-- the line of a step, by the name of its hypothesis
abbrev pub step_line : Frame → Leaf Words ProofKind ℕ
step_line F = one_after (codes "step") (λ name. found_or (F.position name) UnknownName (λ j. Ok j))

-- the line of a number of this component and this hypothesis
abbrev pub number_line : Frame → Quantity → ℕ → ℕ → Leaf Words ProofKind Parts
number_line F q c h = keyed_words (keyword q) (λ rest. found_or (only_three rest) WordCount (λ ws.
    if bytes_eq ws.0 (decimal (c + 1)) && bytes_eq ws.1 (F.name h) then found_or (F.number ws.2) Number (λ x. Ok x) else Err (place_fault q)))

-- the line of a keep of this hypothesis
abbrev pub keep_line : Frame → ℕ → Leaf Words ProofKind ℕ
keep_line F h = one_after (codes "keep") (λ name. if bytes_eq name (F.name h) then Ok h else Err Unexpected)

-- no word
abbrev pub nothing : Words → Result (Unit {0}) ProofKind
nothing [] = Ok tt
nothing (w ∷ ws) = Err WordCount

-- the line of the end
abbrev pub end_line : Leaf Words ProofKind (Unit {0})
end_line = keyed_words (codes "end") nothing

-- ---- the words of a line

abbrev pub version_words : ℕ → Words
version_words v = codes "evidence" ∷ decimal v ∷ []

abbrev pub step_words : Frame → ℕ → Words
step_words F h = codes "step" ∷ F.name h ∷ []

abbrev pub number_words : Frame → Quantity → ℕ → ℕ → Parts → Words
number_words F q c h x = keyword q ∷ decimal (c + 1) ∷ F.name h ∷ F.text x ∷ []

abbrev pub keep_words : Frame → ℕ → Words
keep_words F h = codes "keep" ∷ F.name h ∷ []

abbrev pub end_words : Words
end_words = codes "end" ∷ []
