-- The files that words name.
use Rattle.std.proofs.Common.{◌≡◌, inl, inr, sym, subst, ℕ, List, Some, None}
use Rattle.std.specs.Prelude.{IfSome, Err}
use Rattle.std.specs.declared.option.Option.{Option}
use Rattle.command_words.specs.Asked.{Asked, file_of}
use Rattle.command_words.specs.Words.{asked_in, study_in}
use Rattle.answers.proofs.Decided.{stage_decided}
use Rattle.command_words.proofs.Readings.{one_reader}
use Rattle.graph_cli.specs.Outcome.{AskFor, NamesFile}

same_file : (o : Option ℕ) (i : ℕ) → o ≡ None → o ≡ Some i → ⊥
same_file o i h k = cc

-- the file of a command that is requested
pub file_by : (words : List (List ℕ)) (command : Asked) (place : Option ℕ) → AskFor words command → place ≡ file_of command
    → IfSome place (NamesFile words)
file_by words command None asks e = tt
file_by words command (Some place) asks e = inl (command, asks, sym e)

-- a command that names no file is requested
pub no_file_by : (words : List (List ℕ)) (command : Asked) (place : ℕ) → AskFor words command → file_of command ≡ None → ¬ NamesFile words place
no_file_by words command place asks none (inl h) =
    let same : h.0 ≡ command = (stage_decided (asked_in words)).one h.0 command h.1 asks in
    same_file (file_of command) place none (subst (λ x. file_of x ≡ Some place) same h.2)
no_file_by words command place asks none (inr h) = one_reader words command h.0 asks h.1

-- no reading of the words succeeds
pub no_file_read : (words : List (List ℕ)) (m n place : ℕ) → asked_in words ≡ Err m → study_in words ≡ Err n → ¬ NamesFile words place
no_file_read words m n place h k (inl f) = (stage_decided (asked_in words)).not_both f.0 m f.1 h
no_file_read words m n place h k (inr f) = (stage_decided (study_in words)).not_both f.0 n f.1 k
