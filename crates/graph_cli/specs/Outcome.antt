-- The answer that words, a case and a proof require: the first stage that refuses decides.
use Rattle.std.specs.Prelude.{◌≡◌, ℕ, ◌⊎◌, List, Option, Some, Ok}
use Rattle.graph_io.specs.Causes.{Rose}
use Rattle.answers.specs.declared.answer.Answer.{Answer}
use Rattle.answers.specs.declared.refusal.Refusal.{Refusal}
use Rattle.answers.specs.Devices.{Reading}
use Rattle.answers.specs.Stages.{Stage, stage_of, and_then, told_as}
use Rattle.answers.specs.Ways.{Ways, over_source}
use Rattle.command_words.specs.Asked.{Asked, StudyAsked, file_of}
use Rattle.command_words.specs.Words.{asked_in, study_in}
use Rattle.refusals.specs.UsageRefusal.{usage}
use Rattle.graph_cli.specs.Commands.{call_of, TakesCase, TakesProof, StopsAtCase}

-- the outcome of words, a case and a proof
abbrev pub outcome : List (List ℕ) → Option (List ℕ) → Option (List ℕ) → Stage Refusal Answer
outcome words case proof = and_then (told_as usage (stage_of (asked_in words))) (λ command. call_of command case proof)

-- words are accepted, and request this command
abbrev pub AskFor : List (List ℕ) → Asked → Type 0
AskFor words command = asked_in words ≡ Ok command

-- words are accepted, and request this of a study
abbrev pub AskStudy : List (List ℕ) → StudyAsked → Type 0
AskStudy words asked = study_in words ≡ Ok asked

-- the word at this place, from 0, names the file of a proof, or that of the commands of a study
abbrev pub NamesFile : List (List ℕ) → ℕ → Type 0
NamesFile words place =
    ((command : Asked) × AskFor words command × (file_of command ≡ Some place)) ⊎ ((asked : StudyAsked) × AskStudy words asked × (asked.file ≡ place))

-- the words request a command that reads a case
abbrev pub ReadsCase : List (List ℕ) → Type 0
ReadsCase words = (command : Asked) × AskFor words command × TakesCase command

-- the words request a command that reads a proof, and nothing before the proof refuses
abbrev pub ReadsProof : List (List ℕ) → Option (List ℕ) → Type 0
ReadsProof words case = (command : Asked) × AskFor words command × TakesProof command case

-- the words request a command that reads a proof, and the case before the proof is refused
abbrev pub RefusesCase : List (List ℕ) → Option (List ℕ) → Type 0
RefusesCase words case = (command : Asked) × AskFor words command × StopsAtCase command case

-- a source that is read had a fault
abbrev pub ReadRose : List (List ℕ) → Option (List ℕ) → Type 0 → Type 0 → Type 0
ReadRose words case case_rose proof_rose = (ReadsCase words × case_rose) ⊎ (ReadsProof words case × proof_rose)

-- The ways in which a call with these words may end, by what its case and its proof were and are.
abbrev pub ways_of : List (List ℕ) → (case_old case_new proof_old proof_new : Reading) → Ways Answer
ways_of words case_old case_new proof_old proof_new = over_source (outcome words case_old.left proof_old.left)
    (ReadRose words case_old.left (Rose case_old.faults case_new.faults) (Rose proof_old.faults proof_new.faults))
    ((case_new.faults ≡ case_old.faults) × (proof_new.faults ≡ proof_old.faults))
