-- What words, a case, commands and kept looks require: the first stage that refuses decides.
use Rattle.std.specs.Prelude.{◌≡◌, ◌⊎◌, ◌≤◌, ◌+◌, ℕ, List, [], Option, Some, Result, OnOk, codes}
use Rattle.std.specs.Io.KnownBytes.{IsAtEnd}
use Rattle.graph_io.specs.Causes.{Rose}
use Rattle.graph_io.specs.declared.keeper.Look.{Look}
use Rattle.answers.specs.declared.answer.Answer.{Answer}
use Rattle.answers.specs.declared.refusal.Refusal.{Refusal}
use Rattle.answers.specs.declared.stop.Stop.{Stop}
use Rattle.answers.specs.Devices.{Reading, Keeping}
use Rattle.answers.specs.Stages.{Stage, stage_of, and_then, told_as, on_bytes, within}
use Rattle.answers.specs.Ways.{Ways}
use Rattle.case_model.specs.Content.{Content}
use Rattle.command_words.specs.Asked.{StudyAsked}
use Rattle.command_words.specs.Words.{study_in}
use Rattle.text_lines.specs.Faults.{FaultAt}
use Rattle.edge_text.specs.declared.fault.LineKind.{LineKind}
use Rattle.refusals.specs.TextRefusal.{commands_refusal}
use Rattle.refusals.specs.UsageRefusal.{usage}
use Rattle.graph_cli.specs.Accepted.{accepted}
use Rattle.graph_cli.specs.Outcome.{AskStudy}
use Rattle.graph_cli.specs.declared.kind.InputKind.TheVariants.{Awaited}
use Rattle.graph_cli.specs.declared.needs.Needs.{Needs}
use Rattle.study_cli.specs.Asking.{looks_asked}
use Rattle.study_cli.specs.Commands.{commands_of}
use Rattle.study_cli.specs.declared.command.StudyCommand.{StudyCommand}
use Rattle.study_cli.specs.AnswerView.{MayKeep}
use Rattle.study_cli.specs.KeeperWays.{over_keeper}
use Rattle.study_cli.specs.StudyStages.{StudyEnd, HasOpening, study_stage, on_looks}

-- what a study needs of its case: p-values of stages of which none has arrived
unfoldable pub study_needs : Needs
study_needs = record { kind = Awaited; most = 64 }

-- the commands that a text denotes for a case, or the first line that denotes none
abbrev pub commands_in : Content → List ℕ → Stage Refusal (List StudyCommand)
commands_in c bytes = told_as (λ (f : FaultAt LineKind). commands_refusal f.line f.kind) (stage_of (commands_of c.names bytes))

-- the case that a source denotes, if a study can take it
abbrev pub case_of : StudyAsked → Option (List ℕ) → Stage Refusal Content
case_of asked case = accepted asked.format study_needs case

-- the commands that a source denotes for a case
abbrev pub commands_from : Content → Option (List ℕ) → Stage Refusal (List StudyCommand)
commands_from c commands = and_then (on_bytes commands (within (codes "commands "))) (commands_in c)

-- the case, then the commands, then the kept looks and the replies
unfoldable pub study_call : StudyAsked → Option (List ℕ) → Option (List ℕ) → Option (List Look) → Stage Refusal StudyEnd
study_call asked case commands kept = and_then (case_of asked case) (λ c. and_then (commands_from c commands) (λ list. on_looks kept (study_stage c list)))

-- the outcome of words, a case, commands and kept looks
abbrev pub study_outcome : List (List ℕ) → Option (List ℕ) → Option (List ℕ) → Option (List Look) → Stage Refusal StudyEnd
study_outcome words case commands kept = and_then (told_as usage (stage_of (study_in words))) (λ asked. study_call asked case commands kept)

-- the source denotes a case that a study can take
abbrev pub HasStudyCase : StudyAsked → Option (List ℕ) → Type 0
HasStudyCase asked case = (c : Content) × (case_of asked case).Gives c

-- the source denotes no case that a study can take
abbrev pub HasNoStudyCase : StudyAsked → Option (List ℕ) → Type 0
HasNoStudyCase asked case = (r : Refusal) × (case_of asked case).Refuses r

-- also, the source denotes commands
abbrev pub HasStudyCommands : StudyAsked → Option (List ℕ) → Option (List ℕ) → Type 0
HasStudyCommands asked case commands = (c : Content) × (case_of asked case).Gives c × (list : List StudyCommand) × (commands_from c commands).Gives list

-- also, the looks that may be added if the call stops part way
abbrev pub MayBeKept : StudyAsked → Option (List ℕ) → Option (List ℕ) → Option (List Look) → List Look → Type 0
MayBeKept asked case commands kept more =
    (more ≡ []) ⊎ ((c : Content) × (case_of asked case).Gives c × (list : List StudyCommand)
    × (commands_from c commands).Gives list × MayKeep c list kept more)

-- also, the opening of the case is defined
abbrev pub HasStudyOpening : StudyAsked → Option (List ℕ) → Option (List ℕ) → Type 0
HasStudyOpening asked case commands = (c : Content) × (case_of asked case).Gives c
    × (list : List StudyCommand) × (commands_from c commands).Gives list × HasOpening c

-- a keeper was not called; or the source denotes commands, and the calls are at most one more than the looks that they ask for
abbrev pub IsCalledWithin : StudyAsked → Option (List ℕ) → Option (List ℕ) → (before now : ℕ) → Type 0
IsCalledWithin asked case commands before now =
    (now ≡ before) ⊎ ((c : Content) × (case_of asked case).Gives c × (list : List StudyCommand) × (commands_from c commands).Gives list
    × (now ≤ before + (1 + looks_asked list)))

-- the words are those of a study
abbrev pub ReadsCase : List (List ℕ) → Type 0
ReadsCase words = (asked : StudyAsked) × AskStudy words asked

-- also, nothing before the commands refuses
abbrev pub ReadsCommands : List (List ℕ) → Option (List ℕ) → Type 0
ReadsCommands words case = (asked : StudyAsked) × AskStudy words asked × HasStudyCase asked case

-- also, nothing before the kept looks refuses
abbrev pub AsksKeeper : List (List ℕ) → Option (List ℕ) → Option (List ℕ) → Type 0
AsksKeeper words case commands = (asked : StudyAsked) × AskStudy words asked × HasStudyCommands asked case commands

-- the words are those of a study, and the case is refused
abbrev pub RefusesCase : List (List ℕ) → Option (List ℕ) → Type 0
RefusesCase words case = (asked : StudyAsked) × AskStudy words asked × HasNoStudyCase asked case

-- a source that is read had a fault
abbrev pub ReadRose : List (List ℕ) → Option (List ℕ) → Type 0 → Type 0 → Type 0
ReadRose words case case_rose commands_rose = (ReadsCase words × case_rose) ⊎ (ReadsCommands words case × commands_rose)

-- the keeper is asked, after a defined opening, and had a fault
abbrev pub KeeperRose : List (List ℕ) → Option (List ℕ) → Option (List ℕ) → Type 0 → Type 0
KeeperRose words case commands rose = (asked : StudyAsked) × AskStudy words asked × HasStudyOpening asked case commands × rose

-- the looks that may be added if a call with these words stops part way
abbrev pub MayEnd : List (List ℕ) → Option (List ℕ) → Option (List ℕ) → Option (List Look) → List Look → Type 0
MayEnd words case commands kept more = (more ≡ []) ⊎ ((asked : StudyAsked) × AskStudy words asked × MayBeKept asked case commands kept more)

-- a keeper was not called; or the words are those of a study, and `IsCalledWithin` bounds the calls
abbrev pub CallsWithin : List (List ℕ) → Option (List ℕ) → Option (List ℕ) → (before now : ℕ) → Type 0
CallsWithin words case commands before now =
    (now ≡ before) ⊎ ((asked : StudyAsked) × AskStudy words asked × IsCalledWithin asked case commands before now)

-- ---- how a call may end, and what it does to a source

-- The ways in which a study may end, by what its case, its commands and its keeper were and are.
abbrev pub study_ways : StudyAsked → (case_old case_new commands_old commands_new : Reading) → (keeper_old keeper_new : Keeping) → Ways Answer
study_ways asked case_old case_new commands_old commands_new keeper_old keeper_new =
    over_keeper (study_call asked case_old.left commands_old.left keeper_old.looks)
    (MayBeKept asked case_old.left commands_old.left keeper_old.looks)
    (Rose case_old.faults case_new.faults ⊎ (HasStudyCase asked case_old.left × Rose commands_old.faults commands_new.faults))
    (HasStudyOpening asked case_old.left commands_old.left × Rose keeper_old.faults keeper_new.faults)
    ((case_new.faults ≡ case_old.faults) × (commands_new.faults ≡ commands_old.faults)) (keeper_new.faults ≡ keeper_old.faults)
    keeper_old.looks keeper_new.looks keeper_old.calls keeper_new.calls

-- The ways in which a call with these words may end, by what its case, its commands and its keeper were and are.
abbrev pub ways_of : List (List ℕ) → (case_old case_new commands_old commands_new : Reading) → (keeper_old keeper_new : Keeping) → Ways Answer
ways_of words case_old case_new commands_old commands_new keeper_old keeper_new =
    over_keeper (study_outcome words case_old.left commands_old.left keeper_old.looks)
    (MayEnd words case_old.left commands_old.left keeper_old.looks)
    (ReadRose words case_old.left (Rose case_old.faults case_new.faults) (Rose commands_old.faults commands_new.faults))
    (KeeperRose words case_old.left commands_old.left (Rose keeper_old.faults keeper_new.faults))
    ((case_new.faults ≡ case_old.faults) × (commands_new.faults ≡ commands_old.faults)) (keeper_new.faults ≡ keeper_old.faults)
    keeper_old.looks keeper_new.looks keeper_old.calls keeper_new.calls

-- What a call that ends so does to a source. If it doesn't read it, it leaves it as it was. With an answer it has read it to its end.
pub record TakesFrom {S : Type 0} (left : S → Option (List ℕ)) (Reads : Type 0) (old new : S) (result : Result Answer Stop) : Type 0 where
  pub untouched : ¬ Reads → new ≡ old
  pub end : Reads → OnOk result (IsAtEnd (left new))

-- ---- the file of the looks

-- the words are those of a study, and the option `store` is given with this value
abbrev pub NamesStore : List (List ℕ) → List ℕ → Type 0
NamesStore words path = (asked : StudyAsked) × AskStudy words asked × (asked.store ≡ Some path)
