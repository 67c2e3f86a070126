-- `study` prints the rejections of the staged closed test on the looks that are kept at each point.
use Rattle.std.specs.Prelude.{◌≡◌, ◌↔◌, ◌⊎◌, ◌++◌, ℕ, true, List, [], ◌∷◌, Some, length}
use Rattle.graph_io.specs.declared.keeper.Look.{Look}
use Rattle.answers.specs.declared.status.Status.TheVariants.{Done}
use Rattle.case_model.specs.Content.{Content}
use Rattle.case_model.specs.StagedCase.{IsStagedRejectedIn}
use Rattle.command_words.specs.Asked.{StudyAsked}
use Rattle.report.specs.StudyReport.{Reply, taken, shown, is_among, study_report}
use Rattle.staged_levels.specs.declared.event.Settled.{Settled}
use Rattle.staged_levels.specs.Studies.{StudyState}
use Rattle.study_cli.specs.Replies.{looks_taken, AreReplies}
use Rattle.study_cli.specs.StudyStages.{StudyEnd}
use Rattle.study_cli.specs.StudyOutcome.{study_outcome}
use Rattle.study_cli.specs.CommandLines.{AreCommands}
use Rattle.study_cli.specs.declared.command.StudyCommand.{StudyCommand}
use Rattle.study_register.specs.Looking.{arrivals_of, AreTaken}
use Rattle.graph_cli.specs.Laws.{ReportsCase}
use Rattle.graph_cli.specs.Outcome.{AskStudy}

-- A line `show` names the number of the looks, and exactly the hypotheses that the staged closed test rejects on them.
pub record ShowsStagedTest (c : Content) (looks : List Look) (number : ℕ) (rejections : List Settled) : Type 0 where
  pub counted : number ≡ length looks
  pub named : (j : ℕ) → (is_among rejections j ≡ true) ↔ IsStagedRejectedIn c (arrivals_of looks) j

-- The lines `reject` after a look name the hypotheses that the staged closed test rejects with the look, together with those that it rejected before.
abbrev pub BringsRejections : Content → List Look → Look → List Settled → Type 0
BringsRejections c before l added = (j : ℕ) → IsStagedRejectedIn c (arrivals_of (before ++ l ∷ [])) j
    ↔ (IsStagedRejectedIn c (arrivals_of before) j ⊎ (is_among added j ≡ true))

-- The text is the report of the replies to the commands that the bytes denote. The looks that are kept in addition are those that it reports as taken.
pub record ReportsStudy (c : Content) (commands : List ℕ) (kept more : List Look) (text : List ℕ) : Type 0 where
  pub list : List StudyCommand
  pub says : AreCommands c.names commands list
  pub replies : List Reply
  pub first : StudyState
  pub opened : AreTaken c kept first
  pub last : StudyState
  pub replied : AreReplies c 1 first list replies last
  pub text_is : text ≡ study_report c (length kept) replies
  pub looks_are : more ≡ looks_taken replies
  pub shows : (before after : List Reply) (number : ℕ) (rejections : List Settled) → replies ≡ before ++ shown number rejections ∷ after
      → ShowsStagedTest c (kept ++ looks_taken before) number rejections
  pub brings : (before after : List Reply) (l : Look) (added : List Settled) → replies ≡ before ++ taken l added ∷ after
      → BringsRejections c (kept ++ looks_taken before) l added

-- an answer with status 0 to words that request a study reports the staged closed test on the case and on the looks that are kept at each point
abbrev pub StudiesAreOfTheStagedTest : Type 0
StudiesAreOfTheStagedTest = (words : List (List ℕ)) (asked : StudyAsked) (case commands : List ℕ) (kept : List Look) (e : StudyEnd)
    → AskStudy words asked → (study_outcome words (Some case) (Some commands) (Some kept)).Gives e → e.answer.status ≡ Done
    → ReportsCase (λ c. ReportsStudy c commands kept e.looks) asked.format case e.answer.text
