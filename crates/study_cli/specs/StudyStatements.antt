-- The laws of studies whose looks are kept, over all kept looks and all commands, and of their outcome, as contracts name them.
use Rattle.std.specs.Prelude.{◌≡◌, ◌++◌, ◌↔◌, ◌⊎◌, ℕ, List, ◌∷◌, length, Some}
use Rattle.field_core.specs.declared.place.WideAt.{WideAt}
use Rattle.graph_io.specs.declared.keeper.Look.{Look}
use Rattle.answers.specs.declared.status.Status.TheVariants.{Done}
use Rattle.answers.specs.Lines.{done}
use Rattle.answers.specs.Stages.{IsDecided}
use Rattle.case_model.specs.Content.{Content}
use Rattle.case_model.specs.LegalOrder.{IsListed}
use Rattle.case_model.specs.StagedCase.{IsStagedRejectedIn}
use Rattle.case_model.specs.Validity.{IsValidContent}
use Rattle.report.specs.StudyReport.{Reply, shown, study_report}
use Rattle.staged_levels.specs.declared.event.Settled.{Settled}
use Rattle.staged_levels.specs.Studies.{StudyState, positions_of}
use Rattle.study_cli.specs.declared.command.StudyCommand.{StudyCommand}
use Rattle.study_register.specs.Looking.{arrivals_of, AreTaken}
use Rattle.study_cli.specs.Replies.{looks_taken, AreReplies, IsFirstBreak, MayTake}
use Rattle.study_cli.specs.StudyOutcome.{study_outcome}
use Rattle.study_cli.specs.StudyStages.{StudyEnd, study_stage}

-- kept looks and commands have one end
abbrev pub StudiesHaveOneEnd : Type 0
StudiesHaveOneEnd = (c : Content) (commands : List StudyCommand) (looks : List Look) → IsDecided (study_stage c commands looks)

-- The rejections of a state are those of the staged closed test on these looks. Whoever takes these looks again, in this order, comes to the same
-- rejections in the same order, with the same stages and weights.
pub record DecidesOn (c : Content) (looks : List Look) (s : StudyState) : Type 0 where
  pub taken : AreTaken c looks s
  pub named : (j : ℕ) → IsListed (positions_of s.rejected) j ↔ IsStagedRejectedIn c (arrivals_of looks) j
  pub again : (t : StudyState) → AreTaken c looks t → t.rejected ≡ s.rejected

-- By any commands, at each moment: what is rejected is what the staged closed test rejects on all looks that were kept and taken.
abbrev pub RepliesDecide : Type 0
RepliesDecide =
    (c : Content) (commands : List StudyCommand) (looks : List Look) (replies : List Reply) (s t : StudyState)
    → IsValidContent c → AreTaken c looks s → AreReplies c 1 s commands replies t
    → DecidesOn c (looks ++ looks_taken replies) t

-- what is shown of these looks: how many they are, and exactly what the staged closed test on them rejects
pub record ShowsLooks (c : Content) (looks : List Look) (number : ℕ) (rejections : List Settled) : Type 0 where
  pub counted : number ≡ length looks
  pub named : (j : ℕ) → IsListed (positions_of rejections) j ↔ IsStagedRejectedIn c (arrivals_of looks) j

-- The answer is the report of these replies after the kept looks, and its looks are those that they report as taken. Each reply to `show` is about
-- the looks that are kept by then.
pub record IsReportOf (c : Content) (looks : List Look) (e : StudyEnd) (replies : List Reply) : Type 0 where
  pub answer_is : e.answer ≡ done (study_report c (length looks) replies)
  pub looks_are : e.looks ≡ looks_taken replies
  pub shows : (before after : List Reply) (number : ℕ) (rejections : List Settled) → replies ≡ before ++ shown number rejections ∷ after
      → ShowsLooks c (looks ++ looks_taken before) number rejections

-- If all commands are answered, the keeper's looks at the end decide. What is reported is the report of replies, each of which shows what the looks
-- decide that are kept by then.
abbrev pub KeptLooksDecide : Type 0
KeptLooksDecide =
    (c : Content) (commands : List StudyCommand) (looks : List Look) (e : StudyEnd) → IsValidContent c
    → (study_stage c commands looks).Gives e → e.answer.status ≡ Done
    → (s : StudyState) × DecidesOn c (looks ++ e.looks) s × (replies : List Reply) × IsReportOf c looks e replies

-- The looks that the commands before some place take are the first of those that all commands take, or that all take before one that stops part
-- way.
abbrev pub TakenLooksAreFirst : Type 0
TakenLooksAreFirst =
    (c : Content) (commands : List StudyCommand) (s : StudyState) (some all : List Look) → MayTake c 1 s commands some
    → ((replies : List Reply) × (t : StudyState) × AreReplies c 1 s commands replies t × (all ≡ looks_taken replies))
    ⊎ ((place : ℕ) × (w : WideAt) × IsFirstBreak c 1 s commands all place w)
    → (more : List Look) × (all ≡ some ++ more)

-- words, the bytes of a case and of commands, and kept looks have at most one outcome. It is one answer with the looks that are added, or one
-- refusal, and not both
abbrev pub StudiesHaveOneOutcome : Type 0
StudiesHaveOneOutcome = (words : List (List ℕ)) (case commands : List ℕ) (looks : List Look)
    → IsDecided (study_outcome words (Some case) (Some commands) (Some looks))
