-- What a study answers to commands, after the looks that are kept.
use Rattle.std.specs.Prelude.{◌≡◌, ◌⊎◌, ℕ, List, length, Option, Some, None, Err}
use Rattle.field_core.specs.declared.place.WideAt.{WideAt}
use Rattle.graph_io.specs.declared.keeper.Look.{Look}
use Rattle.answers.specs.declared.answer.Answer.{Answer}
use Rattle.answers.specs.declared.refusal.Refusal.{Refusal}
use Rattle.answers.specs.Lines.{done, refused}
use Rattle.answers.specs.Stages.{Stage, and_then}
use Rattle.case_model.specs.Content.{Content}
use Rattle.entangled.specs.CaseRun.{case_opening}
use Rattle.refusals.specs.RecordRefusal.{record_refusal}
use Rattle.refusals.specs.WideRefusal.{wide_refusal}
use Rattle.refusals.specs.declared.wide.When.TheVariants.{Look as AfterLook}
use Rattle.report.specs.StudyReport.{Reply, study_report}
use Rattle.staged_levels.specs.Looks.{IsDefined}
use Rattle.staged_levels.specs.Studies.{StudyState, start}
use Rattle.study_cli.specs.declared.command.StudyCommand.{StudyCommand}
use Rattle.study_register.specs.declared.fault.RegisterFault.{RegisterFault}
use Rattle.study_register.specs.declared.fault.RegisterFault.TheVariants.{BadLook, Wide, Fault, NoMemory}
use Rattle.study_register.specs.Looking.{AreTaken}
use Rattle.study_register.specs.RegisterFaults.{IsStopped}
use Rattle.study_cli.specs.Replies.{looks_taken, AreReplies, IsFirstBreak}

-- How the commands of a study end: what is answered, and the looks that are added.
pub record StudyEnd : Type 0 where
  pub answer : Answer
  pub looks : List Look

-- why kept looks aren't taken; the opening of the case counts as the look 0
abbrev pub IsOpeningFault : Content → List Look → RegisterFault → Type 0
IsOpeningFault c looks (BadLook n l) = IsStopped c looks (BadLook n l)
IsOpeningFault c looks (Wide n w) = ((n ≡ 0) × (case_opening c ≡ Err w)) ⊎ IsStopped c looks (Wide n w)
IsOpeningFault c looks Fault = ⊥
IsOpeningFault c looks NoMemory = ⊥

-- how that is reported
abbrev pub ReportsOpeningFault : List (List ℕ) → RegisterFault → Refusal → Type 0
ReportsOpeningFault names (BadLook n l) r = r ≡ record_refusal n
ReportsOpeningFault names (Wide n w) r = r ≡ wide_refusal names (AfterLook n) w
ReportsOpeningFault names Fault r = ⊥
ReportsOpeningFault names NoMemory r = ⊥

-- the study of a case that has taken the kept looks; or its undefined opening, or the first look that can't be taken
abbrev pub opened : Content → List Look → Stage Refusal StudyState
opened c looks = record {
  Gives = AreTaken c looks;
  Refuses = λ r. (why : RegisterFault) × IsOpeningFault c looks why × ReportsOpeningFault c.names why r;
}

-- all commands are replied to, and so it is reported
pub record AreAllAnswered (c : Content) (records : ℕ) (commands : List StudyCommand) (s : StudyState) (e : StudyEnd) : Type 0 where
  pub replies : List Reply
  pub end : StudyState
  pub are : AreReplies c 1 s commands replies end
  pub answer_is : e.answer ≡ done (study_report c records replies)
  pub looks_are : e.looks ≡ looks_taken replies

-- a command stops part way; the looks that were taken before stay kept
pub record IsBrokenOff (c : Content) (commands : List StudyCommand) (s : StudyState) (e : StudyEnd) : Type 0 where
  pub place : ℕ
  pub wide : WideAt
  pub first : IsFirstBreak c 1 s commands e.looks place wide
  pub answer_is : e.answer ≡ refused (wide_refusal c.names (AfterLook place) wide)

-- the commands in their order
abbrev pub answering : Content → ℕ → List StudyCommand → StudyState → Stage Refusal StudyEnd
answering c records commands s = record {
  Gives = λ e. AreAllAnswered c records commands s e ⊎ IsBrokenOff c commands s e;
  Refuses = λ r. ⊥;
}

-- the opening of the case is defined
abbrev pub HasOpening : Content → Type 0
HasOpening c = IsDefined c start

-- the kept looks, and then the commands
unfoldable pub study_stage : Content → List StudyCommand → List Look → Stage Refusal StudyEnd
study_stage c commands looks = and_then (opened c looks) (answering c (length looks) commands)

-- a stage on the looks that a keeper holds; on some looks, if it doesn't expose which
abbrev pub on_looks : {R A : Type 0} → Option (List Look) → (List Look → Stage R A) → Stage R A
on_looks (Some looks) s = s looks
on_looks None s = record { Gives = λ x. (looks : List Look) × (s looks).Gives x; Refuses = λ r. (looks : List Look) × (s looks).Refuses r }
