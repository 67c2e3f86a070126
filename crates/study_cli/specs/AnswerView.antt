-- Replies and ends as contracts see them, with the looks that a keeper holds.
use Rattle.std.specs.Prelude.{◌≡◌, ◌+◌, ◌++◌, ◌⊎◌, ℕ, List, [], length, IfSome, Option, Some, None}
use Rattle.std.specs.List.{flat_map}
use Rattle.graph_io.specs.Causes.{Rose}
use Rattle.graph_io.specs.declared.keeper.Look.{Look}
use Rattle.answers.specs.declared.answer.Answer.{Answer}
use Rattle.answers.specs.Devices.{Keeping}
use Rattle.case_model.specs.Content.{Content}
use Rattle.report.specs.StudyReport.{Reply, reply_lines}
use Rattle.staged_levels.specs.Studies.{StudyState}
use Rattle.study_cli.specs.declared.command.StudyCommand.{StudyCommand}
use Rattle.study_register.specs.Looking.{AreTaken}
use Rattle.study_cli.specs.declared.replying.CommandStop.{CommandStop}
use Rattle.study_cli.specs.declared.replying.CommandStop.TheVariants.{Wide, Fault, NoMemory}
use Rattle.study_cli.specs.Replies.{taken_in, looks_taken, IsReply, AreReplies, IsFirstBreak, MayTake}
use Rattle.study_cli.specs.StudyStages.{StudyEnd}

-- the looks of a keeper with more after them, if it exposes its looks
abbrev pub with_looks : Option (List Look) → List Look → Option (List Look)
with_looks None more = None
with_looks (Some looks) more = Some (looks ++ more)

-- A command was replied to, and the reply was written. A look that was taken is added, by the one call of the keeper; no other is made.
pub record IsRepliedTo (c : Content) (n : ℕ) (old : StudyState) (command : StudyCommand)
    (kept held : Option (List Look)) (before now : ℕ) (text written : List ℕ) (new : StudyState) : Type 0 where
  pub reply : Reply
  pub is : IsReply c n old command reply new
  pub held_is : held ≡ with_looks kept (taken_in reply)
  pub calls_are : now ≡ before + length (taken_in reply)
  pub text_is : written ≡ text ++ reply_lines c reply

-- Commands were replied to in this way, one after another. `before` and `now` count the calls of the keeper.
pub record AreRepliedTo (c : Content) (old : StudyState) (commands : List StudyCommand)
    (kept held : Option (List Look)) (before now : ℕ) (text written : List ℕ) (new : StudyState) : Type 0 where
  pub replies : List Reply
  pub are : AreReplies c 1 old commands replies new
  pub held_is : held ≡ with_looks kept (looks_taken replies)
  pub calls_are : now ≡ before + length (looks_taken replies)
  pub text_is : written ≡ text ++ flat_map (reply_lines c) replies

-- a command was replied to, over a keeper that was and is as these say
abbrev pub RepliesTo : Content → ℕ → StudyState → StudyCommand → (before now : Keeping) → (text written : List ℕ) → StudyState → Type 0
RepliesTo c n old command before now text written new =
    IsRepliedTo c n old command before.looks now.looks before.calls now.calls text written new

-- commands were replied to one after another, over a keeper that was and is as these say
abbrev pub RepliesToAll : Content → StudyState → List StudyCommand → (before now : Keeping) → (text written : List ℕ) → StudyState → Type 0
RepliesToAll c old commands before now text written new =
    AreRepliedTo c old commands before.looks now.looks before.calls now.calls text written new

-- looks are added that may have been taken if the call stopped part way
pub record HoldSome (May : List Look → Type 0) (kept held : Option (List Look)) : Type 0 where
  pub more : List Look
  pub may : May more
  pub held_is : held ≡ with_looks kept more

-- Why commands aren't replied to, the first of which has this number. `before` and `now` count the calls of the keeper: one for each look that is
-- added, and the one that failed.
abbrev pub StopsCommands : Content → Type 0 → ℕ → StudyState → List StudyCommand
    → (kept held : Option (List Look)) → (before now : ℕ) → CommandStop → Type 0
StopsCommands c rose n old commands kept held before now (Wide place w) =
    HoldSome (λ looks. IsFirstBreak c n old commands looks place w × (now ≡ before + length looks)) kept held
StopsCommands c rose n old commands kept held before now Fault =
    rose × HoldSome (λ looks. MayTake c n old commands looks × (now ≡ before + (length looks + 1))) kept held
StopsCommands c rose n old commands kept held before now NoMemory = HoldSome (MayTake c n old commands) kept held

-- why commands aren't replied to, over a keeper that was and is as these say
abbrev pub StopsOver : Content → ℕ → StudyState → List StudyCommand → (before now : Keeping) → CommandStop → Type 0
StopsOver c n old commands before now stop =
    StopsCommands c (Rose before.faults now.faults) n old commands before.looks now.looks before.calls now.calls stop

-- An answer that is required, and its looks are added. The keeper was called once to load its looks, and once for each look that is added.
pub record KeepWith (Gives : StudyEnd → Type 0) (kept held : Option (List Look)) (before now : ℕ) (answer : Answer) : Type 0 where
  pub more : List Look
  pub given : Gives (record { answer = answer; looks = more })
  pub held_is : held ≡ with_looks kept more
  pub calls_are : now ≡ before + (1 + length more)

-- The last call of a keeper failed. It is the one that loads its looks, or it comes after that and after one for each look that is added.
abbrev pub IsLastFailed : (before now : ℕ) → List Look → Type 0
IsLastFailed before now more = ((more ≡ []) × (now ≡ before + 1)) ⊎ (now ≡ before + (2 + length more))

-- the looks that are kept are all taken, and then these looks by the commands before some place
pub record MayTakeAfter (c : Content) (commands : List StudyCommand) (kept : Option (List Look)) (more : List Look) : Type 0 where
  pub looks : List Look
  pub known : IfSome kept (λ them. them ≡ looks)
  pub start : StudyState
  pub opened : AreTaken c looks start
  pub may : MayTake c 1 start commands more

-- the looks that may be added if a call stops part way: none, or those that the commands before some place take
abbrev pub MayKeep : Content → List StudyCommand → Option (List Look) → List Look → Type 0
MayKeep c commands kept more = (more ≡ []) ⊎ MayTakeAfter c commands kept more
