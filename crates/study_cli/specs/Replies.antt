-- The replies of a study to commands, one by one (this project's own).
use Rattle.std.specs.Prelude.{◌≡◌, ◌+◌, ◌++◌, ◌⊎◌, ℕ, List, [], ◌∷◌, length}
use Rattle.field_core.specs.declared.place.WideAt.{WideAt}
use Rattle.graph_io.specs.declared.keeper.Look.{Look}
use Rattle.case_model.specs.Content.{Content}
use Rattle.staged_levels.specs.Looks.{IsLook, IsWideLook}
use Rattle.staged_levels.specs.Studies.{StudyState}
use Rattle.staged_levels.specs.StudyAnswers.{IsArriveFault}
use Rattle.study_cli.specs.declared.command.StudyCommand.{StudyCommand}
use Rattle.study_cli.specs.declared.command.StudyCommand.TheVariants.{Take, Show}
use Rattle.study_register.specs.Looking.{arrival_of}
use Rattle.report.specs.StudyReport.{Reply, taken, refused, shown}

-- the look that a reply reports as taken
abbrev pub taken_in : Reply → List Look
taken_in (taken l rejections) = l ∷ []
taken_in (refused number fault) = []
taken_in (shown looks rejections) = []

-- the looks that were taken, in their order
abbrev pub looks_taken : List Reply → List Look
looks_taken [] = []
looks_taken (r ∷ rs) = taken_in r ++ looks_taken rs

module _ (c : Content) where
  -- The reply to the command of this number. A look that is refused changes nothing.
  abbrev pub IsReply : ℕ → StudyState → StudyCommand → Reply → StudyState → Type 0
  IsReply n old (Take l) (taken m added) new = (m ≡ l) × IsLook c old (arrival_of l) added new
  IsReply n old (Take l) (refused m fault) new = (m ≡ n) × IsArriveFault c old (arrival_of l) fault × (new ≡ old)
  IsReply n old (Take l) (shown looks rejections) new = ⊥
  IsReply n old Show (taken m added) new = ⊥
  IsReply n old Show (refused m fault) new = ⊥
  IsReply n old Show (shown looks rejections) new = (looks ≡ length old.values) × (rejections ≡ old.rejected) × (new ≡ old)

  -- the replies to commands, the first of which has this number
  abbrev pub AreReplies : ℕ → StudyState → List StudyCommand → List Reply → StudyState → Type 0
  AreReplies n old [] [] new = new ≡ old
  AreReplies n old [] (r ∷ rs) new = ⊥
  AreReplies n old (x ∷ xs) [] new = ⊥
  AreReplies n old (x ∷ xs) (r ∷ rs) new = (mid : StudyState) × IsReply n old x r mid × AreReplies (n + 1) mid xs rs new

  -- the command asks for a look that stops part way; it would be the look of this place, counted from 1
  abbrev pub IsBreak : StudyState → StudyCommand → ℕ → WideAt → Type 0
  IsBreak s (Take l) place w = (place ≡ length s.values + 1) × IsWideLook c s (arrival_of l) w
  IsBreak s Show place w = ⊥

  -- of commands, the first of which has this number, all before one are replied to, by which these looks are taken, and that one stops part
  -- way
  abbrev pub IsFirstBreak : ℕ → StudyState → List StudyCommand → List Look → ℕ → WideAt → Type 0
  IsFirstBreak n old [] looks place w = ⊥
  IsFirstBreak n old (x ∷ xs) looks place w =
      ((looks ≡ []) × IsBreak old x place w)
      ⊎ ((r : Reply) × (mid : StudyState) × (more : List Look) × IsReply n old x r mid
      × (looks ≡ taken_in r ++ more) × IsFirstBreak (n + 1) mid xs more place w)

  -- these looks are taken by the replies to all commands before some place
  abbrev pub MayTake : ℕ → StudyState → List StudyCommand → List Look → Type 0
  MayTake n old [] looks = looks ≡ []
  MayTake n old (x ∷ xs) looks =
      (looks ≡ [])
      ⊎ ((r : Reply) × (mid : StudyState) × (more : List Look) × IsReply n old x r mid × (looks ≡ taken_in r ++ more) × MayTake (n + 1) mid xs more)
