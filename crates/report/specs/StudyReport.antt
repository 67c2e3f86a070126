-- What the command `study` prints of a case and its replies to commands.
use Rattle.std.specs.Prelude.{ℕ, ◌==◌, Bool, List, [], ◌++◌, codes}
use Rattle.std.specs.Fmt.{decimal}
use Rattle.std.specs.List.{flat_map, list_any}
use Rattle.answers.specs.Lines.{line}
use Rattle.field_core.specs.View.{terms}
use Rattle.fraction.specs.Spelling.{spelling}
use Rattle.graph_io.specs.declared.keeper.Look.{Look}
use Rattle.case_model.specs.Content.{Content}
use Rattle.staged_levels.specs.declared.event.Settled.{Settled}
use Rattle.staged_levels.specs.declared.event.StepFault.{StepFault}
use Rattle.staged_levels.specs.declared.event.StepFault.TheVariants.{Known, StageRange, PRange, Rejected, NotLegal, Wide}
use Rattle.report.specs.EachText.{each}
use Rattle.report.specs.TestReport.{spaced_name, names_where, alpha_line}
use Rattle.report.specs.StagesReport.{reject_line}

-- A reply to a command.
pub data Reply : Type 0 where
  -- a look was taken, and it brought these rejections
  taken : (look : Look) (rejections : List Settled) → Reply
  -- the command of this number, from 1, requested a look that is refused
  refused : (number : ℕ) (fault : StepFault) → Reply
  -- this number of looks has arrived, and these hypotheses are rejected
  shown : (looks : ℕ) (rejections : List Settled) → Reply

-- the line of a look: the hypothesis, the stage and the p-value
unfoldable pub look_line : Content → Look → List ℕ
look_line case l = line (codes "look" ++ spaced_name case l.hypothesis ++ codes " " ++ decimal l.stage ++ codes " " ++ spelling (terms l.p))

-- the lines of a look, and of the rejections that it brings
unfoldable pub taken_lines : Content → Look → List Settled → List ℕ
taken_lines case l rejections = look_line case l ++ each (λ _ r. reject_line case r) 0 rejections

-- the word for why an arrival is refused, and an empty one if the fault isn't that of an arrival
abbrev pub refusal_word : StepFault → List ℕ
refusal_word (StageRange t) = codes "stage"
refusal_word (Known i t) = codes "known"
refusal_word PRange = codes "range"
refusal_word (Rejected i) = []
refusal_word (NotLegal i) = []
refusal_word (Wide w) = []

-- the line of a look that is refused
unfoldable pub refused_line : ℕ → StepFault → List ℕ
refused_line number fault = line (codes "refused " ++ decimal number ++ codes ": " ++ refusal_word fault)

-- whether the hypothesis at a position is one of the rejected ones
unfoldable pub is_among : List Settled → ℕ → Bool
is_among rejections j = list_any (λ r. r.hypothesis == j) rejections

-- the line of the number of looks and of the names of the rejected hypotheses
unfoldable pub shown_line : Content → ℕ → List Settled → List ℕ
shown_line case looks rejections = line (codes "show looks " ++ decimal looks ++ codes " rejected" ++ names_where case (is_among rejections))

-- the lines of a reply
abbrev pub reply_lines : Content → Reply → List ℕ
reply_lines case (taken l rejections) = taken_lines case l rejections
reply_lines case (refused number fault) = refused_line number fault
reply_lines case (shown looks rejections) = shown_line case looks rejections

-- the lines of the level and of the number of looks that the keeper had before
unfoldable pub opened_lines : Content → ℕ → List ℕ
opened_lines case records = alpha_line case ++ line (codes "records " ++ decimal records)

-- the level, the number of looks that the keeper had before, the replies in their order, and the last line
unfoldable pub study_report : Content → ℕ → List Reply → List ℕ
study_report case records replies = opened_lines case records ++ flat_map (reply_lines case) replies ++ line (codes "end")
