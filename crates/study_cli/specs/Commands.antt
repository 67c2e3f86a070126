-- Texts of commands, as a form of lines.
use Rattle.std.specs.Prelude.{List, [], ◌∷◌, ℕ, Result, Ok, Err, codes}
use Rattle.field_core.specs.Answers.{mapped}
use Rattle.case_model.specs.declared.draft_stages.Arrival.{Arrival}
use Rattle.text_lines.specs.Faults.{FaultAt}
use Rattle.text_lines.specs.Forms.{Form, Leaf, texts_seen, reading}
use Rattle.text_lines.specs.Kinds.{keyed_line, or_line, more_lines}
use Rattle.text_lines.specs.Lines.{rows_of, end_of}
use Rattle.edge_text.specs.Document.{kinds}
use Rattle.edge_text.specs.Grammar.{Words}
use Rattle.edge_text.specs.WordReading.{arrival}
use Rattle.edge_text.specs.declared.fault.LineKind.{LineKind}
use Rattle.edge_text.specs.declared.fault.LineKind.TheVariants.{WordCount}
use Rattle.study_cli.specs.declared.command.StudyCommand.{StudyCommand}
use Rattle.study_cli.specs.declared.command.StudyCommand.TheVariants.{Take, Show}

-- the command to take the look of a p-value that arrives
abbrev pub taking : Arrival → StudyCommand
taking a = Take (record { hypothesis = a.hypothesis; stage = a.stage; p = a.p })

-- the look that words say, for hypotheses of these names
abbrev pub look : List (List ℕ) → Words → Result StudyCommand LineKind
look names words = mapped taking (arrival names words)

-- no word
abbrev pub show : Words → Result StudyCommand LineKind
show [] = Ok Show
show (word ∷ words) = Err WordCount

-- `look` and the words of a p-value that arrives, or `show` alone
abbrev pub command : List (List ℕ) → Leaf (List ℕ) LineKind StudyCommand
command names = or_line (keyed_line (codes "look") (look names)) (keyed_line (codes "show") show)

-- A document has commands, one a line.
abbrev pub commands : List (List ℕ) → Form (List ℕ) LineKind (List StudyCommand)
commands names = more_lines (command names) []

-- what a text denotes for hypotheses of these names, or its first fault
unfoldable pub commands_of : List (List ℕ) → List ℕ → Result (List StudyCommand) (FaultAt LineKind)
commands_of names bytes = reading kinds (commands names) (texts_seen (rows_of bytes)) (end_of bytes)
