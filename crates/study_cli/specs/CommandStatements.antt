-- What the lines of commands and their first faults promise.
use Rattle.std.specs.Prelude.{◌≡◌, ◌↔◌, ℕ, List, ◌∷◌, ◌++◌, Err}
use Rattle.text_lines.specs.Forms.{texts_seen}
use Rattle.text_lines.specs.FormStatements.{FaultsAreWhereNoneGoesOn, NoneGoesOnIsFault}
use Rattle.text_lines.specs.Kinds.{expected}
use Rattle.text_lines.specs.Lines.{Row, rows_of, texts_in, end_of}
use Rattle.edge_text.specs.Document.{kinds}
use Rattle.edge_text.specs.declared.fault.LineKind.{LineKind}
use Rattle.study_cli.specs.CommandFaults.{IsFirstFault}
use Rattle.study_cli.specs.CommandLines.{AreCommands, AreCommandLines}
use Rattle.study_cli.specs.Commands.{command, commands}
use Rattle.study_cli.specs.declared.command.StudyCommand.{StudyCommand}

-- a text denotes commands exactly if its lines that aren't skipped denote them, one each
abbrev pub CommandsAreOfLines : Type 0
CommandsAreOfLines = (names : List (List ℕ)) (bytes : List ℕ) (cs : List StudyCommand)
    → AreCommands names bytes cs ↔ AreCommandLines names (texts_in (rows_of bytes)) cs

-- The lines before this one denote commands, and this is wrong with it.
pub record IsFirstBadLine (names : List (List ℕ)) (rows : List Row) (number : ℕ) (kind : LineKind) : Type 0 where
  pub before : List Row
  pub row : Row
  pub after : List Row
  pub rows_are : rows ≡ before ++ row ∷ after
  pub number_is : number ≡ row.number
  pub said : List StudyCommand
  pub commands : AreCommandLines names (texts_in before) said
  pub bad : expected kinds (command names row.text) ≡ Err kind

-- its first fault is that of the first line that denotes no command
abbrev pub FaultsAreBadLines : Type 0
FaultsAreBadLines = (names : List (List ℕ)) (bytes : List ℕ) (number : ℕ) (kind : LineKind)
    → IsFirstFault names bytes number kind ↔ IsFirstBadLine names (rows_of bytes) number kind

-- it is where no text of commands continues
abbrev pub FaultsAreFirst : Type 0
FaultsAreFirst = (names : List (List ℕ)) (bytes : List ℕ) → FaultsAreWhereNoneGoesOn kinds (commands names) (texts_seen (rows_of bytes)) (end_of bytes)
    × NoneGoesOnIsFault kinds (commands names) (texts_seen (rows_of bytes)) (end_of bytes)
