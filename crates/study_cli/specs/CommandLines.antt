-- What lines ask a study for.
use Rattle.std.specs.Prelude.{◌≡◌, ◌<◌, ℕ, List, Ok, Some}
use Rattle.std.specs.List.{AllZip}
use Rattle.study_cli.specs.Commands.{command, commands_of}
use Rattle.study_cli.specs.declared.command.StudyCommand.{StudyCommand}
use Rattle.study_cli.specs.declared.command.StudyCommand.TheVariants.{Take, Show}

-- the line denotes this command, for hypotheses of these names
abbrev pub IsCommandLine : List (List ℕ) → List ℕ → StudyCommand → Type 0
IsCommandLine names line c = command names line ≡ Some (Ok c)

-- the lines denote these commands, one each
abbrev pub AreCommandLines : List (List ℕ) → List (List ℕ) → List StudyCommand → Type 0
AreCommandLines names lines commands = AllZip (IsCommandLine names) lines commands

-- the text denotes these commands
abbrev pub AreCommands : List (List ℕ) → List ℕ → List StudyCommand → Type 0
AreCommands names bytes commands = commands_of names bytes ≡ Ok commands

-- a look that is requested is of one of a number of hypotheses
abbrev pub IsBelow : ℕ → StudyCommand → Type 0
IsBelow size (Take look) = look.hypothesis < size
IsBelow size Show = Unit {0}
