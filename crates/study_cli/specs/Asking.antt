-- The looks that commands ask for.
use Rattle.std.specs.Prelude.{◌+◌, ℕ, List, [], ◌∷◌}
use Rattle.study_cli.specs.declared.command.StudyCommand.{StudyCommand}
use Rattle.study_cli.specs.declared.command.StudyCommand.TheVariants.{Take, Show}

-- how many looks a command asks for
abbrev pub asks : StudyCommand → ℕ
asks (Take look) = 1
asks Show = 0

-- how many looks commands ask for
abbrev pub looks_asked : List StudyCommand → ℕ
looks_asked [] = 0
looks_asked (command ∷ commands) = asks command + looks_asked commands
