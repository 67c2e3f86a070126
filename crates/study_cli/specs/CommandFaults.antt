-- The first line of a text that denotes no command, and what is wrong with it.
use Rattle.std.specs.Prelude.{◌≡◌, ℕ, List, Err}
use Rattle.edge_text.specs.declared.fault.LineKind.{LineKind}
use Rattle.text_lines.specs.Faults.{FaultAt}
use Rattle.study_cli.specs.Commands.{commands_of}
use Rattle.study_cli.specs.declared.fault.CommandsFault.{CommandsFault}
use Rattle.study_cli.specs.declared.fault.CommandsFault.TheVariants.{Line}

-- the first line of a text that denotes no command, counted from 1 over all lines, and what is wrong with it
abbrev pub IsFirstFault : List (List ℕ) → List ℕ → ℕ → LineKind → Type 0
IsFirstFault names bytes number kind = commands_of names bytes ≡ Err (record { line = number; kind = kind })

-- the fault of a line
abbrev pub on_line : FaultAt LineKind → CommandsFault
on_line fault = Line fault.line fault.kind
