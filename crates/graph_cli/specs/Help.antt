-- What `help` answers.
use Rattle.std.specs.Prelude.{ℕ, List, ◌++◌, codes}
use Rattle.answers.specs.declared.answer.Answer.{Answer}
use Rattle.answers.specs.declared.refusal.Refusal.{Refusal}
use Rattle.answers.specs.Lines.{line, done}
use Rattle.answers.specs.Stages.{Stage, only}

-- a line for each command, and the last line
abbrev pub help_text : List ℕ
help_text =
    line (codes "test [--form F] [--alpha N] [--priority P]") ++
    line (codes "weights [--form F] [--alpha N]") ++
    line (codes "bounds [--form F] [--alpha N]") ++
    line (codes "simes [--form F] [--alpha N]") ++
    line (codes "evidence [--form F] [--alpha N] [--priority P]") ++
    line (codes "check FILE [--form F] [--alpha N]") ++
    line (codes "stages [--form F]") ++
    line (codes "study FILE [--form F] [--store PATH]") ++
    line (codes "canon [--form F] [--alpha N] [--to F]") ++
    line (codes "catalogue NAME --size N [--second N]") ++
    line (codes "sample --size N --seed N") ++
    line (codes "help") ++
    line (codes "end")

unfoldable pub help_stage : Stage Refusal Answer
help_stage = only (done help_text)
