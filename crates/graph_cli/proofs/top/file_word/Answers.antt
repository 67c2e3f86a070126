use Rattle.std.proofs.Common.{sym, ◌∙◌, map}
use Rattle.std.specs.Prelude.{string_bytes}
use Rattle.command_words.specs.Asked.{asked}
use Rattle.graph_cli.proofs.Files.{no_file_by, no_file_read, file_by}
use Rattle.graph_cli.proofs.top.file_word.Goals as goal

pub returns-in-Ok-clause-file : goal.returns-in-Ok-clause-file
returns-in-Ok-clause-file c = file_by (map string_bytes c.args.words.now) (asked c.in-Ok.command) c.file.result (sym c.in-Ok.ensures) c.file.ensures

pub returns-in-Ok-clause-none : goal.returns-in-Ok-clause-none
returns-in-Ok-clause-none c = λ e place named. no_file_by (map string_bytes c.args.words.now) (asked c.in-Ok.command) place (sym c.in-Ok.ensures)
    (sym c.file.ensures ∙ e) named

pub returns-in-Err-read_study-clause-none : goal.returns-in-Err-read_study-clause-none
returns-in-Err-read_study-clause-none c = λ e place. no_file_read (map string_bytes c.args.words.now) c.in-Err.field-0 c.in-Err-read_study.field-0 place
    (sym c.in-Err.ensures) (sym c.in-Err-read_study.ensures)
