use Rattle.std.proofs.Common.{map}
use Rattle.std.specs.Prelude.{string_bytes}
use Rattle.program.proofs.Paths.{path_at, no_path_at, no_path}
use Rattle.program.proofs.top.file_path.Goals as goal

pub returns-in_err-file_word-clause-none : goal.returns-in_err-file_word-clause-none
returns-in_err-file_word-clause-none c = λ e path. no_path (map string_bytes c.args.words.now) (c.file_word.ensures.none c.in_err-file_word.was) path

pub returns-in_err-word-clause-none : goal.returns-in_err-word-clause-none
returns-in_err-word-clause-none c = λ e path.
    no_path_at string_bytes c.args.words.now c.in_ok-file_word.field-0 c.in_ok-file_word.ensures.file c.in_err-word.ensures.lookup.3 path

pub returns-clause-path : goal.returns-clause-path
returns-clause-path c =
    let at = c.in_ok-word.ensures.lookup in
    path_at string_bytes c.args.words.now c.in_ok-file_word.field-0 c.in_ok-file_word.ensures.file c.in_ok-word.word.now c.as_str.result.now at.3.0 at.1
    c.as_str.ensures.value
