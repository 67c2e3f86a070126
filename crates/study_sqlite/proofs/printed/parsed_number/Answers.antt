use Rattle.std.proofs.Common.{ap, ◌∙◌}
use Rattle.std.specs.Result.{result_ok}
use Rattle.study_sqlite.proofs.PrintedNumbers.{parse_printed, printed_utf8}
use Rattle.study_sqlite.proofs.printed.parsed_number.Goals as goal

pub returns-in-Ok : goal.returns-in-Ok
returns-in-Ok c n fits is =
    c.ok.ensures.value
    ∙ ap result_ok (parse_printed n c.in-Ok.text.now c.parse.result fits (c.in-Ok.ensures.cases.0 ∙ is) c.parse.ensures.value.0)

pub returns-in-Err : goal.returns-in-Err
returns-in-Err c n fits is = absurd (c.in-Err.ensures.cases.0 (printed_utf8 n c.args.text.now fits is))
