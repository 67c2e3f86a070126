use Rattle.case_model.specs.CaseView.{content}
use Rattle.study_cli.proofs.CommandReads.{commands_found, commands_refused}
use Rattle.study_cli.proofs.study.commands_in.Goals as goal

pub returns-in-Ok-clause-ends : goal.returns-in-Ok-clause-ends
returns-in-Ok-clause-ends c = commands_found (content c.args.case.now).names c.args.bytes.now c.in-Ok.commands c.in-Ok.ensures.read

pub returns-in_ok-commands_refusal-in-Err-Line-clause-ends : goal.returns-in_ok-commands_refusal-in-Err-Line-clause-ends
returns-in_ok-commands_refusal-in-Err-Line-clause-ends c =
    let e = c.in-Err-Line in (
      record { line = e.n; kind = e.kind },
      commands_refused (content c.args.case.now).names c.args.bytes.now e.n e.kind (rw e.field-0-is at e.ensures.read),
      c.in_ok-commands_refusal-in-Err-Line.ensures,
    )
