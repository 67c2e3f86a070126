use Rattle.std.proofs.Common.{rules, ◌≡◌}
use Rattle.field_core.specs.View.{terms}
use Rattle.fraction.specs.Spelling.{spelling}
use Rattle.study_sqlite.proofs.PrintedRatios.{printed_text}
use Rattle.study_sqlite.proofs.row.to_row.Goals as goal

pub returns-clause-text : goal.returns-clause-text
returns-clause-text c =
    let is : c.in_ok-copy.field-0 ≡ spelling (terms c.args.look.now.p) = search rules in
    printed_text c.args.look.now.p c.in_ok-copy.field-0 is
