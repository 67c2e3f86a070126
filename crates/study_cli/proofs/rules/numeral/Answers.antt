use Rattle.std.proofs.Common.{Ok, ap, ◌∙◌}
use Rattle.field_core.specs.Answers.{told_as}
use Rattle.fraction.proofs.SameRatios.{same_ratio}
use Rattle.edge_text.specs.declared.fault.LineKind.TheVariants.{Number}
use Rattle.study_cli.specs.declared.fault.CommandsFault.TheVariants as faults
use Rattle.study_cli.proofs.rules.numeral.Goals as goal

pub returns-in-Ok : goal.returns-in-Ok
returns-in-Ok c = ap Ok (same_ratio c.ratio.result c.in-Ok.value c.ratio.ensures)
    ∙ ap (λ r. told_as (faults.Line c.args.line.now.number) (told_as Number r)) c.in-Ok.ensures.value
