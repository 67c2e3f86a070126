use Rattle.std.proofs.Common.{◌∙◌}
use Rattle.evidence_check.proofs.StepAnswers.{above_is}
use Rattle.evidence_check.proofs.level.is_above_zero.Goals as goal

pub returns : goal.returns
returns c = c.gt.ensures ∙ above_is c.args.level.now c.zero.result c.zero.ensures
