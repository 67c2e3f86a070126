use Rattle.std.proofs.Common.{rules}
use Rattle.report.specs.StudyReport.{is_among}
use Rattle.report.proofs.study.put_names_among.Goals as goal

pub returns : goal.returns
unfolding is_among
returns c = c.put_names.ensures (is_among c.args.rejections.now) (λ j b q p. search rules)
