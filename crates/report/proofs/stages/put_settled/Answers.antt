use Rattle.std.proofs.Common.{rules}
use Rattle.report.specs.StagesReport.{is_settled, settled_line}
use Rattle.report.proofs.ListedLines.{put_line}
use Rattle.report.proofs.stages.put_settled.Goals as goal

pub returns : goal.returns
unfolding settled_line is_settled
returns c = put_line c.push.result _ _ _ _ _ _ c.in_ok-append.ensures.appended
    (c.in_ok-put_names.ensures (is_settled c.args.looks.now) (λ j b q p. search rules)) c.push.ensures.pushed
