use Rattle.std.proofs.Common.{rules}
use Rattle.report.specs.TestReport.{is_rejected, rejected_line}
use Rattle.report.proofs.ListedLines.{put_line}
use Rattle.report.proofs.lines.put_rejected.Goals as goal

pub returns : goal.returns
unfolding rejected_line is_rejected
returns c = put_line c.push.result _ _ _ _ _ _ c.in_ok-append.ensures.appended
    (c.in_ok-put_names.ensures (is_rejected c.args.steps.now) (λ j b q p. search rules)) c.push.ensures.pushed
