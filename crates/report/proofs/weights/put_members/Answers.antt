use Rattle.case_model.specs.CaseView.{content}
use Rattle.closed_test.specs.WeightsView.{weight_at}
use Rattle.report.specs.WeightsReport.{weight_if_member}
use Rattle.report.proofs.ListedLines.{put_more}
use Rattle.report.proofs.weights.put_members.Goals as goal

pub loop-k-preserved : goal.loop-k-preserved
loop-k-preserved c = put_more (weight_if_member (content c.args.case.now) (weight_at c.args.table.now) c.args.set) c.args.text.now c.loop-k.text
    c.put_if_member.new.text c.loop-k.k c.loop-k.invariant c.in_ok-put_if_member.ensures
