use Rattle.std.proofs.Common.{◌≡◌, ◌≤◌, ◌*◌, take}
use Rattle.std.specs.List.{sum_by}
use Rattle.case_model.specs.CaseView.{content}
use Rattle.report.specs.SampleReport.{edges_in}
use Rattle.report.proofs.sample.edge_count.Given as goal

-- what is counted are the edges of the components so far
abbrev pub invariant-loop-c : goal.invariant-loop-c
invariant-loop-c l = record {
  counted : l.count ≡ sum_by edges_in (take l.c (content l.case).components);
  small : l.count ≤ l.c * 4096;
}
