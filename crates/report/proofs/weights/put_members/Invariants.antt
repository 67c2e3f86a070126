use Rattle.std.proofs.Common.{◌≡◌, ◌++◌}
use Rattle.std.specs.List.{flat_map, range_with_len}
use Rattle.case_model.specs.CaseView.{content}
use Rattle.closed_test.specs.WeightsView.{weight_at}
use Rattle.report.specs.WeightsReport.{weight_if_member}
use Rattle.report.proofs.weights.put_members.Given as goal

-- what is put is the weights of the members so far
abbrev pub invariant-loop-k : goal.invariant-loop-k
invariant-loop-k l = l.text ≡ l.fn.text ++ flat_map (weight_if_member (content l.case) (weight_at l.table) l.set) (range_with_len 0 l.k)
