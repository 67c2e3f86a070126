use Rattle.std.proofs.Common.{◌≡◌, ◌++◌, drop}
use Rattle.std.specs.List.{flat_map}
use Rattle.case_model.specs.CaseView.{content}
use Rattle.closed_test.specs.WeightsView.{weight_at}
use Rattle.report.specs.WeightsReport.{set_line}
use Rattle.report.proofs.weights.put_sets.Given as goal

-- what is put, with the lines that are left, is all
abbrev pub invariant-loop-set : goal.invariant-loop-set
invariant-loop-set l =
    let f = set_line (content l.case) (weight_at l.table) in
    l.text ++ flat_map f (drop l.set-index l.sets) ≡ l.fn.text ++ flat_map f l.sets
