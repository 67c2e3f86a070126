use Rattle.std.proofs.Common.{◌≡◌, ◌++◌, drop}
use Rattle.std.specs.List.{flat_map}
use Rattle.case_model.specs.CaseView.{content}
use Rattle.discovery_bound.specs.BoundsView.{bound_of}
use Rattle.report.specs.BoundsReport.{bound_line}
use Rattle.report.proofs.bounds.put_sets.Given as goal

-- what is put, with the lines that are left, is all
abbrev pub invariant-loop-set : goal.invariant-loop-set
invariant-loop-set l =
    let f = bound_line (content l.case) (bound_of l.bounds) in
    l.text ++ flat_map f (drop l.set-index l.sets) ≡ l.fn.text ++ flat_map f l.sets
