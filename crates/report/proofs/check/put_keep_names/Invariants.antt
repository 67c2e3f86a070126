use Rattle.std.proofs.Common.{◌≡◌, ◌++◌, drop, map}
use Rattle.std.specs.List.{flat_map}
use Rattle.case_model.specs.CaseView.{content}
use Rattle.report.specs.TestReport.{spaced_name}
use Rattle.report.proofs.check.put_keep_names.Given as goal

-- what is put, with the names that are left, is all
abbrev pub invariant-loop-keep : goal.invariant-loop-keep
invariant-loop-keep g l = l.text ++ flat_map (spaced_name (content l.case)) (map (λ x. x.hypothesis) (drop l.keep-index l.keeps)) ≡ l.fn.text ++ flat_map
    (spaced_name (content l.case)) (map (λ x. x.hypothesis) l.keeps)
