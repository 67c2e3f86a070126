use Rattle.std.proofs.Common.{◌≡◌, ◌++◌, drop, map}
use Rattle.std.specs.List.{flat_map}
use Rattle.case_model.specs.CaseView.{content}
use Rattle.report.specs.TestReport.{spaced_name}
use Rattle.report.proofs.check.put_step_names.Given as goal

-- what is put, with the names that are left, is all
abbrev pub invariant-loop-step : goal.invariant-loop-step
invariant-loop-step g l = l.text ++ flat_map (spaced_name (content l.case)) (map (λ s. s.hypothesis) (drop l.step-index l.steps)) ≡ l.fn.text ++ flat_map
    (spaced_name (content l.case)) (map (λ s. s.hypothesis) l.steps)
