use Rattle.std.proofs.Common.{◌≡◌, ℕ, Bool, ◌++◌, length}
use Rattle.std.specs.List.{flat_map, range_with_len}
use Rattle.case_model.specs.CaseView.{content}
use Rattle.report.specs.TestReport.{name_if}
use Rattle.report.specs.Deciding.{Decides}
use Rattle.report.proofs.lines.put_names.Given as goal

-- what is put is the names of those so far of which the test holds
abbrev pub invariant-loop-j : goal.invariant-loop-j
invariant-loop-j g l = (f : ℕ → Bool) → Decides (length (content l.case).names) (goal.T-post g l.test) f
    → l.text ≡ l.fn.text ++ flat_map (λ j. name_if (content l.case) j (f j)) (range_with_len 0 l.j)
