use Rattle.std.proofs.Common.{◌≡◌, ◌+◌, ◌++◌}
use Rattle.std.specs.List.{flat_map, range_with_len}
use Rattle.case_model.specs.CaseView.{content}
use Rattle.discovery_bound.specs.BoundsView.{bound_of}
use Rattle.report.specs.SimesReport.{first_set, top_line}
use Rattle.report.proofs.simes.put_tops.Given as goal

-- the set is that of the leaders so far, and what is put is the lines up to it
abbrev pub invariant-loop-k : goal.invariant-loop-k
invariant-loop-k l = record {
  set : l.set ≡ first_set (content l.case) l.leaders l.k;
  text : l.text ≡ l.fn.text ++ flat_map (λ k. top_line (content l.case) (bound_of l.bounds) l.leaders (k + 1)) (range_with_len 0 l.k);
}
