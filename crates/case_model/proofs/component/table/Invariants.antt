use Rattle.std.proofs.Common.{◌≡◌, ◌*◌, ◌/◌, ◌%◌, ◌<◌, ℕ, true, length, drop, get_or}
use Rattle.std.specs.List.{list_all}
use Rattle.case_model.specs.Entries.{no_edge, is_whole_entry}
use Rattle.case_model.specs.Content.{edge_between}
use Rattle.case_model.proofs.component.table.Given as goal

abbrev pub invariant-loop-n : goal.invariant-loop-n
invariant-loop-n l = record {
  size : length l.table ≡ l.count * l.count;
  coefficients : list_all is_whole_entry l.table ≡ true;
  entries : (k : ℕ) → k < l.count * l.count → get_or l.table k no_edge ≡ edge_between (drop l.n l.edges) (k / l.count) (k % l.count);
}
