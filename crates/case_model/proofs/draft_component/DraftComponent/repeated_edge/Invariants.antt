use Rattle.std.proofs.Common.{◌≡◌, ◌*◌, ◌/◌, ◌%◌, ◌<◌, ℕ, None, take, length, get_or, false}
use Rattle.std.specs.List.{list_any}
use Rattle.case_model.specs.Draft.{has_ends}
use Rattle.case_model.specs.CaseFaults.{first_below, edge_again}
use Rattle.case_model.proofs.FirstFaults.{found_at}
use Rattle.case_model.proofs.draft_component.DraftComponent.repeated_edge.Given as goal

abbrev pub invariant-loop-n : goal.invariant-loop-n
invariant-loop-n l = record {
  size : length l.seen ≡ 4096;
  before : first_below (found_at (edge_again l.c l.edges) l.edges) l.n ≡ None;
  marks : (k : ℕ) → k < l.count * l.count → get_or l.seen k false ≡ list_any (has_ends (k / l.count) (k % l.count)) (take l.n l.edges);
}
