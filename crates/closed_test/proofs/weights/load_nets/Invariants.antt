use Rattle.std.proofs.Common.{◌≡◌, ℕ, ◌<◌, ◌≤◌, length, map, get_or, Ok, vec_capacity}
use Rattle.case_model.specs.CaseView.{content}
use Rattle.entangled.specs.CaseNetView.{case_state}
use Rattle.entangled.specs.CaseRun.{CaseState, case_opening}
use Rattle.closed_test.proofs.weights.load_nets.Given as goal

abbrev pub invariant-loop : goal.invariant-loop
invariant-loop l = record {
  count : length l.nets.items ≡ l.counter;
  room : l.count ≤ vec_capacity l.nets;
  opened : (n : ℕ) (d : CaseState) → n < l.counter → case_opening (content l.case) ≡ Ok (get_or (map case_state l.nets.items) n d);
}
