use Rattle.std.proofs.Common.{◌≡◌, drop}
use Rattle.case_model.specs.CaseFaults.{first_from, first_of, repeated_edge}
use Rattle.case_model.proofs.components.repeated_edges.Given as goal

abbrev pub invariant-loop-c : goal.invariant-loop-c
invariant-loop-c l = first_from (repeated_edge) l.c (drop l.c l.components) ≡ first_of repeated_edge l.components
