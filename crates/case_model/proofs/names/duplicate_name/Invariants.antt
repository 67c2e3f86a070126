use Rattle.std.proofs.Common.{◌≡◌, drop}
use Rattle.case_model.specs.CaseFaults.{first_from, repeated_name, duplicate_name}
use Rattle.case_model.proofs.names.duplicate_name.Given as goal

abbrev pub invariant-loop-i : goal.invariant-loop-i
invariant-loop-i l = first_from (repeated_name l.names) l.i (drop l.i l.names) ≡ duplicate_name l.names
