use Rattle.std.proofs.Common.{map}
use Rattle.field_core.specs.View.{terms}
use Rattle.edge_expression.proofs.PrintedTerms.{IsPrinted}
use Rattle.edge_expression.proofs.printing.print_entry.Given as goal

abbrev pub invariant-loop-power : goal.invariant-loop-power
invariant-loop-power l = IsPrinted l.fn.out l.out l.is_first l.power (map terms l.entry)
