-- Edge expressions as a function: each text has an entry or a fault.
use Rattle.std.specs.Prelude.{ℕ, List, Result}
use Rattle.field_core.specs.declared.ratio.Ratio.{Ratio}
use Rattle.field_core.proofs.Decided.{value_by}
use Rattle.edge_expression.specs.declared.fault.ExprFault.{ExprFault}
use Rattle.edge_expression.specs.EntryReading.{IsEntryText, IsExprFault}
use Rattle.edge_expression.proofs.OneEntry.{one_entry, one_expr_fault, entry_not_fault, entry_or_fault}

-- the entry of a text that is an expression, or the fault of another text
unfoldable pub entry_of : List ℕ → Result (List Ratio) ExprFault
entry_of text = value_by IsEntryText IsExprFault one_entry one_expr_fault entry_not_fault text (entry_or_fault text)
