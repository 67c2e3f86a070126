-- Edge expressions as a function, and their grammar.
use Rattle.std.proofs.Common.{◌≡◌, ℕ, List, Ok, Err}
use Rattle.field_core.specs.declared.ratio.Ratio.{Ratio}
use Rattle.field_core.proofs.Decided.{is_value, is_fault, value_is, fault_is}
use Rattle.edge_expression.specs.declared.fault.ExprFault.{ExprFault}
use Rattle.edge_expression.specs.EntryReading.{IsEntryText, IsExprFault}
use Rattle.edge_expression.proofs.OneEntry.{one_entry, one_expr_fault, entry_not_fault, entry_or_fault}
use Rattle.entries.specs.Entries.{entry_of}

-- an expression has its entry
pub entry_ok : (s : List ℕ) (e : List Ratio) → IsEntryText s e → entry_of s ≡ Ok e
unfolding entry_of
entry_ok s e h = is_value IsEntryText IsExprFault one_entry one_expr_fault entry_not_fault s e (entry_or_fault s) h

-- another text has its fault
pub entry_err : (s : List ℕ) (f : ExprFault) → IsExprFault s f → entry_of s ≡ Err f
unfolding entry_of
entry_err s f h = is_fault IsEntryText IsExprFault one_entry one_expr_fault entry_not_fault s f (entry_or_fault s) h

pub entry_is : (s : List ℕ) (e : List Ratio) → entry_of s ≡ Ok e → IsEntryText s e
unfolding entry_of
entry_is s e h = value_is IsEntryText IsExprFault one_entry one_expr_fault entry_not_fault s e (entry_or_fault s) h

pub entry_fails : (s : List ℕ) (f : ExprFault) → entry_of s ≡ Err f → IsExprFault s f
unfolding entry_of
entry_fails s f h = fault_is IsEntryText IsExprFault one_entry one_expr_fault entry_not_fault s f (entry_or_fault s) h
