-- What reading an edge expression gives.
use Rattle.std.proofs.Common.{◌≡◌, ℕ, List, map, Result, Ok, Err, sym}
use Rattle.field_core.specs.Terms.{Terms}
use Rattle.field_core.specs.View.{terms}
use Rattle.case_model.specs.declared.entry.Entry.{Entry}
use Rattle.edge_expression.specs.declared.fault.ExprFault.{ExprFault}
use Rattle.edge_expression.specs.declared.fault.ExprFault.TheVariants.{BadByte, Depth, DivisorNotNumber, ZeroDivisor, Degree, Part}
use Rattle.edge_expression.specs.declared.value_fault.ValueFault.{ValueFault}
use Rattle.edge_expression.specs.declared.value_fault.ValueFault.TheVariants as values
use Rattle.edge_expression.specs.Expressions.{Expression, Spells}
use Rattle.edge_expression.specs.EntryValues.{value}
use Rattle.edge_expression.specs.EntryView.{map_value}
use Rattle.edge_expression.specs.EntryReading.{IsScanned, TextGives, IsEntryText, IsExprFault, fault_of}

-- ---- what a scan shows

-- a fault of the scan is a fault of the text
pub scan_fault : (text : List ℕ) (f : ExprFault) → IsScanned text (Err f) → IsExprFault text f
unfolding IsScanned IsExprFault
scan_fault text (BadByte n) s = s
scan_fault text Depth s = s
scan_fault text DivisorNotNumber s = absurd s
scan_fault text ZeroDivisor s = absurd s
scan_fault text Degree s = absurd s
scan_fault text Part s = absurd s

-- ---- what evaluation shows

gives : (text : List ℕ) (w : Result (List Terms) ValueFault) → IsScanned text (Ok tt)
    → ((e : Expression) → Spells text e → w ≡ value e) → TextGives text w
unfolding IsScanned
gives text w s h = record { expression = s.0.expression; spells = s.0.spells; shallow = s.1; value_is = sym (h s.0.expression s.0.spells) }

pub value_fault : (text : List ℕ) (f : ValueFault) → TextGives text (Err f) → IsExprFault text (fault_of f)
unfolding IsExprFault
value_fault text values.DivisorNotNumber w = w
value_fault text values.ZeroDivisor w = w
value_fault text values.Degree w = w
value_fault text values.Part w = w

pub found : (text : List ℕ) (x : Entry) → IsScanned text (Ok tt) → ((e : Expression) → Spells text e → map_value (map terms) (Ok x) ≡ value e)
    → IsEntryText text x
found text x s h = gives text (Ok (map terms x)) s h

pub fault : (text : List ℕ) (f : ValueFault) → IsScanned text (Ok tt)
    → ((e : Expression) → Spells text e → map_value {A = Entry} (map terms) (Err f) ≡ value e) → IsExprFault text (fault_of f)
fault text f s h = value_fault text f (gives text (Err f) s h)
