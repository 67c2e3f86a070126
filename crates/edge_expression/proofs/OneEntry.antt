-- A text has one entry or one fault.
use Rattle.std.proofs.Common.{◌≡◌, ℕ, ◌⊎◌, inl, inr, List, map, length, Result, Ok, Err, refl, sym, ap, subst, ◌∙◌, arith}
use Rattle.field_core.specs.Terms.{Terms}
use Rattle.field_core.specs.View.{terms}
use Rattle.field_core.specs.declared.ratio.Ratio.{Ratio}
use Rattle.case_model.proofs.Same.{same_ratios}
use Rattle.edge_expression.proofs.RatioLists.{ratios_of}
use Rattle.edge_expression.proofs.EntryMeanings.{value_reduced}
use Rattle.numerals.specs.Prefixes.{IsBadByte}
use Rattle.edge_expression.specs.declared.fault.ExprFault.{ExprFault}
use Rattle.edge_expression.specs.declared.fault.ExprFault.TheVariants.{BadByte, Depth, DivisorNotNumber, ZeroDivisor, Degree, Part}
use Rattle.edge_expression.specs.declared.value_fault.ValueFault.{ValueFault}
use Rattle.edge_expression.specs.declared.value_fault.ValueFault.TheVariants as values
use Rattle.edge_expression.specs.ByteMachine.{start}
use Rattle.edge_expression.specs.Expressions.{Expression, IsExpression, Spells}
use Rattle.edge_expression.specs.EntryValues.{value}
use Rattle.edge_expression.specs.EntryReading.{IsDeep, IsShallow, IsTooDeep, IsScanned, TextGives, IsEntryText, IsExprFault, fault_of}
use Rattle.edge_expression.proofs.ScannedTexts.{scanned, is_scanned}
use Rattle.edge_expression.proofs.ReadEntries.{value_fault, scan_fault}
use Rattle.edge_expression.proofs.OneValue.{one_value}

-- ---- what a text gives

one_answer : (text : List ℕ) (r s : Result (List Terms) ValueFault) → TextGives text r → TextGives text s → r ≡ s
one_answer text r s h k = sym h.value_is ∙ one_value text h.expression k.expression h.spells k.spells ∙ k.value_is

ok_answer : List Terms → Result (List Terms) ValueFault
ok_answer e = Ok e

err_answer : ValueFault → Result (List Terms) ValueFault
err_answer f = Err f

same_ok : (e f : List Terms) → ok_answer e ≡ ok_answer f → e ≡ f
unfolding ok_answer
same_ok e f h = cc

same_err : (f g : ValueFault) → err_answer f ≡ err_answer g → f ≡ g
unfolding err_answer
same_err f g h = cc

ok_not_err : (e : List Terms) (f : ValueFault) → ok_answer e ≡ err_answer f → ⊥
unfolding ok_answer err_answer
ok_not_err e f h = cc

pub one_entry : (text : List ℕ) (e f : List Ratio) → IsEntryText text e → IsEntryText text f → e ≡ f
unfolding ok_answer
one_entry text e f h k = same_ratios e f (same_ok (map terms e) (map terms f) (one_answer text (Ok (map terms e)) (Ok (map terms f)) h k))

-- ---- depth and bytes

shallow_not_deep : (text : List ℕ) (n : ℕ) → IsShallow text n → IsDeep text n → ⊥
shallow_not_deep text n h d = let s = h d.0 d.1 in omega (arith, s, d.2)

one_bad_byte : (text : List ℕ) (n m : ℕ) → IsBadByte IsExpression text n → IsBadByte IsExpression text m → n ≡ m
one_bad_byte text n m h k = let a = k.longest n h.within h.begins in let b = h.longest m k.within k.begins in omega (arith, a, b)

is_expression : (text : List ℕ) (r : Result (List Terms) ValueFault) → TextGives text r → IsExpression text
is_expression text r h = record { expression = h.expression; spells = h.spells }

given_not_bad : (text : List ℕ) (r : Result (List Terms) ValueFault) (n : ℕ) → TextGives text r → IsBadByte IsExpression text n → ⊥
given_not_bad text r n h b = b.refused (is_expression text r h)

given_not_deep : (text : List ℕ) (r : Result (List Terms) ValueFault) → TextGives text r → IsTooDeep text → ⊥
given_not_deep text r h (inl d) = shallow_not_deep text (length text) h.shallow d.1
given_not_deep text r h (inr d) = given_not_bad text r d.0 h d.1

bad_not_deep : (text : List ℕ) (n : ℕ) → IsBadByte IsExpression text n → IsShallow text n → IsTooDeep text → ⊥
bad_not_deep text n b s (inl d) = b.refused d.0
bad_not_deep text n b s (inr d) = shallow_not_deep text n s (subst (IsDeep text) (one_bad_byte text d.0 n d.1 b) d.2)

-- ---- an entry or a fault

pub entry_not_fault : (text : List ℕ) (e : List Ratio) (f : ExprFault) → IsEntryText text e → IsExprFault text f → ⊥
unfolding IsExprFault ok_answer err_answer
entry_not_fault text e Depth h k = given_not_deep text (Ok (map terms e)) h k
entry_not_fault text e (BadByte n) h k = given_not_bad text (Ok (map terms e)) n h k.0
entry_not_fault text e DivisorNotNumber h k = ok_not_err (map terms e) values.DivisorNotNumber
    (one_answer text (Ok (map terms e)) (Err values.DivisorNotNumber) h k)
entry_not_fault text e ZeroDivisor h k = ok_not_err (map terms e) values.ZeroDivisor (one_answer text (Ok (map terms e)) (Err values.ZeroDivisor) h k)
entry_not_fault text e Degree h k = ok_not_err (map terms e) values.Degree (one_answer text (Ok (map terms e)) (Err values.Degree) h k)
entry_not_fault text e Part h k = ok_not_err (map terms e) values.Part (one_answer text (Ok (map terms e)) (Err values.Part) h k)

deep_once : (text : List ℕ) (g : ExprFault) → IsTooDeep text → IsExprFault text g → Depth ≡ g
unfolding IsExprFault
deep_once text Depth h k = refl
deep_once text (BadByte n) h k = absurd (bad_not_deep text n k.0 k.1 h)
deep_once text DivisorNotNumber h k = absurd (given_not_deep text (Err values.DivisorNotNumber) k h)
deep_once text ZeroDivisor h k = absurd (given_not_deep text (Err values.ZeroDivisor) k h)
deep_once text Degree h k = absurd (given_not_deep text (Err values.Degree) k h)
deep_once text Part h k = absurd (given_not_deep text (Err values.Part) k h)

bad_once : (text : List ℕ) (n : ℕ) (g : ExprFault) → IsBadByte IsExpression text n → IsShallow text n → IsExprFault text g → BadByte n ≡ g
unfolding IsExprFault
bad_once text n Depth b s k = absurd (bad_not_deep text n b s k)
bad_once text n (BadByte m) b s k = ap BadByte (one_bad_byte text n m b k.0)
bad_once text n DivisorNotNumber b s k = absurd (given_not_bad text (Err values.DivisorNotNumber) n k b)
bad_once text n ZeroDivisor b s k = absurd (given_not_bad text (Err values.ZeroDivisor) n k b)
bad_once text n Degree b s k = absurd (given_not_bad text (Err values.Degree) n k b)
bad_once text n Part b s k = absurd (given_not_bad text (Err values.Part) n k b)

fault_once : (text : List ℕ) (f : ValueFault) (g : ExprFault) → TextGives text (err_answer f) → IsExprFault text g → fault_of f ≡ g
unfolding IsExprFault err_answer
fault_once text f Depth h k = absurd (given_not_deep text (Err f) h k)
fault_once text f (BadByte n) h k = absurd (given_not_bad text (Err f) n h k.0)
fault_once text f DivisorNotNumber h k = ap fault_of (same_err f values.DivisorNotNumber (one_answer text (Err f) (Err values.DivisorNotNumber) h k))
fault_once text f ZeroDivisor h k = ap fault_of (same_err f values.ZeroDivisor (one_answer text (Err f) (Err values.ZeroDivisor) h k))
fault_once text f Degree h k = ap fault_of (same_err f values.Degree (one_answer text (Err f) (Err values.Degree) h k))
fault_once text f Part h k = ap fault_of (same_err f values.Part (one_answer text (Err f) (Err values.Part) h k))

pub one_expr_fault : (text : List ℕ) (f g : ExprFault) → IsExprFault text f → IsExprFault text g → f ≡ g
unfolding IsExprFault err_answer
one_expr_fault text Depth g h k = deep_once text g h k
one_expr_fault text (BadByte n) g h k = bad_once text n g h.0 h.1 k
one_expr_fault text DivisorNotNumber g h k = fault_once text values.DivisorNotNumber g h k
one_expr_fault text ZeroDivisor g h k = fault_once text values.ZeroDivisor g h k
one_expr_fault text Degree g h k = fault_once text values.Degree g h k
one_expr_fault text Part g h k = fault_once text values.Part g h k

-- ---- one of both

abbrev HasOne : List ℕ → Type 0
HasOne text = ((e : List Ratio) × IsEntryText text e) ⊎ ((f : ExprFault) × IsExprFault text f)

by_value : (text : List ℕ) (e : Expression) (r : Result (List Terms) ValueFault) → Spells text e → IsShallow text (length text) → value e ≡ r
    → HasOne text
by_value text e (Ok x) s h v = let xs = ratios_of x (value_reduced e x v) in inl
    (xs.ratios, record { expression = e; spells = s; shallow = h; value_is = v ∙ ap Ok (sym xs.are) })
by_value text e (Err f) s h v = inr (fault_of f, value_fault text f (record { expression = e; spells = s; shallow = h; value_is = v }))

by_scan : (text : List ℕ) (r : Result (Unit {0}) ExprFault) → IsScanned text r → HasOne text
unfolding IsScanned
by_scan text (Ok x) h = by_value text h.0.expression (value h.0.expression) h.0.spells h.1 refl
by_scan text (Err f) h = inr (f, scan_fault text f h)

pub entry_or_fault : (text : List ℕ) → ((e : List Ratio) × IsEntryText text e) ⊎ ((f : ExprFault) × IsExprFault text f)
entry_or_fault text = by_scan text (scanned 0 text start) (is_scanned text (scanned 0 text start) refl)
