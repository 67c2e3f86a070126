-- What reading an edge expression answers.
use Rattle.std.specs.Prelude.{◌≡◌, ℕ, suc, ◌-◌, ◌<◌, ◌≤◌, ◌⊎◌, List, [], ◌∷◌, map, length, take, ◌==◌}
use Rattle.std.specs.Prelude.{if◌then◌else◌, Result, Ok, Err}
use Rattle.field_core.specs.Terms.{Terms}
use Rattle.field_core.specs.View.{terms}
use Rattle.field_core.specs.declared.ratio.Ratio.{Ratio}
use Rattle.numerals.specs.Prefixes.{IsBadByte}
use Rattle.edge_expression.specs.declared.fault.ExprFault.{ExprFault}
use Rattle.edge_expression.specs.declared.fault.ExprFault.TheVariants.{BadByte, Depth, DivisorNotNumber, ZeroDivisor, Degree, Part}
use Rattle.edge_expression.specs.declared.value_fault.ValueFault.{ValueFault}
use Rattle.edge_expression.specs.declared.value_fault.ValueFault.TheVariants as values
use Rattle.edge_expression.specs.Expressions.{Expression, IsExpression, Spells}
use Rattle.edge_expression.specs.EntryValues.{value}

-- ---- depth

-- how many parentheses are open after one byte more
abbrev pub open_with : ℕ → ℕ → ℕ
open_with b n = if b == 40 then suc n else if b == 41 then n - 1 else n

-- how many are open after a text, if n are before it
abbrev pub open_behind : ℕ → List ℕ → ℕ
open_behind n [] = n
open_behind n (b ∷ bs) = open_behind (open_with b n) bs

-- among the first n bytes there is a parenthesis that opens while 32 are open
abbrev pub IsDeep : List ℕ → ℕ → Type 0
IsDeep text n = (k : ℕ) × (k < n) × (32 < open_behind 0 (take (suc k) text))

-- among the first n bytes there is no such parenthesis
abbrev pub IsShallow : List ℕ → ℕ → Type 0
IsShallow text n = (k : ℕ) → k < n → open_behind 0 (take (suc k) text) ≤ 32

-- ---- what the bytes alone show

-- a parenthesis at depth 33 opens before the first bad byte, or anywhere in an expression
abbrev pub IsTooDeep : List ℕ → Type 0
IsTooDeep text = (IsExpression text × IsDeep text (length text)) ⊎ ((n : ℕ) × IsBadByte IsExpression text n × IsDeep text n)

-- the text is an expression, or it is too deep, or else it has a first bad byte
unfoldable pub IsScanned : List ℕ → Result (Unit {0}) ExprFault → Type 0
IsScanned text (Ok x) = IsExpression text × IsShallow text (length text)
IsScanned text (Err Depth) = IsTooDeep text
IsScanned text (Err (BadByte n)) = IsBadByte IsExpression text n × IsShallow text n
IsScanned text (Err DivisorNotNumber) = ⊥
IsScanned text (Err ZeroDivisor) = ⊥
IsScanned text (Err Degree) = ⊥
IsScanned text (Err Part) = ⊥

-- ---- what a text gives

-- The text is an expression with at most 32 open parentheses, and this is its value, or why it has none.
pub record TextGives (text : List ℕ) (answer : Result (List Terms) ValueFault) : Type 0 where
  pub expression : Expression
  pub spells : Spells text expression
  pub shallow : IsShallow text (length text)
  pub value_is : value expression ≡ answer

-- the text is an expression of this entry
abbrev pub IsEntryText : List ℕ → List Ratio → Type 0
IsEntryText text entry = TextGives text (Ok (map terms entry))

-- why an expression has no value, as the fault of its text
abbrev pub fault_of : ValueFault → ExprFault
fault_of values.DivisorNotNumber = DivisorNotNumber
fault_of values.ZeroDivisor = ZeroDivisor
fault_of values.Degree = Degree
fault_of values.Part = Part

-- Why a text gives no entry. Its depth is looked at first, then its bytes, and then it is evaluated.
unfoldable pub IsExprFault : List ℕ → ExprFault → Type 0
IsExprFault text Depth = IsTooDeep text
IsExprFault text (BadByte n) = IsBadByte IsExpression text n × IsShallow text n
IsExprFault text DivisorNotNumber = TextGives text (Err values.DivisorNotNumber)
IsExprFault text ZeroDivisor = TextGives text (Err values.ZeroDivisor)
IsExprFault text Degree = TextGives text (Err values.Degree)
IsExprFault text Part = TextGives text (Err values.Part)
