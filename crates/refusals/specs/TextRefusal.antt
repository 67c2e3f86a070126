-- Lines of texts that denote no draft.
use Rattle.std.specs.Prelude.{ℕ, List, ◌++◌, codes}
use Rattle.std.specs.Fmt.{decimal}
use Rattle.numerals.specs.declared.fault.NumberFault.{NumberFault}
use Rattle.numerals.specs.declared.fault.NumberFault.TheVariants.{Empty, BadByte, ZeroDenominator, TooManyDigits}
use Rattle.edge_text.specs.declared.fault.LineKind.{LineKind}
use Rattle.edge_text.specs.declared.fault.LineKind.TheVariants.{Unexpected, Ended, WordCount, UnknownName, Whole, Number, Expr}
use Rattle.edge_expression.specs.declared.fault.ExprFault.{ExprFault}
use Rattle.edge_expression.specs.declared.fault.ExprFault.TheVariants.{Depth, DivisorNotNumber, ZeroDivisor, Degree, Part}
use Rattle.edge_expression.specs.declared.fault.ExprFault.TheVariants as expressions
use Rattle.answers.specs.declared.refusal.Refusal.{Refusal}
use Rattle.refusals.specs.LinePieces.{malformed_at, limit_at}

-- a line of a text, by its number from 1
abbrev pub at_line : ℕ → List ℕ
at_line n = codes "line " ++ decimal n

-- a numeral at a place is refused
unfoldable pub number_refusal : List ℕ → NumberFault → Refusal
number_refusal place Empty = malformed_at place (codes "number")
number_refusal place (BadByte n) = malformed_at place (codes "number")
number_refusal place ZeroDenominator = malformed_at place (codes "zero denominator")
number_refusal place TooManyDigits = limit_at place (codes "digits")

-- an expression at a place is refused
unfoldable pub expression_refusal : List ℕ → ExprFault → Refusal
expression_refusal place (expressions.BadByte n) = malformed_at place (codes "expression")
expression_refusal place DivisorNotNumber = malformed_at place (codes "divisor")
expression_refusal place ZeroDivisor = malformed_at place (codes "zero divisor")
expression_refusal place Degree = limit_at place (codes "degree")
expression_refusal place Part = limit_at place (codes "part")
expression_refusal place Depth = limit_at place (codes "depth")

-- a line at a place isn't allowed
unfoldable pub placed_refusal : List ℕ → LineKind → Refusal
placed_refusal place Unexpected = malformed_at place (codes "unexpected")
placed_refusal place Ended = malformed_at place (codes "ended")
placed_refusal place WordCount = malformed_at place (codes "words")
placed_refusal place UnknownName = malformed_at place (codes "unknown name")
placed_refusal place Whole = malformed_at place (codes "whole number")
placed_refusal place (Number fault) = number_refusal place fault
placed_refusal place (Expr fault) = expression_refusal place fault

-- a line of a text isn't allowed
unfoldable pub line_refusal : ℕ → LineKind → Refusal
line_refusal n kind = placed_refusal (at_line n) kind

-- a line of the commands of a study, by its number from 1
abbrev pub at_command : ℕ → List ℕ
at_command n = codes "commands line " ++ decimal n

-- a line of the commands of a study cannot be read
unfoldable pub commands_refusal : ℕ → LineKind → Refusal
commands_refusal n kind = placed_refusal (at_command n) kind
