-- What is left of an edge expression, as contracts of the evaluator's parts see it.
use Rattle.std.specs.Prelude.{◌≡◌, ◌≢◌, ℕ, ◌+◌, ◌%◌, ◌⊎◌, true, List, [], ◌∷◌, Option, Some, None, Result, is_ok, length}
use Rattle.std.specs.Prelude.{drop, take, min}
use Rattle.numerals.specs.Numeral.{body_text}
use Rattle.numerals.specs.DecimalMachine.{decimal_length}
use Rattle.field_core.specs.Terms.{Terms}
use Rattle.text_lines.specs.Words.{after_blanks}
use Rattle.edge_expression.specs.declared.value_fault.ValueFault.{ValueFault}
use Rattle.edge_expression.specs.declared.polynomial.Polynomial.{Polynomial}
use Rattle.edge_expression.specs.declared.polynomial.Operation.{Operation}
use Rattle.edge_expression.specs.declared.polynomial.Operation.TheVariants as operations
use Rattle.edge_expression.specs.declared.cursor.Head.{Head}
use Rattle.edge_expression.specs.declared.cursor.Head.TheVariants as heads
use Rattle.edge_expression.specs.Expressions.{Expression, Term, Factor, Number, Other, Epsilon, Parens, Token, DecimalToken, CaretToken, PowerToken, SignToken}
use Rattle.edge_expression.specs.Expressions.{CloseToken, power_tokens, expression_tokens, term_tokens, IsSpelt}
use Rattle.edge_expression.specs.EntryValues.{value, term_value, factor_value}
use Rattle.edge_expression.specs.EntryView.{map_value, polynomial_terms}

-- ---- bytes

-- the text doesn't begin with this byte
abbrev pub IsOtherThan : ℕ → List ℕ → Type 0
IsOtherThan b [] = Unit {0}
IsOtherThan b (c ∷ cs) = c ≢ b

-- the text doesn't begin with a sign
abbrev pub NoSign : List ℕ → Type 0
NoSign text = IsOtherThan 43 text × IsOtherThan 45 text

-- a sign was taken, or else there is none
abbrev pub SignTaken : Option Operation → List ℕ → List ℕ → Type 0
SignTaken None old new = NoSign (after_blanks old) × (new ≡ old)
SignTaken (Some operations.Add) old new = after_blanks old ≡ 43 ∷ new
SignTaken (Some operations.Subtract) old new = after_blanks old ≡ 45 ∷ new
SignTaken (Some operations.Multiply) old new = ⊥
SignTaken (Some operations.Divide) old new = ⊥

-- a factor other than a decimal may begin here
abbrev pub MayBeBeside : List ℕ → Type 0
MayBeBeside [] = ⊥
MayBeBeside (b ∷ bs) = (b ≡ 40) ⊎ (b ≡ 92)

-- no further factor begins here
abbrev pub NoJoint : List ℕ → Type 0
NoJoint [] = Unit {0}
NoJoint (b ∷ bs) = (b ≢ 42) × (b ≢ 47) × (b ≢ 40) × (b ≢ 92)

-- what joins a further factor was taken, or else there is none; a `*` that is left out takes no byte
abbrev pub JointTaken : Option Operation → List ℕ → List ℕ → Type 0
JointTaken None old new = NoJoint (after_blanks old) × (new ≡ old)
JointTaken (Some operations.Add) old new = ⊥
JointTaken (Some operations.Subtract) old new = ⊥
JointTaken (Some operations.Multiply) old new = (after_blanks old ≡ 42 ∷ new) ⊎ (MayBeBeside (after_blanks old) × (new ≡ old))
JointTaken (Some operations.Divide) old new = after_blanks old ≡ 47 ∷ new

-- the text begins with a backslash
abbrev pub BeginsWord : List ℕ → Type 0
BeginsWord [] = ⊥
BeginsWord (b ∷ bs) = b ≡ 92

-- the front of a factor was taken: a parenthesis, or eight bytes from a backslash on, or else what may begin a decimal
abbrev pub HeadTaken : Head → List ℕ → List ℕ → Type 0
HeadTaken heads.Open old new = old ≡ 40 ∷ new
HeadTaken heads.Epsilon old new = BeginsWord old × (new ≡ drop (min (length old) 8) old)
HeadTaken (heads.Decimal text) old new = IsOtherThan 40 old × IsOtherThan 92 old
    × (text.now ≡ take (decimal_length old) old) × (new ≡ drop (decimal_length old) old)

-- what a front adds to the length of what is left, by which the calls to come are counted: a parenthesis leads to a sum
abbrev pub head_weight : Head → ℕ
head_weight heads.Open = 3
head_weight heads.Epsilon = 0
head_weight (heads.Decimal text) = 0

-- a byte after a caret was taken as the digit of a power, or there is no caret
abbrev pub PowerTaken : ℕ → List ℕ → List ℕ → Type 0
PowerTaken power old new =
    (IsOtherThan 94 (after_blanks old) × (new ≡ old) × (power ≡ 1))
    ⊎ ((between : List ℕ) × (after_blanks old ≡ 94 ∷ between)
    × (((digit : ℕ) × (after_blanks between ≡ digit ∷ new) × (power ≡ (digit + 208) % 256))
    ⊎ ((after_blanks between ≡ []) × (new ≡ between))))

-- a byte was taken, if there is one
abbrev pub CloseTaken : List ℕ → List ℕ → Type 0
CloseTaken old new = ((after_blanks old ≡ []) × (new ≡ old)) ⊎ ((b : ℕ) × (after_blanks old ≡ b ∷ new))

-- ---- tokens

-- an expression may end before these tokens
abbrev pub EndsExpression : List Token → Type 0
EndsExpression [] = Unit {0}
EndsExpression (CloseToken ∷ ks) = Unit {0}
EndsExpression (k ∷ ks) = ⊥

-- a term may end before these tokens
abbrev pub EndsTerm : List Token → Type 0
EndsTerm [] = Unit {0}
EndsTerm (CloseToken ∷ ks) = Unit {0}
EndsTerm (SignToken sign ∷ ks) = Unit {0}
EndsTerm (k ∷ ks) = ⊥

-- a factor may end before these tokens
abbrev pub EndsFactor : List Token → Type 0
EndsFactor (DecimalToken decimal ∷ ks) = ⊥
EndsFactor (PowerToken power ∷ ks) = ⊥
EndsFactor (CaretToken ∷ ks) = ⊥
EndsFactor ks = Unit {0}

-- ---- what the evaluator gives

-- The result is this answer, and if it is a value, what is left spells these tokens.
abbrev pub Evaluates : Result Polynomial ValueFault → List ℕ → Result (List Terms) ValueFault → List Token → Type 0
Evaluates result left answer more = (map_value polynomial_terms result ≡ answer) × (is_ok result ≡ true → IsSpelt more left)

-- after this front, what is left spells the rest of the factor, and then these tokens
unfoldable pub IsHead : Head → List ℕ → Factor → List Token → Type 0
IsHead (heads.Decimal text) rest (Number decimal) more = (text.now ≡ body_text decimal.body) × IsSpelt more rest
IsHead heads.Epsilon rest (Other (Epsilon power)) more = IsSpelt (power_tokens power more) rest
IsHead heads.Open rest (Other (Parens inner)) more = IsSpelt (expression_tokens inner (CloseToken ∷ more)) rest
IsHead head rest factor more = ⊥

-- of each expression that the text spells, whatever follows it, the result is its value or its fault
unfoldable pub SumGives : List ℕ → Result Polynomial ValueFault → List ℕ → Type 0
SumGives old result new = (e : Expression) (more : List Token) → EndsExpression more
    → IsSpelt (expression_tokens e more) old → Evaluates result new (value e) more

-- of each term that the text spells, whatever follows it, the result is its value or its fault
unfoldable pub ProductGives : List ℕ → Result Polynomial ValueFault → List ℕ → Type 0
ProductGives old result new = (t : Term) (more : List Token) → EndsTerm more → IsSpelt (term_tokens t more) old → Evaluates result new (term_value t) more

-- of each factor whose front was taken, whatever follows it, the result is its value or its fault
unfoldable pub FactorGives : Head → List ℕ → Result Polynomial ValueFault → List ℕ → Type 0
FactorGives head old result new = (f : Factor) (more : List Token) → EndsFactor more → IsHead head old f more → Evaluates result new (factor_value f) more
