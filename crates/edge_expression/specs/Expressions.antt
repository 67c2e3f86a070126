-- Edge expressions: sums of products of decimals, powers of epsilon and expressions in parentheses, and how they are spelt.
use Rattle.std.specs.Prelude.{◌≡◌, ℕ, ◌+◌, ◌<◌, ◌⊎◌, List, [], ◌∷◌, ◌++◌, Option, Some, None, codes}
use Rattle.numerals.specs.Numeral.{body_text}
use Rattle.numerals.specs.Decimals.{Decimal}

-- ---- what they are made of

-- a power that is written: one digit
pub record Power : Type 0 where
  pub power : ℕ
  pub digit : power < 10

pub data Sign : Type 0 where
  Plus : Sign
  Minus : Sign

mutual
  -- a sign or none, a first term, and further ones
  pub data Expression : Type 0 where
    Sum : (sign : Option Sign) (first : Term) (others : MoreTerms) → Expression

  -- further terms, each after a sign
  pub data MoreTerms : Type 0 where
    NoTerm : MoreTerms
    AndTerm : (sign : Sign) (term : Term) (others : MoreTerms) → MoreTerms

  -- a first factor, and further ones
  pub data Term : Type 0 where
    Product : (first : Factor) (others : MoreFactors) → Term

  -- further factors, each after `*`, after `/`, or after nothing
  pub data MoreFactors : Type 0 where
    NoFactor : MoreFactors
    Times : (factor : Factor) (others : MoreFactors) → MoreFactors
    Over : (divisor : Factor) (others : MoreFactors) → MoreFactors
    Beside : (factor : Further) (others : MoreFactors) → MoreFactors

  -- a factor: a decimal, or another one
  pub data Factor : Type 0 where
    Number : (decimal : Decimal) → Factor
    Other : (further : Further) → Factor

  -- a factor that may follow another one without a `*` between them
  pub data Further : Type 0 where
    -- `\epsilon`, and perhaps a caret and a power
    Epsilon : (power : Option Power) → Further
    -- an expression in parentheses
    Parens : (inner : Expression) → Further

-- ---- their tokens

pub data Token : Type 0 where
  DecimalToken : (decimal : Decimal) → Token
  WordToken : Token
  CaretToken : Token
  PowerToken : (power : Power) → Token
  SignToken : (sign : Sign) → Token
  TimesToken : Token
  OverToken : Token
  OpenToken : Token
  CloseToken : Token

-- perhaps a sign, and then these tokens
abbrev pub sign_tokens : Option Sign → List Token → List Token
sign_tokens None rest = rest
sign_tokens (Some sign) rest = SignToken sign ∷ rest

-- perhaps a caret and a power, and then these tokens
abbrev pub power_tokens : Option Power → List Token → List Token
power_tokens None rest = rest
power_tokens (Some power) rest = CaretToken ∷ PowerToken power ∷ rest

abbrev mutual
  -- the tokens of an expression, and then these
  pub expression_tokens : Expression → List Token → List Token
  expression_tokens (Sum sign first others) rest = sign_tokens sign (term_tokens first (terms_tokens others rest))

  -- the tokens of further terms, and then these
  pub terms_tokens : MoreTerms → List Token → List Token
  terms_tokens NoTerm rest = rest
  terms_tokens (AndTerm sign term others) rest = SignToken sign ∷ term_tokens term (terms_tokens others rest)

  -- the tokens of a term, and then these
  pub term_tokens : Term → List Token → List Token
  term_tokens (Product first others) rest = factor_tokens first (factors_tokens others rest)

  -- the tokens of further factors, and then these
  pub factors_tokens : MoreFactors → List Token → List Token
  factors_tokens NoFactor rest = rest
  factors_tokens (Times factor others) rest = TimesToken ∷ factor_tokens factor (factors_tokens others rest)
  factors_tokens (Over divisor others) rest = OverToken ∷ factor_tokens divisor (factors_tokens others rest)
  factors_tokens (Beside factor others) rest = further_tokens factor (factors_tokens others rest)

  -- the tokens of a factor, and then these
  pub factor_tokens : Factor → List Token → List Token
  factor_tokens (Number decimal) rest = DecimalToken decimal ∷ rest
  factor_tokens (Other further) rest = further_tokens further rest

  -- the tokens of a factor that is not a decimal, and then these
  pub further_tokens : Further → List Token → List Token
  further_tokens (Epsilon power) rest = WordToken ∷ power_tokens power rest
  further_tokens (Parens inner) rest = OpenToken ∷ expression_tokens inner (CloseToken ∷ rest)

-- ---- their texts

-- a sign as it is written
abbrev pub sign_byte : Sign → ℕ
sign_byte Plus = 43
sign_byte Minus = 45

-- a token as it is written
abbrev pub token_text : Token → List ℕ
token_text (DecimalToken decimal) = body_text decimal.body
token_text WordToken = codes "\\epsilon"
token_text CaretToken = codes "^"
token_text (PowerToken power) = (48 + power.power) ∷ []
token_text (SignToken sign) = sign_byte sign ∷ []
token_text TimesToken = codes "*"
token_text OverToken = codes "/"
token_text OpenToken = codes "("
token_text CloseToken = codes ")"

-- each byte is a space or a tab
abbrev pub AreBlanks : List ℕ → Type 0
AreBlanks [] = Unit {0}
AreBlanks (b ∷ bs) = ((b ≡ 32) ⊎ (b ≡ 9)) × AreBlanks bs

-- any blanks, a token, and then such a text
pub record IsTokenThen (token : Token) (IsRest : List ℕ → Type 0) (text : List ℕ) : Type 0 where
  pub blanks : List ℕ
  pub rest : List ℕ
  pub are_blanks : AreBlanks blanks
  pub spelt : text ≡ blanks ++ (token_text token ++ rest)
  pub is_rest : IsRest rest

-- these tokens in their order, with any blanks before, between and after them
abbrev pub IsSpelt : List Token → List ℕ → Type 0
IsSpelt [] text = AreBlanks text
IsSpelt (token ∷ tokens) text = IsTokenThen token (IsSpelt tokens) text

-- the text spells this expression
unfoldable pub Spells : List ℕ → Expression → Type 0
Spells text expression = IsSpelt (expression_tokens expression []) text

-- the text is an edge expression
pub record IsExpression (text : List ℕ) : Type 0 where
  pub expression : Expression
  pub spells : Spells text expression
