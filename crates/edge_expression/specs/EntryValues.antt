-- The values of edge expressions: entries, by their five coefficients of ascending power, or the first fault from left to right.
use Rattle.std.specs.Prelude.{ℕ, zero, suc, ◌-◌, ◌+◌, ◌^◌, ◌==◌, Bool, List, [], ◌∷◌, pos, ℤ, ◌+ℤ◌, ◌-ℤ◌, ◌*ℤ◌}
use Rattle.std.specs.Prelude.{Option, Some, None, Result, Ok, Err, nat_lt, if◌then◌else◌}
use Rattle.field_core.specs.Terms.{Terms}
use Rattle.field_core.specs.Steps.{◌>>=◌}
use Rattle.numerals.specs.Lowest.{lowest_terms}
use Rattle.numerals.specs.Decimals.{decimal_value}
use Rattle.case_model.specs.Sums.{zero_terms, terms_at}
use Rattle.fraction.specs.Tests.{is_zero, is_within}
use Rattle.edge_expression.specs.declared.value_fault.ValueFault.{ValueFault}
use Rattle.edge_expression.specs.declared.value_fault.ValueFault.TheVariants.{DivisorNotNumber, ZeroDivisor, Degree, Part}
use Rattle.edge_expression.specs.Expressions.{Power, Sign, Plus, Minus, Expression, Sum, MoreTerms, NoTerm, AndTerm, Term, Product, MoreFactors, NoFactor}
use Rattle.edge_expression.specs.Expressions.{Times, Over, Beside, Factor, Number, Other, Further, Epsilon, Parens}

-- ---- fractions

-- whether neither part is above 10^18
abbrev pub is_short : Terms → Bool
is_short t = is_within (10 ^ 18) t

-- a fraction, if neither part is above 10^18
unfoldable pub short_of : Terms → Result Terms ValueFault
short_of t = if is_short t then Ok t else Err Part

-- n/d in lowest terms, if neither part is above 10^18
unfoldable pub short : ℤ → ℤ → Result Terms ValueFault
short n d = short_of (lowest_terms n d)

-- the sum of two fractions, if neither part is above 10^18
abbrev pub sum : Terms → Terms → Result Terms ValueFault
sum x y = short (x.num *ℤ y.den +ℤ y.num *ℤ x.den) (x.den *ℤ y.den)

-- the difference of two fractions, if neither part is above 10^18
abbrev pub difference : Terms → Terms → Result Terms ValueFault
difference x y = short (x.num *ℤ y.den -ℤ y.num *ℤ x.den) (x.den *ℤ y.den)

-- the product of two fractions, if neither part is above 10^18
abbrev pub product : Terms → Terms → Result Terms ValueFault
product x y = short (x.num *ℤ y.num) (x.den *ℤ y.den)

-- the quotient of two fractions, if neither part is above 10^18
abbrev pub quotient : Terms → Terms → Result Terms ValueFault
quotient x y = short (x.num *ℤ y.den) (x.den *ℤ y.num)

-- ---- entries

-- a number: the coefficients of the powers of epsilon are 0
abbrev pub plain_entry : Terms → List Terms
plain_entry value = value ∷ zero_terms ∷ zero_terms ∷ zero_terms ∷ zero_terms ∷ []

-- 0
abbrev pub zero_coefficients : List Terms
zero_coefficients = plain_entry zero_terms

-- the coefficients of the powers from 0 to 4
unfoldable pub coefficients : (ℕ → Result Terms ValueFault) → Result (List Terms) ValueFault
coefficients f = do
  constant ← f 0
  first ← f 1
  second ← f 2
  third ← f 3
  fourth ← f 4
  Ok (constant ∷ first ∷ second ∷ third ∷ fourth ∷ [])

-- the sum or the difference of two entries
unfoldable pub joined : Sign → List Terms → List Terms → Result (List Terms) ValueFault
joined Plus x y = coefficients (λ k. sum (terms_at x k) (terms_at y k))
joined Minus x y = coefficients (λ k. difference (terms_at x k) (terms_at y k))

-- the greatest power up to n whose coefficient isn't 0, and 0 if there is none
unfoldable pub degree_within : ℕ → List Terms → ℕ
degree_within zero x = zero
degree_within (suc n) x = if is_zero (terms_at x (suc n)) then degree_within n x else suc n

-- the greatest power whose coefficient isn't 0, and 0 if there is none
abbrev pub degree : List Terms → ℕ
degree x = degree_within 4 x

-- the sum of the first n products of coefficients that make power k, by ascending power of the first factor
unfoldable pub product_sum : List Terms → List Terms → ℕ → ℕ → Result Terms ValueFault
product_sum x y k zero = Ok zero_terms
product_sum x y k (suc i) = do
  before ← product_sum x y k i
  next ← product (terms_at x i) (terms_at y (k - i))
  sum before next

-- the product of two entries
unfoldable pub times : List Terms → List Terms → Result (List Terms) ValueFault
times x y = if nat_lt 4 (degree x + degree y) then Err Degree else coefficients (λ k. product_sum x y k (suc k))

-- the quotient of two entries
unfoldable pub over : List Terms → List Terms → Result (List Terms) ValueFault
over x y =
    if nat_lt 0 (degree y) then Err DivisorNotNumber
    else if is_zero (terms_at y 0) then Err ZeroDivisor
    else coefficients (λ k. quotient (terms_at x k) (terms_at y 0))

-- ---- literals

-- the entry of a decimal's value
abbrev pub decimal_entry : Option Terms → Result (List Terms) ValueFault
decimal_entry None = Err Part
decimal_entry (Some value) = short_of value >>= λ x. Ok (plain_entry x)

-- the coefficient of the power `k` in epsilon to the `power`: 1 if they are equal, and else 0
abbrev pub unit_at : ℕ → ℕ → Terms
unit_at power k = if k == power then record { num = pos 1; den = pos 1 } else zero_terms

-- a power of epsilon
unfoldable pub power_value : ℕ → Result (List Terms) ValueFault
power_value power = if nat_lt 4 power then Err Degree else coefficients (λ k. Ok (unit_at power k))

-- epsilon, or its written power
abbrev pub epsilon_value : Option Power → Result (List Terms) ValueFault
epsilon_value None = power_value 1
epsilon_value (Some power) = power_value power.power

-- ---- expressions, from left to right

-- plus if no sign is written
abbrev pub sign_or_plus : Option Sign → Sign
sign_or_plus None = Plus
sign_or_plus (Some sign) = sign

unfoldable mutual
  -- the value of an expression: the terms are added to 0 one after another
  pub value : Expression → Result (List Terms) ValueFault
  value (Sum sign first others) = do
    term ← term_value first
    sum ← joined (sign_or_plus sign) zero_coefficients term
    with_terms sum others

  -- a sum, and further terms added to it
  pub with_terms : List Terms → MoreTerms → Result (List Terms) ValueFault
  with_terms sum NoTerm = Ok sum
  with_terms sum (AndTerm sign term others) = do
    next ← term_value term
    longer ← joined sign sum next
    with_terms longer others

  -- the value of a term
  pub term_value : Term → Result (List Terms) ValueFault
  term_value (Product first others) = do
    factor ← factor_value first
    with_factors factor others

  -- a product, multiplied and divided by further factors
  pub with_factors : List Terms → MoreFactors → Result (List Terms) ValueFault
  with_factors product NoFactor = Ok product
  with_factors product (Times factor others) = do
    next ← factor_value factor
    longer ← times product next
    with_factors longer others
  with_factors product (Over divisor others) = do
    next ← factor_value divisor
    longer ← over product next
    with_factors longer others
  with_factors product (Beside factor others) = do
    next ← further_value factor
    longer ← times product next
    with_factors longer others

  -- the value of a factor
  pub factor_value : Factor → Result (List Terms) ValueFault
  factor_value (Number decimal) = decimal_entry (decimal_value decimal)
  factor_value (Other further) = further_value further

  -- the value of a factor that is not a decimal
  pub further_value : Further → Result (List Terms) ValueFault
  further_value (Epsilon power) = epsilon_value power
  further_value (Parens inner) = value inner
