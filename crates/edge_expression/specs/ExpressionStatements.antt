-- What holds of edge expressions and of the texts of entries.
use Rattle.std.specs.Prelude.{◌≡◌, true, List, map, length, Option, Some, None, Ok}
use Rattle.std.specs.List.{list_all}
use Rattle.field_core.specs.View.{terms}
use Rattle.field_core.specs.declared.ratio.Ratio.{Ratio}
use Rattle.field_core.specs.Number.{Number as Value}
use Rattle.field_core.specs.Arithmetic.{number_zero, ◌+ε◌, ◌-ε◌, ◌*ε◌, ◌/ε◌}
use Rattle.field_core.specs.Fractions.{fraction}
use Rattle.numerals.specs.Numeral.{value_of}
use Rattle.case_model.specs.Draft.{is_short}
use Rattle.case_model.specs.Entries.{entry_value, power_of_epsilon}
use Rattle.edge_expression.specs.Expressions.{Power, Sign, Plus, Minus, Expression, Sum, MoreTerms, NoTerm, AndTerm, Term, Product, MoreFactors, NoFactor}
use Rattle.edge_expression.specs.Expressions.{Times, Over, Beside, Factor, Number, Other, Further, Epsilon, Parens}
use Rattle.edge_expression.specs.EntryValues.{sign_or_plus, value}
use Rattle.edge_expression.specs.EntryReading.{IsEntryText}
use Rattle.edge_expression.specs.EntryTexts.{entry_text}

-- ---- the number that an expression means

-- a number with another one added or subtracted
abbrev pub moved : Sign → Value → Value → Value
moved Plus x y = x +ε y
moved Minus x y = x -ε y

-- epsilon, or its written power
abbrev pub power_meant : Option Power → Value
power_meant None = power_of_epsilon 1
power_meant (Some power) = power_of_epsilon power.power

unfoldable mutual
  -- the sum of its terms
  pub meaning : Expression → Value
  meaning (Sum sign first others) = and_terms (moved (sign_or_plus sign) number_zero (term_meaning first)) others

  -- a number, and further terms added to it
  pub and_terms : Value → MoreTerms → Value
  and_terms x NoTerm = x
  and_terms x (AndTerm sign term others) = and_terms (moved sign x (term_meaning term)) others

  -- the product of its factors
  pub term_meaning : Term → Value
  term_meaning (Product first others) = and_factors (factor_meaning first) others

  -- a number, multiplied and divided by further factors
  pub and_factors : Value → MoreFactors → Value
  and_factors x NoFactor = x
  and_factors x (Times factor others) = and_factors (x *ε factor_meaning factor) others
  and_factors x (Over divisor others) = and_factors (x /ε factor_meaning divisor) others
  and_factors x (Beside factor others) = and_factors (x *ε further_meaning factor) others

  -- a decimal's value
  pub factor_meaning : Factor → Value
  factor_meaning (Number decimal) = fraction (value_of None decimal.body).num (value_of None decimal.body).den
  factor_meaning (Other further) = further_meaning further

  -- a power of epsilon, or what is in parentheses
  pub further_meaning : Further → Value
  further_meaning (Epsilon power) = power_meant power
  further_meaning (Parens inner) = meaning inner

-- ---- statements

-- an entry is the number that the expression means
abbrev pub EntriesAreMeant : Type 0
EntriesAreMeant = (expression : Expression) (entry : List Ratio) → value expression ≡ Ok (map terms entry) → entry_value entry ≡ meaning expression

-- the text of an entry with parts of at most 10^18 is an expression of that entry
abbrev pub EntryTextsReadBack : Type 0
EntryTextsReadBack = (entry : List Ratio) → length entry ≡ 5 → list_all is_short entry ≡ true → IsEntryText (entry_text entry) entry
