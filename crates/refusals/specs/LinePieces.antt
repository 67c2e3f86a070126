-- Pieces of refusal lines.
use Rattle.std.specs.Prelude.{ℕ, ◌+◌, List, [], ◌++◌, length, get_or, nat_lt, if◌then◌else◌, codes}
use Rattle.std.specs.Fmt.{decimal}
use Rattle.answers.specs.declared.refusal.Refusal.{Refusal}
use Rattle.answers.specs.declared.cause.Cause.TheVariants.{Malformed, Limit}
use Rattle.answers.specs.Lines.{line}

-- a place, counted from 1
abbrev pub counted : ℕ → List ℕ
counted i = decimal (i + 1)

-- the name of the hypothesis at a position, or, past the last name, its place counted from 1
unfoldable pub name_at : List (List ℕ) → ℕ → List ℕ
name_at names i = if nat_lt i (length names) then get_or names i [] else counted i

-- the names of two hypotheses
abbrev pub two_names : List (List ℕ) → ℕ → ℕ → List ℕ
two_names names i j = name_at names i ++ codes " " ++ name_at names j

-- ` component` and its number, from 1
abbrev pub in_component : ℕ → List ℕ
in_component c = codes " component " ++ counted c

-- a malformed input: where, and what is wrong there
unfoldable pub malformed_at : List ℕ → List ℕ → Refusal
malformed_at place kind = record { cause = Malformed; line = line (codes "malformed: " ++ place ++ codes ": " ++ kind) }

-- a quantity past its limit
unfoldable pub past_limit : List ℕ → Refusal
past_limit quantity = record { cause = Limit; line = line (codes "limit: " ++ quantity) }

-- a quantity past its limit at a place
abbrev pub limit_at : List ℕ → List ℕ → Refusal
limit_at place quantity = past_limit (place ++ codes ": " ++ quantity)
