-- The canonical texts of entries.
use Rattle.std.specs.Prelude.{ℕ, zero, suc, ◌+◌, ◌&&◌, ◌==◌, Bool, true, false, List, [], ◌∷◌, ◌++◌, map, codes, if◌then◌else◌}
use Rattle.std.specs.Int.{is_negative}
use Rattle.field_core.specs.Terms.{Terms}
use Rattle.field_core.specs.View.{terms}
use Rattle.field_core.specs.declared.ratio.Ratio.{Ratio}
use Rattle.fraction.specs.Spelling.{spelling}
use Rattle.fraction.specs.Tests.{is_zero, is_one, absolute}
use Rattle.case_model.specs.Sums.{terms_at}

-- a power of epsilon above 0
abbrev pub power_text : ℕ → List ℕ
power_text power = if power == 1 then codes "\\epsilon" else codes "\\epsilon^" ++ ((48 + power) ∷ [])

-- what is before a power of epsilon: nothing for 1, else the fraction and `*`
abbrev pub factor_text : Terms → List ℕ
factor_text t = if is_one t then [] else spelling t ++ codes "*"

-- a term with its coefficient, which isn't below 0: the fraction alone at power 0
unfoldable pub term_text : ℕ → Terms → List ℕ
term_text power t = if power == 0 then spelling t else factor_text t ++ power_text power

-- what joins a term to those before it: a minus if it is below 0, else a plus, which the first term lacks
abbrev pub joint_text : Bool → Bool → List ℕ
joint_text is_first true = codes "-"
joint_text true false = []
joint_text false false = codes "+"

-- a term with what joins it to those before it
unfoldable pub joined_term : Bool → ℕ → Terms → List ℕ
joined_term is_first power t = joint_text is_first (is_negative t.num) ++ term_text power (absolute t)

-- the terms of n powers that aren't 0, from a power on
unfoldable pub terms_text : Bool → ℕ → ℕ → List Terms → List ℕ
terms_text is_first power zero entry = []
terms_text is_first power (suc n) entry =
    if is_zero (terms_at entry power) then terms_text is_first (suc power) n entry
    else joined_term is_first power (terms_at entry power) ++ terms_text false (suc power) n entry

-- whether the coefficients of all powers below n are 0
unfoldable pub are_zero_below : ℕ → List Terms → Bool
are_zero_below zero entry = true
are_zero_below (suc n) entry = are_zero_below n entry && is_zero (terms_at entry n)

-- the terms of five coefficients that aren't 0, from power 0 to 4, or 0 if there is none
unfoldable pub coefficients_text : List Terms → List ℕ
coefficients_text entry = if are_zero_below 5 entry then codes "0" else terms_text true 0 5 entry

-- the text of an entry
abbrev pub entry_text : List Ratio → List ℕ
entry_text entry = coefficients_text (map terms entry)
