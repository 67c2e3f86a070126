-- The staged test of a case: what it rejects once some values have arrived.
use Rattle.std.specs.Prelude.{ℕ, Bool, true, List, [], get_or}
use Rattle.std.specs.List.{list_all}
use Rattle.fraction.specs.View.{number_of}
use Rattle.case_model.specs.declared.draft_stages.Arrival.{Arrival}
use Rattle.case_model.specs.declared.inputs.Inputs.{Inputs}
use Rattle.case_model.specs.declared.inputs.Inputs.TheVariants.{Bare, Single, Staged}
use Rattle.case_model.specs.declared.spend.Spend.{Spend}
use Rattle.case_model.specs.declared.spend.Spend.TheVariants.{Shares, Table}
use Rattle.case_model.specs.Draft.{is_short_level}
use Rattle.case_model.specs.Content.{Content, entangled}
use Rattle.case_model.specs.StagedTest.{IsStagedLegal, IsStagedRejected}

-- what the hypotheses spend; the empty list if there are no stages
abbrev pub spends_in : Inputs → List Spend
spends_in (Staged s) = s.spend
spends_in Bare = []
spends_in (Single ps) = []

-- the spend at a position, and one of nothing past the last
abbrev pub spend_at : List Spend → ℕ → Spend
spend_at spends k = get_or spends k (Shares [])

-- what the hypothesis at a position spends
abbrev pub spend_in : Content → ℕ → Spend
spend_in c = spend_at (spends_in c.inputs)

-- whether each fraction that is spent has parts of at most 10,000
abbrev pub has_short_fractions : Spend → Bool
has_short_fractions (Shares fs) = list_all is_short_level fs
has_short_fractions (Table ss) = true

-- how many stages there are
abbrev pub stages_in : Inputs → ℕ
stages_in (Staged s) = s.count
stages_in Bare = 0
stages_in (Single ps) = 0

module _ (c : Content) (values : List Arrival) where
  -- `k` is legal in the set `I`
  abbrev pub IsStagedLegalIn : (ℕ → Bool) → ℕ → Type 0
  IsStagedLegalIn = IsStagedLegal (spend_in c) (number_of c.alpha) values (entangled c)

  -- the staged closed test rejects the hypothesis at this position
  abbrev pub IsStagedRejectedIn : ℕ → Type 0
  IsStagedRejectedIn = IsStagedRejected (spend_in c) (number_of c.alpha) values (entangled c)
