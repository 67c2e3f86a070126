-- A case with other p-values.
use Rattle.std.specs.Prelude.{ℕ, List, length}
use Rattle.field_core.specs.Order.{◌≤ε◌}
use Rattle.field_core.specs.declared.ratio.Ratio.{Ratio}
use Rattle.case_model.specs.declared.inputs.Inputs.TheVariants.{Single}
use Rattle.case_model.specs.Draft.{ArePValues}
use Rattle.case_model.specs.Content.{Content, IsRejectedIn}
use Rattle.case_model.specs.Sums.{number_at}
use Rattle.case_model.specs.Validity.{IsValidContent}
use Rattle.sequential.specs.Trials.{TrialContent, IsTrialOf}

-- the same case with these p-values in place of those that it has, single ones or those of stages
abbrev pub with_p : Content → List Ratio → Content
with_p c ps = record c { inputs = Single ps }

-- A case stays valid with other p-values in place of its own, one for each hypothesis.
abbrev pub CasesAreValidWithOtherPValues : Type 0
CasesAreValidWithOtherPValues = (c : Content) (ps : List Ratio) → IsValidContent c → ArePValues (length c.names) ps → IsValidContent (with_p c ps)

-- Whatever p-values a case has, what the closed test rejects stays rejected if p-values fall and none rises.
abbrev pub RejectionsStayWherePValuesFall : Type 0
RejectionsStayWherePValuesFall = (c : Content) (ps lesser : List Ratio) (j : ℕ) → ((k : ℕ) → number_at lesser k ≤ε number_at ps k)
    → IsRejectedIn (with_p c ps) j → IsRejectedIn (with_p c lesser) j

-- a trial of the case with some p-values in place of its own
pub record IsTrialOfGraph (c : Content) (t : TrialContent) : Type 0 where
  pub p_values : List Ratio
  pub is_trial : IsTrialOf (with_p c p_values) t
