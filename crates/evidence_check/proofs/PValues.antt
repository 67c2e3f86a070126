-- The p-values of a case.
use Rattle.std.proofs.Common.{◌≡◌, sym, ap, subst, ◌∙◌, ℕ, ◌<◌, List, length, get_or}
use Rattle.std.proofs.lemmas.List.{get_or_default}
use Rattle.field_core.specs.declared.ratio.Ratio.{Ratio}
use Rattle.fraction.specs.View.{number_of}
use Rattle.case_model.specs.declared.inputs.Inputs.{Inputs}
use Rattle.case_model.specs.declared.inputs.Inputs.TheVariants.{Single}
use Rattle.case_model.specs.Draft.{ArePValues}
use Rattle.case_model.specs.Content.{IfSingle}
use Rattle.case_model.specs.Sums.{zero_ratio, ratio_at, number_at}
use Rattle.evidence_check.specs.CaseCheck.{p_values_of}

pub p_at : (m : ℕ) (i r : Inputs) (ps qs : List Ratio) (k : ℕ) (x : Ratio) → r ≡ i → r ≡ Single ps → IfSingle r (ArePValues m) → qs ≡ ps
    → k < m → x ≡ get_or qs k x → number_of x ≡ number_at (p_values_of i) k
unfolding ratio_at
p_at m i r ps qs k x e s v q p h =
    let A : ArePValues m ps = subst (λ r. IfSingle r (ArePValues m)) s v in
    let b : k < length ps = subst (λ n. k < n) (sym A.count) p in
    ap number_of (h ∙ ap (λ qs. get_or qs k x) q ∙ get_or_default ps k x zero_ratio b) ∙ sym (ap (λ i. number_at (p_values_of i) k) (sym e ∙ s))
