-- The steps of evidence that `check` says yes to are a legal order.
use Rattle.std.proofs.Common.{◌≡◌, subst, List, Ok}
use Rattle.field_core.specs.Arithmetic.{number_zero}
use Rattle.field_core.specs.Order.{◌≤ε◌}
use Rattle.field_core.specs.Sets.{whole}
use Rattle.field_core.specs.Laws.NumberFieldLaws.{field_zero}
use Rattle.field_core.specs.declared.ratio.Ratio.{Ratio}
use Rattle.fraction.specs.View.{number_of}
use Rattle.case_model.specs.Content.{Content, ForSingle, entangled}
use Rattle.case_model.specs.LegalOrder.{IsLegalOrder}
use Rattle.case_model.specs.Sums.{number_at}
use Rattle.case_model.specs.Validity.{IsValidContent}
use Rattle.case_model.specs.declared.inputs.Inputs.{Inputs}
use Rattle.case_model.specs.declared.inputs.Inputs.TheVariants.{Bare, Single, Staged}
use Rattle.case_model.proofs.Thresholds.{good_level}
use Rattle.case_model.proofs.ValidContents.{shape, valid_content}
use Rattle.case_numbers.specs.Numbers.{numbers_of, kind_of}
use Rattle.evidence_check.specs.CaseCheck.{IsSingle, p_values_of, case_check, AreStepsOf}
use Rattle.evidence_check.specs.EvidenceParts.{StepParts, KeepParts}
use Rattle.evidence_check.proofs.CaseChecked.{case_tells, listed_names}
use Rattle.evidence_check.proofs.GoodSteps.{listed_legal}
use Rattle.graph_cli.specs.Laws.{IsLegalOrderIn, stepped}

-- what holds of the p-values of a case holds of its single ones
of_inputs : (P : List Ratio → Type 0) (i : Inputs) → IsSingle i → P (p_values_of i) → ForSingle i P
of_inputs P (Single ps) s h = h
of_inputs P Bare s h = absurd s
of_inputs P (Staged stages) s h = absurd s

pub checked_order : (c : Content) → IsValidContent c → IsSingle c.inputs → (steps : List StepParts) (keeps : List KeepParts) → AreStepsOf c steps keeps
    → case_check c steps keeps ≡ Ok tt → IsLegalOrderIn c (stepped steps)
checked_order c V single steps keeps S ok =
    let low : number_zero ≤ε number_of c.alpha = subst (λ z. z ≤ε number_of c.alpha) field_zero (good_level c.alpha (shape c V).level).nonneg in
    let meets = (case_tells c V steps keeps S).ok tt ok in
    let E = entangled c in
    let ps = p_values_of c.inputs in
    of_inputs (λ ps. IsLegalOrder E (number_at ps) (number_of c.alpha) whole (stepped steps)) c.inputs single
    (subst (IsLegalOrder E (number_at ps) (number_of c.alpha) whole) (listed_names (kind_of (numbers_of c)) steps)
    (listed_legal E (valid_content c V) (number_at ps) (number_of c.alpha) low _ meets))
