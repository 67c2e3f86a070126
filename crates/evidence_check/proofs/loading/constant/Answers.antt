use Rattle.std.proofs.Common.{rules, ◌∙◌, ap, ap₂, FitsSigned}
use Rattle.std.specs.Int.{w128}
use Rattle.std.proofs.lemmas.Int.{to_z-of_z}
use Rattle.std.specs.Option.{option_map}
use Rattle.field_core.specs.Polynomial.{coefficient}
use Rattle.fraction.specs.Plain.{fraction_parts}
use Rattle.evidence_check.specs.NumberReading.{fraction_by}
use Rattle.evidence_check.proofs.NumberAnswers.{fraction_made}
use Rattle.evidence_check.proofs.loading.constant.Goals as goal

pub returns : goal.returns
returns c =
    let over : FitsSigned w128 c.coefficient-numerator.result = search rules in
    let under : FitsSigned w128 c.coefficient-denominator.result = search rules in
    ap (option_map fraction_parts) c.ok.ensures.value ∙ fraction_made _ _ c.new.result c.new.ensures.lowest c.new.ensures.zero c.new.ensures.wide
    ∙ ap₂ fraction_by
    (to_z-of_z w128 c.coefficient-numerator.result over ∙ c.coefficient-numerator.ensures ∙ ap (λ p. coefficient p 0) c.numerator.ensures)
    (to_z-of_z w128 c.coefficient-denominator.result under ∙ c.coefficient-denominator.ensures ∙ ap (λ p. coefficient p 0) c.denominator.ensures)
