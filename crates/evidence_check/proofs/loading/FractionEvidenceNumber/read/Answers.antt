use Rattle.std.proofs.Common.{rules, ◌≡◌, ◌∙◌, sym, ap, Some, None}
use Rattle.std.specs.Option.{option_map}
use Rattle.fraction.specs.Plain.{fraction_parts}
use Rattle.eps_quotient.specs.View.{quotient_parts}
use Rattle.evidence_check.proofs.NumberAnswers.{plain_read, plain_not}
use Rattle.evidence_check.proofs.loading.FractionEvidenceNumber.read.Goals as goal

pub returns-then-has_bracket : goal.returns-then-has_bracket
returns-then-has_bracket c = plain_not c.args.text.now (sym c.has_bracket.ensures ∙ c.if-has_bracket.true)

pub returns-in_err-read : goal.returns-in_err-read
returns-in_err-read c =
    let e : c.from_residual.result ≡ None = search rules in
    ap (option_map fraction_parts) e ∙ sym (plain_read c.args.text.now None (sym c.has_bracket.ensures ∙ c.if-has_bracket.false)
    (ap (option_map quotient_parts) (sym c.in_err-read.was) ∙ c.read.ensures.denoted))

pub returns : goal.returns
returns c =
    c.constant.ensures ∙ sym (plain_read c.args.text.now (Some (quotient_parts c.in_ok-read.field-0)) (sym c.has_bracket.ensures ∙ c.if-has_bracket.false)
    (ap (option_map quotient_parts) (sym c.in_ok-read.was) ∙ c.read.ensures.denoted))
