use Rattle.std.proofs.Common.{◌∙◌, sym, Ok}
use Rattle.case_model.specs.CaseView.{content}
use Rattle.case_numbers.specs.Numbers.{in_fractions, in_quotients}
use Rattle.evidence_check.specs.declared.evidence.Evidence.TheVariants.{Plain, Eps}
use Rattle.evidence_check.specs.DocumentStatements.{said_of}
use Rattle.evidence_check.proofs.CheckAnswers.{fractions_of, quotients_of}
use Rattle.evidence_check.proofs.DocumentLaws.{read_in, handed_in, reading_fits, evidence_found}
use Rattle.evidence_check.proofs.reader.read.Goals as goal

pub returns-in_err-read_in-clause-read : goal.returns-in_err-read_in-clause-read
returns-in_err-read_in-clause-read c =
    handed_in (content c.args.case.now) c.args.bytes.now in_fractions c.from_residual.result c.in_err-read_in.field-0.0
    (sym (fractions_of (content c.args.case.now) (sym c.is_plain.ensures ∙ c.if-is_plain.true))) c.from_residual.ensures.1 c.in_err-read_in.ensures

pub returns-in_err-read_in-2-clause-read : goal.returns-in_err-read_in-2-clause-read
returns-in_err-read_in-2-clause-read c =
    handed_in (content c.args.case.now) c.args.bytes.now in_quotients c.from_residual-in_err-read_in-2.result c.in_err-read_in-2.field-0.0
    (sym (quotients_of (content c.args.case.now) (sym c.is_plain.ensures ∙ c.if-is_plain.false))) c.from_residual-in_err-read_in-2.ensures.1
    c.in_err-read_in-2.ensures

pub returns-in_ok-read_in-clause-read : goal.returns-in_ok-read_in-clause-read
returns-in_ok-read_in-clause-read c =
    read_in (content c.args.case.now) c.args.bytes.now in_fractions (Ok (said_of (Plain c.in_ok-read_in.field-0)))
    (sym (fractions_of (content c.args.case.now) (sym c.is_plain.ensures ∙ c.if-is_plain.true))) c.in_ok-read_in.ensures

pub returns-in_ok-read_in-2-clause-read : goal.returns-in_ok-read_in-2-clause-read
returns-in_ok-read_in-2-clause-read c =
    read_in (content c.args.case.now) c.args.bytes.now in_quotients (Ok (said_of (Eps c.in_ok-read_in-2.field-0)))
    (sym (quotients_of (content c.args.case.now) (sym c.is_plain.ensures ∙ c.if-is_plain.false))) c.in_ok-read_in-2.ensures

pub returns-in_ok-read_in-clause-fits : goal.returns-in_ok-read_in-clause-fits
returns-in_ok-read_in-clause-fits c =
    reading_fits (content c.args.case.now) c.args.bytes.now (Plain c.in_ok-read_in.field-0) (sym c.is_plain.ensures ∙ c.if-is_plain.true)
    (evidence_found (content c.args.case.now) c.args.bytes.now (Plain c.in_ok-read_in.field-0)
    (read_in (content c.args.case.now) c.args.bytes.now in_fractions (Ok (said_of (Plain c.in_ok-read_in.field-0)))
    (sym (fractions_of (content c.args.case.now) (sym c.is_plain.ensures ∙ c.if-is_plain.true))) c.in_ok-read_in.ensures))

pub returns-in_ok-read_in-2-clause-fits : goal.returns-in_ok-read_in-2-clause-fits
returns-in_ok-read_in-2-clause-fits c =
    reading_fits (content c.args.case.now) c.args.bytes.now (Eps c.in_ok-read_in-2.field-0) (sym c.is_plain.ensures ∙ c.if-is_plain.false)
    (evidence_found (content c.args.case.now) c.args.bytes.now (Eps c.in_ok-read_in-2.field-0)
    (read_in (content c.args.case.now) c.args.bytes.now in_quotients (Ok (said_of (Eps c.in_ok-read_in-2.field-0)))
    (sym (quotients_of (content c.args.case.now) (sym c.is_plain.ensures ∙ c.if-is_plain.false))) c.in_ok-read_in-2.ensures))
