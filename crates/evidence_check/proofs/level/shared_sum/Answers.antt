use Rattle.std.proofs.Common.{rules, ◌≡◌, ◌∙◌, sym, ap, map, Ok, Err, arith}
use Rattle.field_core.specs.declared.place.Place.TheVariants.{Level}
use Rattle.field_core.specs.Kind.{ok_map}
use Rattle.fraction.specs.Plain.{plain, fraction_parts}
use Rattle.case_model.specs.CaseView.{content}
use Rattle.evidence_check.specs.EvidenceParts.{numbers_at}
use Rattle.evidence_check.specs.CaseCheck.{share_in}
use Rattle.evidence_check.proofs.AddedSteps.{added_none, added_stops, added_goes, added_end}
use Rattle.evidence_check.proofs.LevelAnswers.{shared_is}
use Rattle.evidence_check.proofs.level.shared_sum.Goals as goal

pub loop-c-init : goal.loop-c-init
loop-c-init c = added_none plain (λ c. c) (Level c.args.k) plain.zero (share_in (content c.args.case.now))
    (numbers_at plain (map fraction_parts c.args.limits.now)) ∙ ap Ok (sym c.zero-sum.ensures)

pub returns-in_err-sum : goal.returns-in_err-sum
returns-in_err-sum c = λ K n.
    let e : c.from_residual.result ≡ Err c.in_err-sum.field-0.0 = search rules in
    ap (ok_map fraction_parts) (e ∙ sym c.in_err-sum.was)
    ∙ added_stops plain (λ c. c) (Level c.args.k) plain.zero (share_in (content c.args.case.now))
    (numbers_at plain (map fraction_parts c.args.limits.now)) fraction_parts c.loop-c.c (fraction_parts c.loop-c.sum)
    (fraction_parts c.share.result) (fraction_parts c.number.result) c.with_product.result c.loop-c.invariant
    (ap fraction_parts c.share.ensures) c.number.ensures c.with_product.ensures _ c.in_err-sum.field-0.0
    (omega (arith, c.loop-c-test.true, c.requires)) c.in_err-sum.was
    ∙ shared_is K n (content c.args.case.now) c.args.k (map fraction_parts c.args.limits.now)

pub loop-c-preserved : goal.loop-c-preserved
loop-c-preserved c =
    added_goes plain (λ c. c) (Level c.args.k) plain.zero (share_in (content c.args.case.now))
    (numbers_at plain (map fraction_parts c.args.limits.now)) fraction_parts c.loop-c.c (fraction_parts c.loop-c.sum)
    (fraction_parts c.share.result) (fraction_parts c.number.result) c.with_product.result c.loop-c.invariant
    (ap fraction_parts c.share.ensures) c.number.ensures c.with_product.ensures c.in_ok-sum.sum c.in_ok-sum.was

pub returns : goal.returns
returns c = λ K n.
    added_end plain (λ c. c) (Level c.args.k) plain.zero (share_in (content c.args.case.now))
    (numbers_at plain (map fraction_parts c.args.limits.now)) c.loop-c.c _ (fraction_parts c.loop-c.sum)
    (omega (arith, c.loop-c.auto.c-end, c.loop-c-test.false, c.requires)) c.loop-c.invariant
    ∙ shared_is K n (content c.args.case.now) c.args.k (map fraction_parts c.args.limits.now)
