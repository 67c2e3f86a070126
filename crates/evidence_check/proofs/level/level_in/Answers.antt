use Rattle.std.proofs.Common.{rules, ◌≡◌, ◌∙◌, sym, ap, Err}
use Rattle.field_core.specs.Kind.{ok_map}
use Rattle.field_core.proofs.Fills.{filled_run}
use Rattle.fraction.specs.Plain.{fraction_parts}
use Rattle.case_model.specs.CaseView.{content}
use Rattle.evidence_check.proofs.LevelAnswers.{level_refused, level_found}
use Rattle.evidence_check.proofs.level.level_in.Goals as goal

pub returns-in_err-try_fill : goal.returns-in_err-try_fill
returns-in_err-try_fill g c = λ K n f says.
    let e : c.from_residual.result ≡ Err c.in_err-try_fill.field-0.0 = search rules in
    ap (ok_map fraction_parts) e
    ∙ sym (level_refused K n (content c.args.case.now) c.args.k f _ c.try_fill.result
    (filled_run fraction_parts f _ _ _ _ (c.try_fill.auto.places ∙ c.requires.room) says c.try_fill.ensures) c.in_err-try_fill.field-0.0
    c.in_err-try_fill.was)

pub returns : goal.returns
returns g c = λ K n f says.
    c.shared_sum.ensures K n
    ∙ sym (level_found K n (content c.args.case.now) c.args.k f _ c.try_fill.result
    (filled_run fraction_parts f _ _ _ _ (c.try_fill.auto.places ∙ c.requires.room) says c.try_fill.ensures) _ c.in_ok-try_fill.was)
