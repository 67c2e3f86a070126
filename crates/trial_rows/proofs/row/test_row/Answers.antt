use Rattle.std.proofs.Common.{refl, subst, ℕ, get_or, length, arith}
use Rattle.case_model.specs.CaseView.{content}
use Rattle.case_model.specs.Content.{IsRejectedIn}
use Rattle.case_model.specs.LegalOrder.{IsListed}
use Rattle.sequential.specs.OtherPValues.{with_p}
use Rattle.sequential.specs.TrialView.{trial}
use Rattle.trial_rows.specs.Rows.{AreReadings, decided, wide}
use Rattle.trial_rows.proofs.Places.{moved_mark}
use Rattle.trial_rows.proofs.row.test_row.Goals as goal

pub returns-in-Ok-clause-row : goal.returns-in-Ok-clause-row
returns-in-Ok-clause-row c =
    let k = content c.args.case.now in
    let doubles = λ (j : ℕ). get_or c.args.doubles.now j 0 in
    let ps = c.read_all.new.p_values in
    let t = trial c.reject_all.new.current in
    let read : AreReadings (length k.names) doubles ps = subst (λ n. AreReadings n doubles ps) c.requires.doubles (c.read_all.ensures.read c.if-not-read_all.false) in
    decided refl ps read (c.in-Ok.ensures.defined (with_p k ps) c.reopen_with-current.ensures.trial) (λ j h. moved_mark (IsListed t.rejected j) (IsRejectedIn (with_p k ps) j) _
    (c.in-Ok.ensures.all (with_p k ps) j c.reopen_with-current.ensures.trial)
    (c.mark_all.ensures j (omega (arith, h, c.requires.marks, c.mark_all.auto.marks))))

pub returns-in-Err-clause-row : goal.returns-in-Err-clause-row
returns-in-Err-clause-row c =
    let k = content c.args.case.now in
    let doubles = λ (j : ℕ). get_or c.args.doubles.now j 0 in
    let ps = c.read_all.new.p_values in
    let read : AreReadings (length k.names) doubles ps = subst (λ n. AreReadings n doubles ps) c.requires.doubles (c.read_all.ensures.read c.if-not-read_all.false) in
    wide refl ps read c.in-Err.field-0.0 c.in-Err.field-0.1 (c.in-Err.ensures.wide (with_p k ps) c.reopen_with-current.ensures.trial)
    (λ j h. c.unmark_all-in-Err.ensures j (omega (arith, h, c.requires.marks)))
