use Rattle.std.proofs.Common.{◌∙◌, ap₂, subst}
use Rattle.graph_io.specs.Causes.{Rose}
use Rattle.answers.specs.Lines.{refused}
use Rattle.answers.proofs.Stopping.{handed_on}
use Rattle.case_model.specs.CaseView.{content}
use Rattle.refusals.specs.WideRefusal.{wide_refusal}
use Rattle.refusals.specs.declared.wide.When.TheVariants.{Look as AfterLook}
use Rattle.study_register.specs.RegisterView.{looks_in}
use Rattle.study_cli.proofs.Answering.{opening_stops, none_kept, all_answered, break_answered, replied_kept, stopped_kept, failed_answered}
use Rattle.study_cli.proofs.CommandsReplied.{first_broken, failed_call}
use Rattle.study_cli.proofs.answer.study_answer.Goals as goal

pub returns-in_err-register-clause-ends : goal.returns-in_err-register-clause-ends
returns-in_err-register-clause-ends g c =
    let kept = g.K.Keeper.looks c.args.keeper.now in
    handed_on _ _ _ c.from_residual.ensures.1
    (opening_stops (content c.args.case.now) c.args.commands.now kept _ _ _ _ _ c.in_err-register.field-0.0 c.in_err-register.ensures.kept
    c.in_err-register.ensures.ends)

pub returns-in_err-text-clause-ends : goal.returns-in_err-text-clause-ends
returns-in_err-text-clause-ends g c =
    let r = c.in_ok-register in
    handed_on _ _ _ c.from_residual-in_err-text.ensures.1
    (none_kept (content c.args.case.now) c.args.commands.now (g.K.Keeper.looks c.args.keeper.now) _ r.ensures.kept, tt, r.ensures.ends.1)

pub returns-in_err-done_answer-in-Ok-clause-ends : goal.returns-in_err-done_answer-in-Ok-clause-ends
returns-in_err-done_answer-in-Ok-clause-ends g c =
    let kept = g.K.Keeper.looks c.args.keeper.now in
    let r = c.in_ok-register in
    handed_on _ _ _ c.from_residual-in_err-done_answer-in-Ok.ensures.1 (
      replied_kept (content c.args.case.now) c.args.commands.now kept _ _ r.ensures.kept (looks_in r.register) r.ensures.ends.0.taken _ _ _
          r.ensures.loaded _ _ _
          c.in-Ok.ensures.replied,
      tt,
      c.in-Ok.ensures.counted (λ f. cc) ∙ r.ensures.ends.1,
    )

pub returns-in-Ok-clause-ends : goal.returns-in-Ok-clause-ends
returns-in-Ok-clause-ends g c =
    let kept = g.K.Keeper.looks c.args.keeper.now in
    let r = c.in_ok-register in (
      all_answered (content c.args.case.now) c.args.commands.now kept _ _ r.ensures.kept
          (looks_in r.register) r.ensures.ends.0.taken _ _ _ r.ensures.loaded c.count.result c.in_ok-text.text _ _ _
          c.count.ensures c.in_ok-text.ensures c.in-Ok.ensures.replied c.in_ok-done_answer-in-Ok.ensures,
      tt,
      c.in-Ok.ensures.counted (λ f. cc) ∙ r.ensures.ends.1,
    )

pub returns-in_err-stopped_answer-in-Err-Wide-clause-ends : goal.returns-in_err-stopped_answer-in-Err-Wide-clause-ends
returns-in_err-stopped_answer-in-Err-Wide-clause-ends g c =
    let kept = g.K.Keeper.looks c.args.keeper.now in
    let r = c.in_ok-register in
    let e = c.in-Err-Wide in
    handed_on _ _ _ c.from_residual-in_err-stopped_answer-in-Err-Wide.ensures.1 (
      stopped_kept (content c.args.case.now) c.args.commands.now kept _ _ r.ensures.kept (looks_in r.register) r.ensures.ends.0.taken _ _ _
          r.ensures.loaded _ e.field-0
          e.ensures.stopped,
      tt,
      e.ensures.counted (λ f. cc (f, e.field-0-is)) ∙ r.ensures.ends.1,
    )

pub returns-in-Err-Wide-clause-ends : goal.returns-in-Err-Wide-clause-ends
returns-in-Err-Wide-clause-ends g c =
    let k = content c.args.case.now in
    let commands = c.args.commands.now in
    let kept = g.K.Keeper.looks c.args.keeper.now in
    let r = c.in_ok-register in
    let e = c.in-Err-Wide in
    let s = looks_in r.register in (
      break_answered k commands kept _ _ r.ensures.kept s r.ensures.ends.0.taken _ _ _ r.ensures.loaded e.place e.wide _
          (first_broken k s commands _ _ _ _ _ e.field-0 e.place e.wide e.field-0-is e.ensures.stopped)
          (c.in_ok-stopped_answer-in-Err-Wide.ensures ∙ ap₂ (λ n w. refused (wide_refusal k.names (AfterLook n) w)) e.place-is e.wide-is),
      tt,
      e.ensures.counted (λ f. cc (f, e.field-0-is)) ∙ r.ensures.ends.1,
    )

pub returns-in-Err-Fault-clause-ends : goal.returns-in-Err-Fault-clause-ends
returns-in-Err-Fault-clause-ends g c =
    let k = content c.args.case.now in
    let commands = c.args.commands.now in
    let kept = g.K.Keeper.looks c.args.keeper.now in
    let faults = g.K.Keeper.faults in
    let r = c.in_ok-register in
    let e = c.in-Err-Fault in
    let s = looks_in r.register in
    let failed = failed_answered k commands kept _ _ r.ensures.kept s r.ensures.ends.0.taken _ _ _ r.ensures.loaded _
    (failed_call k s commands _ _ _ _ _ e.field-0 e.field-0-is e.ensures.stopped) in
    ((failed.0.0, subst (λ n. Rose n (faults c.replies.new.keeper)) r.ensures.ends.1 failed.0.1), failed.1, tt)
