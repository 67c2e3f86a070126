use Rattle.std.proofs.Common.{◌+◌, [], ◌∷◌, ◌++◌, Err, sym, ap, ap₂, ◌∙◌, subst, drop, length}
use Rattle.std.proofs.lemmas.Result.{err_from_is_err_and}
use Rattle.graph_io.specs.Causes.{Rose}
use Rattle.case_model.specs.CaseView.{content}
use Rattle.report.specs.StudyReport.{refused_line}
use Rattle.study_cli.specs.declared.command.StudyCommand.TheVariants.{Take as AskTake}
use Rattle.study_register.specs.RegisterFaults.{turns_of}
use Rattle.study_register.specs.RegisterView.{looks_in}
use Rattle.study_cli.specs.AnswerView.{StopsCommands}
use Rattle.study_cli.specs.declared.replying.CommandStop.TheVariants.{Wide}
use Rattle.study_cli.proofs.CommandsReplied.{added_refused, added_turns, added_wide, brought, taken_written, refused_written, holds_none}
use Rattle.study_cli.proofs.CommandsReplied.{holds_one, stops_wide, stops_failed, wide_turns, failed_turns, added_failed}
use Rattle.study_cli.proofs.replying.take.Goals as goal

pub returns-in_ok-put_taken-in-Ok-clause-replied : goal.returns-in_ok-put_taken-in-Ok-clause-replied
returns-in_ok-put_taken-in-Ok-clause-replied g c =
    let k = content c.args.case.now in
    let old = looks_in c.args.register.now in
    let new = looks_in c.add.new.self in
    let T = c.in-Ok.ensures.taken k c.requires.study in
    let same = c.settled_after-rejections.ensures ∙ ap₂ drop (ap length c.settled-before.ensures.value) c.settled.ensures.value in
    taken_written k c.args.number old (g.K.Keeper.looks c.args.keeper.now) (g.K.Keeper.calls c.args.keeper.now) c.args.look.now
    (g.K.Keeper.looks c.add.new.keeper) c.args.text.now c.put_taken.new.text new c.settled_after-rejections.result.now T
    (same ∙ brought k old new c.args.look.now T) c.in-Ok.ensures.kept (g.K.Keeper.calls c.add.new.keeper)
    (c.add.ensures.turns ∙ ap (λ r. g.K.Keeper.calls c.args.keeper.now + turns_of r) c.in-Ok.is) c.in_ok-put_taken-in-Ok.ensures.put

pub returns-in_err-put_taken-in-Ok-clause-stopped : goal.returns-in_err-put_taken-in-Ok-clause-stopped
returns-in_err-put_taken-in-Ok-clause-stopped g c =
    let k = content c.args.case.now in
    let p = err_from_is_err_and c.from_residual.result c.from_residual.ensures.1 in
    rw (p.1, p.2) (holds_one k c.args.number (looks_in c.args.register.now) (g.K.Keeper.looks c.args.keeper.now) c.args.look.now (g.K.Keeper.looks c.add.new.keeper)
    (looks_in c.add.new.self)
    (c.in-Ok.ensures.taken k c.requires.study) c.in-Ok.ensures.kept)

pub returns-in_ok-put_refused-in-Err-Refused-clause-replied : goal.returns-in_ok-put_refused-in-Err-Refused-clause-replied
returns-in_ok-put_refused-in-Err-Refused-clause-replied g c =
    let k = content c.args.case.now in
    let old = looks_in c.args.register.now in
    let e = c.in-Err-Refused in
    let rose = Rose (g.K.Keeper.faults c.args.keeper.now) (g.K.Keeper.faults c.add.new.keeper) in
    refused_written k c.args.number old (g.K.Keeper.looks c.args.keeper.now) (g.K.Keeper.calls c.args.keeper.now) c.args.look.now
    (g.K.Keeper.looks c.add.new.keeper) c.args.text.now c.put_refused.new.text (looks_in c.add.new.self) e.fault
    (added_refused k old c.args.look.now rose e.field-0 e.fault e.field-0-is (e.ensures.fault k c.requires.study))
    (ap (λ s. s.looks) (e.ensures.refused e.fault (ap Err e.field-0-is)))
    e.ensures.unchanged (g.K.Keeper.calls c.add.new.keeper)
    (added_turns (g.K.Keeper.calls c.args.keeper.now) (g.K.Keeper.calls c.add.new.keeper) e.field-0 e.fault e.field-0-is
    (c.add.ensures.turns ∙ ap (λ r. g.K.Keeper.calls c.args.keeper.now + turns_of r) e.is)) (c.in_ok-put_refused-in-Err-Refused.ensures.put ∙ ap (λ f. c.args.text.now ++ refused_line c.args.number f) e.fault-is)

pub returns-in_err-put_refused-in-Err-Refused-clause-stopped : goal.returns-in_err-put_refused-in-Err-Refused-clause-stopped
returns-in_err-put_refused-in-Err-Refused-clause-stopped g c =
    let p = err_from_is_err_and c.from_residual-in_err-put_refused-in-Err-Refused.result c.from_residual-in_err-put_refused-in-Err-Refused.ensures.1 in
    rw (p.1, p.2) (holds_none (content c.args.case.now) c.args.number (looks_in c.args.register.now) (g.K.Keeper.looks c.args.keeper.now) (AskTake c.args.look.now ∷ [])
    (g.K.Keeper.looks c.add.new.keeper)
    c.in-Err-Refused.ensures.unchanged)

pub returns-in-Err-Wide-clause-stopped : goal.returns-in-Err-Wide-clause-stopped
returns-in-Err-Wide-clause-stopped g c =
    let k = content c.args.case.now in
    let old = looks_in c.args.register.now in
    let e = c.in-Err-Wide in
    let kept = g.K.Keeper.looks c.args.keeper.now in
    let held = g.K.Keeper.looks c.add.new.keeper in
    let rose = Rose (g.K.Keeper.faults c.args.keeper.now) (g.K.Keeper.faults c.add.new.keeper) in
    let before = g.K.Keeper.calls c.args.keeper.now in
    let now = g.K.Keeper.calls c.add.new.keeper in
    let place = c.next_place-place.result in
    subst (λ w. StopsCommands k rose c.args.number old (AskTake c.args.look.now ∷ []) kept held before now (Wide place w)) (sym e.wide-is)
    (stops_wide k c.args.number old kept c.args.look.now held before now rose place e.wide
    (added_wide k old c.args.look.now rose e.field-0 e.wide e.field-0-is (e.ensures.fault k c.requires.study)) c.next_place-place.ensures
    e.ensures.unchanged (wide_turns before now e.field-0 e.wide e.field-0-is (c.add.ensures.turns ∙ ap (λ r. before + turns_of r) e.is)))

pub returns-in-Err-Fault-clause-stopped : goal.returns-in-Err-Fault-clause-stopped
returns-in-Err-Fault-clause-stopped g c =
    let k = content c.args.case.now in
    let old = looks_in c.args.register.now in
    let e = c.in-Err-Fault in
    let rose = Rose (g.K.Keeper.faults c.args.keeper.now) (g.K.Keeper.faults c.add.new.keeper) in
    let before = g.K.Keeper.calls c.args.keeper.now in
    let now = g.K.Keeper.calls c.add.new.keeper in
    stops_failed k c.args.number old (g.K.Keeper.looks c.args.keeper.now) c.args.look.now (g.K.Keeper.looks c.add.new.keeper) before now rose
    (added_failed k old c.args.look.now rose e.field-0 e.field-0-is (e.ensures.fault k c.requires.study)) e.ensures.unchanged
    (failed_turns before now e.field-0 e.field-0-is (c.add.ensures.turns ∙ ap (λ r. before + turns_of r) e.is))
