use Rattle.std.proofs.Common.{◌++◌, sym, ap₂, ◌∙◌, subst}
use Rattle.case_model.specs.CaseView.{content}
use Rattle.report.specs.StudyReport.{shown_line}
use Rattle.study_register.specs.RegisterView.{looks_in}
use Rattle.study_cli.specs.AnswerView.{IsRepliedTo}
use Rattle.study_cli.proofs.CommandsReplied.{shown_written}
use Rattle.study_cli.proofs.replying.reply.Goals as goal

pub returns-in_ok-put_shown-in-Show-clause-replied : goal.returns-in_ok-put_shown-in-Show-clause-replied
returns-in_ok-put_shown-in-Show-clause-replied g c =
    let k = content c.args.case.now in
    let s = looks_in c.args.register.now in
    let kept = g.K.Keeper.looks c.args.keeper.now in
    let before = g.K.Keeper.calls c.args.keeper.now in
    let text = c.args.text.now in
    let written = c.put_shown.new.text in
    subst (λ x. IsRepliedTo k c.args.number s x kept kept before before text written s) (sym c.in-Show.is)
    (shown_written k c.args.number s kept before text written
    (c.in_ok-put_shown-in-Show.ensures.put ∙ ap₂ (λ n rs. text ++ shown_line k n rs) c.count.ensures c.settled.ensures.value))
