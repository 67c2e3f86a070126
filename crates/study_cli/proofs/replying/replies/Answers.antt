use Rattle.std.proofs.Common.{rules, arith, ◌≡◌, ◌≤◌, ◌+◌, [], ◌∷◌, Err, refl, ap, ◌∙◌, subst, drop, length}
use Rattle.std.proofs.lemmas.List.{drop_all}
use Rattle.std.proofs.lemmas.Result.{err_from_is_err_and}
use Rattle.graph_io.specs.Causes.{Rose}
use Rattle.case_model.specs.CaseView.{content}
use Rattle.study_register.specs.RegisterView.{looks_in}
use Rattle.study_cli.specs.AnswerView.{StopsCommands}
use Rattle.study_cli.specs.Asking.{looks_asked}
use Rattle.study_cli.proofs.CommandsReplied.{begun, one_more, all_replied, stops_on, next_command, below_at}
use Rattle.study_cli.proofs.replying.replies.Goals as goal

pub reply-requires-clause-below : goal.reply-requires-clause-below
reply-requires-clause-below g c =
    below_at (length (content c.args.case.now).names) c.args.commands.now c.loop-i.i c.index-commands-i.result c.requires.below c.loop-i-test.true
    c.index-commands-i.is

pub loop-i-preserved : goal.loop-i-preserved
loop-i-preserved g c =
    let l = c.loop-i in
    let k = content c.args.case.now in
    let commands = c.args.commands.now in
    let looks = g.K.Keeper.looks in
    let at = c.index-commands-i.result in
    record {
      far = one_more k (looks_in c.args.register.now) commands (looks c.args.keeper.now) (g.K.Keeper.calls c.args.keeper.now) c.args.text.now (l.i + 1)
          (looks_in l.register)
          (looks_in c.reply.new.register) (drop l.i commands) (drop (l.i + 1) commands) at
          (looks l.keeper) (looks c.reply.new.keeper) (g.K.Keeper.calls l.keeper) (g.K.Keeper.calls c.reply.new.keeper) l.text c.reply.new.text
          (next_command commands l.i at c.loop-i-test.true c.index-commands-i.is) c.in_ok-reply.ensures.replied l.invariant.far;
      study = c.reply.ensures.study;
      fresh = c.in_ok-reply.ensures.fresh;
      same = c.in_ok-reply.ensures.counted (λ e. cc) ∙ l.invariant.same;
      turns =
          omega (arith, ap looks_asked (next_command commands l.i at c.loop-i-test.true c.index-commands-i.is), c.reply.ensures.turns, l.invariant.turns);
    }

pub returns-in_err-reply-clause-stopped : goal.returns-in_err-reply-clause-stopped
returns-in_err-reply-clause-stopped g c =
    let l = c.loop-i in
    let k = content c.args.case.now in
    let commands = c.args.commands.now in
    let looks = g.K.Keeper.looks in
    let at = c.index-commands-i.result in
    let now = g.K.Keeper.faults c.reply.new.keeper in
    let rose = Rose (g.K.Keeper.faults c.args.keeper.now) now in
    let stop = subst (λ n. StopsCommands k (Rose n now) (l.i + 1) (looks_in l.register) (at ∷ []) (looks l.keeper) (looks c.reply.new.keeper)
    (g.K.Keeper.calls l.keeper) (g.K.Keeper.calls c.reply.new.keeper) c.in_err-reply.field-0.0)
    l.invariant.same c.in_err-reply.ensures.stopped in
    let p = err_from_is_err_and c.from_residual.result c.from_residual.ensures.1 in
    rw (p.1, p.2) (stops_on k (looks_in c.args.register.now) commands (looks c.args.keeper.now) (g.K.Keeper.calls c.args.keeper.now) c.args.text.now rose (l.i + 1) (looks_in l.register) (drop l.i commands)
    (drop (l.i + 1) commands) at
    (looks l.keeper) (looks c.reply.new.keeper) (g.K.Keeper.calls l.keeper) (g.K.Keeper.calls c.reply.new.keeper) l.text c.in_err-reply.field-0.0
    (next_command commands l.i at c.loop-i-test.true c.index-commands-i.is) l.invariant.far stop)

pub loop-i-init : goal.loop-i-init
loop-i-init g c = record {
  far = begun (content c.args.case.now) (looks_in c.args.register.now) c.args.commands.now (g.K.Keeper.looks c.args.keeper.now)
      (g.K.Keeper.calls c.args.keeper.now) c.args.text.now;
  study = c.requires.study;
  fresh = c.requires.fresh;
  same = refl;
  turns = omega arith;
}

pub returns-in_err-reply-clause-counted : goal.returns-in_err-reply-clause-counted
returns-in_err-reply-clause-counted g c = λ other.
    let p = err_from_is_err_and c.from_residual.result c.from_residual.ensures.1 in
    c.in_err-reply.ensures.counted (λ e. other (p.1 ∙ ap Err p.2 ∙ e)) ∙ c.loop-i.invariant.same

pub returns-in_err-reply-clause-turns : goal.returns-in_err-reply-clause-turns
returns-in_err-reply-clause-turns g c =
    let l = c.loop-i in
    let commands = c.args.commands.now in
    omega (
      arith,
      ap looks_asked (next_command commands l.i c.index-commands-i.result c.loop-i-test.true c.index-commands-i.is),
      c.reply.ensures.turns,
      l.invariant.turns,
    )

pub returns-clause-replied : goal.returns-clause-replied
returns-clause-replied g c =
    let l = c.loop-i in
    let commands = c.args.commands.now in
    let end : length commands ≤ l.i = search rules in
    all_replied (content c.args.case.now) (looks_in c.args.register.now) commands (g.K.Keeper.looks c.args.keeper.now) (g.K.Keeper.calls c.args.keeper.now)
    c.args.text.now (l.i + 1) (looks_in l.register) (drop l.i commands) (g.K.Keeper.looks l.keeper) (g.K.Keeper.calls l.keeper) l.text
    (drop_all l.i commands end) l.invariant.far
