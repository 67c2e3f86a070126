use Rattle.std.proofs.Common.{◌≡◌, ◌≤◌, ◌+◌, drop, false}
use Rattle.case_model.specs.CaseView.{content}
use Rattle.staged_levels.specs.StudyContents.{IsStudy}
use Rattle.study_register.specs.RegisterView.{study_in, looks_in, is_spent}
use Rattle.study_cli.specs.Asking.{looks_asked}
use Rattle.study_cli.proofs.CommandsReplied.{AreSoFar}
use Rattle.study_cli.proofs.replying.replies.Given as goal

-- the commands so far have been replied to
abbrev pub invariant-loop-i : goal.invariant-loop-i
invariant-loop-i g l = record {
  far : AreSoFar (content l.case) (looks_in l.initial.register) l.commands (l.i + 1) (looks_in l.register) (drop l.i l.commands)
      (g.K.Keeper.looks l.initial.keeper) (g.K.Keeper.looks l.keeper) (g.K.Keeper.calls l.initial.keeper) (g.K.Keeper.calls l.keeper)
      l.initial.text l.text;
  study : IsStudy (content l.case) (study_in l.register);
  fresh : is_spent l.register ≡ false;
  same : g.K.Keeper.faults l.keeper ≡ g.K.Keeper.faults l.initial.keeper;
  turns : g.K.Keeper.calls l.keeper + looks_asked (drop l.i l.commands) ≤ g.K.Keeper.calls l.initial.keeper + looks_asked l.commands;
}
