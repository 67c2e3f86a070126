use Rattle.std.proofs.Common.{inl, inr, refl, map, sym, []}
use Rattle.std.specs.Prelude.{string_bytes}
use Rattle.answers.proofs.Stopping.{handed_on}
use Rattle.command_words.specs.Asked.{study_asked}
use Rattle.study_cli.proofs.Looks.{with_none}
use Rattle.study_cli.proofs.AskedStudies.{asked_ends, first_on, second_on}
use Rattle.study_cli.proofs.study.answer.Goals as goal

pub returns-in_err-usage-in-Err-clause-ends : goal.returns-in_err-usage-in-Err-clause-ends
returns-in_err-usage-in-Err-clause-ends g c =
    handed_on _ _ _ c.from_residual.ensures.1
    (record { more = []; may = inl refl; held_is = sym (with_none (g.K.Keeper.looks c.args.keeper.now)) }, (refl, refl), refl)

pub returns-in-Ok-clause-ends : goal.returns-in-Ok-clause-ends
returns-in-Ok-clause-ends g c =
    asked_ends (map string_bytes c.args.words.now) (g.S.Source.left c.args.case.now) (g.T.Source.left c.args.commands.now)
    (g.K.Keeper.looks c.args.keeper.now) _ _ _ (study_asked c.in-Ok.call) (sym c.in-Ok.ensures) _ _ _ _ _ c.study_call.result c.study_call.ensures.ends

pub returns-in-Ok-clause-case : goal.returns-in-Ok-clause-case
returns-in-Ok-clause-case g c = record {
  untouched = λ none. absurd (none (study_asked c.in-Ok.call, (sym c.in-Ok.ensures)));
  end = λ reads. first_on c.study_call.result _ _ c.study_call.ensures.ended;
}

pub returns-in-Ok-clause-commands : goal.returns-in-Ok-clause-commands
returns-in-Ok-clause-commands g c = record {
  untouched = λ none. c.study_call.ensures.commands_kept (λ s. none (study_asked c.in-Ok.call, (sym c.in-Ok.ensures), s));
  end = λ reads. second_on c.study_call.result _ _ c.study_call.ensures.ended;
}

pub returns-in-Ok-clause-keeper_kept : goal.returns-in-Ok-clause-keeper_kept
returns-in-Ok-clause-keeper_kept g c = λ none. c.study_call.ensures.keeper_kept (λ s. none (study_asked c.in-Ok.call, (sym c.in-Ok.ensures), s))

pub returns-in-Ok-clause-turns : goal.returns-in-Ok-clause-turns
returns-in-Ok-clause-turns g c = inr (study_asked c.in-Ok.call, sym c.in-Ok.ensures, c.study_call.ensures.turns)

pub returns-in-Ok-clause-commands_asked : goal.returns-in-Ok-clause-commands_asked
returns-in-Ok-clause-commands_asked g c = λ reads none. c.study_call.ensures.commands_asked
    (λ r. none (study_asked c.in-Ok.call, sym c.in-Ok.ensures, r))
