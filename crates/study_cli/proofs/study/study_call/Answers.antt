use Rattle.std.proofs.Common.{refl, inr}
use Rattle.answers.proofs.Stopping.{handed_on, unrefused_handed_on}
use Rattle.case_model.specs.CaseView.{content}
use Rattle.case_model.specs.Content.{Content}
use Rattle.command_words.specs.Asked.{study_asked}
use Rattle.study_cli.specs.StudyOutcome.{case_of}
use Rattle.study_cli.proofs.AskedStudies.{case_is_staged}
use Rattle.study_cli.proofs.StudyParts.{case_stops, bytes_stop, commands_stop, replies_end}
use Rattle.study_cli.proofs.study.study_call.Goals as goal

pub returns-in_err-accepted-clause-ends : goal.returns-in_err-accepted-clause-ends
returns-in_err-accepted-clause-ends g c =
    handed_on _ _ _ c.from_residual.ensures.1
    (case_stops (study_asked c.args.call.now) (g.S.Source.left c.args.case.now) (g.T.Source.left c.args.commands.now) (g.K.Keeper.looks c.args.keeper.now)
    (g.K.Keeper.looks c.args.keeper.now) _ _ _ _ _ _ _ _ c.in_err-accepted.field-0.0
    refl refl refl (rw c.study_needs.ensures at c.in_err-accepted.ensures.ends))

pub returns-in_err-bytes-clause-ends : goal.returns-in_err-bytes-clause-ends
returns-in_err-bytes-clause-ends g c =
    let accepted = rw c.study_needs.ensures at c.in_ok-accepted.ensures.ends in
    handed_on _ _ _ c.from_residual-in_err-bytes.ensures.1
    (bytes_stop (study_asked c.args.call.now) (g.S.Source.left c.args.case.now) (g.T.Source.left c.args.commands.now) (g.K.Keeper.looks c.args.keeper.now)
    (g.K.Keeper.looks c.args.keeper.now) _ _ _ _ _ _ _ _ (content c.in_ok-accepted.accepted) accepted.0 accepted.1 refl
    c.in_err-bytes.field-0.0 refl c.in_err-bytes.ensures.ends)

pub returns-in_err-list-clause-ends : goal.returns-in_err-list-clause-ends
returns-in_err-list-clause-ends g c =
    let accepted = rw c.study_needs.ensures at c.in_ok-accepted.ensures.ends in
    let bytes = c.in_ok-bytes.ensures.ends in
    handed_on _ _ _ c.from_residual-in_err-list.ensures.1
    (commands_stop (study_asked c.args.call.now) (g.S.Source.left c.args.case.now) (g.T.Source.left c.args.commands.now) (g.K.Keeper.looks c.args.keeper.now)
    (g.K.Keeper.looks c.args.keeper.now) _ _ _ _ _ _ _ _ (content c.in_ok-accepted.accepted) accepted.0 accepted.1 refl
    c.in_ok-bytes.bytes bytes.0 bytes.1 c.in_err-list.field-0.0 refl (rw c.as_slice.ensures at c.in_err-list.ensures.ends))

pub study_answer-requires-clause-staged : goal.study_answer-requires-clause-staged
study_answer-requires-clause-staged g c =
    case_is_staged (study_asked c.args.call.now) (g.S.Source.left c.args.case.now) (content c.in_ok-accepted.accepted)
    (rw c.study_needs.ensures at c.in_ok-accepted.ensures.ends.0)

pub returns-clause-ends : goal.returns-clause-ends
returns-clause-ends g c =
    let accepted = rw c.study_needs.ensures at c.in_ok-accepted.ensures.ends in
    let bytes = c.in_ok-bytes.ensures.ends in
    let said = rw c.as_slice.ensures at c.in_ok-list.ensures.ends in
    replies_end (study_asked c.args.call.now) (g.S.Source.left c.args.case.now) (g.T.Source.left c.args.commands.now)
    (g.K.Keeper.looks c.args.keeper.now) _ _ _ _ _ _ _ _ _ (content c.in_ok-accepted.accepted) accepted.0
    c.in_ok-list.list (c.in_ok-bytes.bytes, bytes.0, said) accepted.1 bytes.1 c.study_answer.result
    (rw c.as_slice-2.ensures at c.study_answer.ensures.ends)

pub returns-in_err-bytes-clause-commands_kept : goal.returns-in_err-bytes-clause-commands_kept
returns-in_err-bytes-clause-commands_kept g c = λ none. absurd
    (none (content c.in_ok-accepted.accepted, rw c.study_needs.ensures at c.in_ok-accepted.ensures.ends.0))

pub returns-in_err-list-clause-commands_kept : goal.returns-in_err-list-clause-commands_kept
returns-in_err-list-clause-commands_kept g c = λ none. absurd
    (none (content c.in_ok-accepted.accepted, rw c.study_needs.ensures at c.in_ok-accepted.ensures.ends.0))

pub returns-clause-commands_kept : goal.returns-clause-commands_kept
returns-clause-commands_kept g c = λ none. absurd (none (content c.in_ok-accepted.accepted, rw c.study_needs.ensures at c.in_ok-accepted.ensures.ends.0))

pub returns-clause-keeper_kept : goal.returns-clause-keeper_kept
returns-clause-keeper_kept g c =
    let taken = rw c.study_needs.ensures at c.in_ok-accepted.ensures.ends.0 in
    let said = rw c.as_slice.ensures at c.in_ok-list.ensures.ends in
    λ none. absurd (none (content c.in_ok-accepted.accepted, taken, c.in_ok-list.list, (c.in_ok-bytes.bytes, c.in_ok-bytes.ensures.ends.0, said)))

pub returns-clause-turns : goal.returns-clause-turns
returns-clause-turns g c =
    let taken = rw c.study_needs.ensures at c.in_ok-accepted.ensures.ends.0 in
    let said = rw c.as_slice.ensures at c.in_ok-list.ensures.ends in
    inr (
      content c.in_ok-accepted.accepted,
      taken,
      c.in_ok-list.list,
      (c.in_ok-bytes.bytes, c.in_ok-bytes.ensures.ends.0, said),
      rw c.as_slice-2.ensures at c.study_answer.ensures.turns,
    )

pub returns-in_err-accepted-clause-commands_asked : goal.returns-in_err-accepted-clause-commands_asked
returns-in_err-accepted-clause-commands_asked g c = λ none. unrefused_handed_on {A = Content} _
    (case_of (study_asked c.args.call.now) (g.S.Source.left c.args.case.now)) _ _ _ c.in_err-accepted.field-0.0 c.from_residual.ensures.1
    (λ q h. none (q, h)) (rw c.study_needs.ensures at c.in_err-accepted.ensures.ends)
