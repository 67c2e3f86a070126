use Rattle.std.proofs.Common.{inl, inr, refl}
use Rattle.answers.specs.declared.refusal.Refusal.{Refusal}
use Rattle.answers.proofs.Stopping.{source_stops, value_ends, handed_on, concluded, unrefused_handed_on}
use Rattle.case_model.specs.CaseView.{content}
use Rattle.case_model.specs.Content.{Content}
use Rattle.command_words.specs.Asked.{encoding}
use Rattle.graph_cli.specs.Accepted.{accepted}
use Rattle.graph_cli.specs.Commands.{check_call}
use Rattle.graph_cli.proofs.HandedOn.{reported_ends}
use Rattle.graph_cli.proofs.commands.check_call.Goals as goal

pub returns-in_err-accepted-clause-ends : goal.returns-in_err-accepted-clause-ends
unfolding check_call
returns-in_err-accepted-clause-ends g c =
    handed_on _ _ _ c.from_residual.ensures.1
    (source_stops _ _ _ _ _ _ _ c.in_err-accepted.field-0.0 (λ (r : Refusal) h k. (inl (rw c.check_needs.ensures at h), (k, refl)))
    (λ f. inl f) (λ k. (k, refl)) c.in_err-accepted.ensures.ends)

pub returns-in_err-bytes-clause-ends : goal.returns-in_err-bytes-clause-ends
unfolding check_call
returns-in_err-bytes-clause-ends g c =
    let taken = rw c.check_needs.ensures at c.in_ok-accepted.ensures.ends.0 in
    let clean = c.in_ok-accepted.ensures.ends.1 in
    handed_on _ _ _ c.from_residual-in_err-bytes.ensures.1
    (source_stops _ _ _ _ _ _ _ c.in_err-bytes.field-0.0 (λ (r : Refusal) h k. (inr (content c.in_ok-accepted.accepted, taken, inl h), (clean, k)))
    (λ f. inr ((content c.in_ok-accepted.accepted, taken), f)) (λ k. (clean, k)) c.in_err-bytes.ensures.ends)

pub returns-clause-ends : goal.returns-clause-ends
unfolding check_call
returns-clause-ends g c =
    let case = content c.in_ok-accepted.accepted in
    let taken = rw c.check_needs.ensures at c.in_ok-accepted.ensures.ends.0 in
    let bytes = c.in_ok-bytes.ensures.ends in
    let clean = c.in_ok-accepted.ensures.ends.1 in
    value_ends _ _ c.ending_of.result (λ x h. ((case, taken, (c.in_ok-bytes.bytes, bytes.0, h)), (clean, bytes.1)))
    (λ (r : Refusal) h. (inr (case, taken, inr (c.in_ok-bytes.bytes, bytes.0, h)), (clean, bytes.1))) (clean, bytes.1)
    (reported_ends _ _ c.check_answer-answer.result c.ending_of.result (rw c.as_slice.ensures at c.check_answer-answer.ensures) c.ending_of.ensures)

pub returns-in_err-bytes-clause-proof_kept : goal.returns-in_err-bytes-clause-proof_kept
returns-in_err-bytes-clause-proof_kept g c =
    λ h. absurd (h (content c.in_ok-accepted.accepted, rw c.check_needs.ensures at c.in_ok-accepted.ensures.ends.0))

pub returns-clause-proof_kept : goal.returns-clause-proof_kept
returns-clause-proof_kept g c = λ h. absurd (h (content c.in_ok-accepted.accepted, rw c.check_needs.ensures at c.in_ok-accepted.ensures.ends.0))

pub returns-in_err-accepted-clause-proof_asked : goal.returns-in_err-accepted-clause-proof_asked
returns-in_err-accepted-clause-proof_asked g c = λ none. unrefused_handed_on {A = Content} _
    (accepted (encoding c.args.format.now) c.check_needs.result (g.S.Source.left c.args.case.now)) _ _ _ c.in_err-accepted.field-0.0 c.from_residual.ensures.1
    (λ q h. none (q, rw c.check_needs.ensures at h)) c.in_err-accepted.ensures.ends

pub returns-in_err-bytes-clause-proof_asked : goal.returns-in_err-bytes-clause-proof_asked
returns-in_err-bytes-clause-proof_asked g c = λ none. concluded _ _ c.in_err-bytes.ensures.asked

pub returns-clause-proof_asked : goal.returns-clause-proof_asked
returns-clause-proof_asked g c = λ none. concluded _ _ c.in_ok-bytes.ensures.asked
