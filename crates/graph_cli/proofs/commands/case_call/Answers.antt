use Rattle.std.proofs.Common.{inl, inr}
use Rattle.answers.specs.declared.refusal.Refusal.{Refusal}
use Rattle.answers.proofs.Stopping.{source_stops, value_ends, handed_on}
use Rattle.case_model.specs.CaseView.{content}
use Rattle.graph_cli.specs.Commands.{case_call}
use Rattle.graph_cli.proofs.HandedOn.{reported_ends}
use Rattle.graph_cli.proofs.commands.case_call.Goals as goal

pub returns-in_err-case-clause-ends : goal.returns-in_err-case-clause-ends
unfolding case_call
returns-in_err-case-clause-ends g c =
    handed_on _ _ _ c.from_residual.ensures.1
    (source_stops _ _ _ _ _ _ _ c.in_err-case.field-0.0 (λ (r : Refusal) h k. (inl (rw c.needs_of.ensures at h), k)) (λ f. f) (λ k. k) c.in_err-case.ensures.ends)

pub returns-clause-ends : goal.returns-clause-ends
unfolding case_call
returns-clause-ends g c =
    let taken = rw c.needs_of.ensures at c.in_ok-case.ensures.ends.0 in
    let clean = c.in_ok-case.ensures.ends.1 in
    value_ends _ _ c.ending_of.result (λ x h. ((content c.in_ok-case.case, taken, h), clean))
    (λ (r : Refusal) h. (inr (content c.in_ok-case.case, taken, h), clean)) clean
    (reported_ends _ _ c.case_answer.result c.ending_of.result c.case_answer.ensures c.ending_of.ensures)
