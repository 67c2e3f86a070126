use Rattle.std.proofs.Common.{inl, inr}
use Rattle.answers.specs.declared.refusal.Refusal.{Refusal}
use Rattle.answers.proofs.Stopping.{source_stops, value_stops, handed_on}
use Rattle.case_model.specs.CaseView.{content}
use Rattle.graph_cli.specs.Accepted.{suitable}
use Rattle.graph_cli.proofs.HandedOn.{trouble_stops}
use Rattle.graph_cli.proofs.accepted.accepted_case.Goals as goal

pub returns-in_err-bytes-clause-ends : goal.returns-in_err-bytes-clause-ends
returns-in_err-bytes-clause-ends g c =
    handed_on _ _ _ c.from_residual.ensures.1
    (source_stops _ _ _ _ _ _ _ c.in_err-bytes.field-0.0 (λ (r : Refusal) h k. (inl h, k)) (λ f. f) (λ k. k) c.in_err-bytes.ensures.ends)

pub returns-in_err-case-clause-ends : goal.returns-in_err-case-clause-ends
returns-in_err-case-clause-ends g c =
    let bytes = c.in_ok-bytes.ensures.ends in
    handed_on _ _ _ c.from_residual-in_err-case.ensures.1
    (value_stops _ _ _ _ _ c.in_err-case.field-0.0 (λ (r : Refusal) h. (inr (c.in_ok-bytes.bytes, bytes.0, inl (rw c.as_slice.ensures at h)), bytes.1)) bytes.1
    c.in_err-case.ensures)

pub returns-in-Ok-clause-ends : goal.returns-in-Ok-clause-ends
returns-in-Ok-clause-ends g c =
    let bytes = c.in_ok-bytes.ensures.ends in
    ((c.in_ok-bytes.bytes, bytes.0, (content c.in_ok-case.case, rw c.as_slice.ensures at c.in_ok-case.ensures, c.in-Ok.ensures)), bytes.1)

pub returns-clause-ends : goal.returns-clause-ends
returns-clause-ends g c =
    let bytes = c.in_ok-bytes.ensures.ends in
    let read = rw c.as_slice.ensures at c.in_ok-case.ensures in
    trouble_stops (content c.in_ok-case.case).names (suitable c.args.needs (content c.in_ok-case.case)) _ _ _ _ c.in-Err.trouble c.stop.result
    c.in-Err.ensures c.stop.ensures
    (λ (r : Refusal) h. (inr (c.in_ok-bytes.bytes, bytes.0, inr (content c.in_ok-case.case, read, h)), bytes.1)) bytes.1
