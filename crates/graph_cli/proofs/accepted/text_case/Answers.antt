use Rattle.std.proofs.Common.{inl, inr, ◌∙◌, ap}
use Rattle.edge_text.specs.Reading.{IsTextFault}
use Rattle.refusals.specs.CaseRefusal.{case_refusal}
use Rattle.graph_cli.proofs.accepted.text_case.Goals as goal

pub returns-in_ok-line_refusal-in-Err-Line : goal.returns-in_ok-line_refusal-in-Err-Line
unfolding IsTextFault
returns-in_ok-line_refusal-in-Err-Line c =
    let line = c.in-Err-Line in
    inl (record { line = line.n; kind = line.kind }, rw line.field-0-is at line.ensures.fault, c.in_ok-line_refusal-in-Err-Line.ensures)

pub returns-in_ok-case_refusal-in-Err-Case : goal.returns-in_ok-case_refusal-in-Err-Case
unfolding IsTextFault
returns-in_ok-case_refusal-in-Err-Case c =
    let refused = c.in-Err-Case.refused in
    let h = rw c.in-Err-Case.field-0-is at c.in-Err-Case.ensures.fault in
    inr (
      h.draft,
      h.says,
      (
        refused.fault,
        h.fault_is,
        c.in_ok-case_refusal-in-Err-Case.ensures.line
            ∙ ap (λ names. case_refusal names refused.fault) (c.as_slice.ensures ∙ h.names_are),
      ),
    )
