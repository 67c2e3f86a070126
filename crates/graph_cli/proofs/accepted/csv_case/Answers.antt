use Rattle.std.proofs.Common.{inl, inr, ◌∙◌, ap}
use Rattle.field_core.proofs.Results.{handed}
use Rattle.case_csv.specs.Answers.{RowFault}
use Rattle.case_csv.specs.Reading.{IsCsvFault}
use Rattle.refusals.specs.CaseRefusal.{case_refusal}
use Rattle.graph_cli.proofs.accepted.csv_case.Goals as goal

pub returns-in-Ok : goal.returns-in-Ok
returns-in-Ok c =
    let h = c.in-Ok.ensures.case in
    (h.draft, h.says, (h.faultless, h.content_is))

pub returns-in_ok-cell_refusal-in-Err-Row : goal.returns-in_ok-cell_refusal-in-Err-Row
unfolding IsCsvFault
returns-in_ok-cell_refusal-in-Err-Row c =
    let fault : RowFault = record { row = c.in-Err-Row.row; column = c.in-Err-Row.column; kind = c.in-Err-Row.kind } in
    inl (fault, handed _ _ fault (rw c.in-Err-Row.field-0-is at c.in-Err-Row.ensures.fault), c.in_ok-cell_refusal-in-Err-Row.ensures)

pub returns-in_ok-case_refusal-in-Err-Case : goal.returns-in_ok-case_refusal-in-Err-Case
unfolding IsCsvFault
returns-in_ok-case_refusal-in-Err-Case c =
    let refused = c.in-Err-Case.refused in
    let h = rw c.in-Err-Case.field-0-is at c.in-Err-Case.ensures.fault in
    inr (
      h.draft,
      h.says,
      (
        refused.fault,
        h.fault_is,
        c.in_ok-case_refusal-in-Err-Case.ensures.line
            ∙ ap (λ names. case_refusal names refused.fault) (c.as_slice.ensures ∙ h.names_are),
      ),
    )
