use Rattle.std.proofs.Common.{rules, ◌≡◌, ◌∙◌, ◌∷◌, true, sym, ap, refl, map, Ok}
use Rattle.csv.specs.Records.{fields_of}
use Rattle.field_core.specs.Answers.{mapped}
use Rattle.case_csv.specs.Answers.{told}
use Rattle.case_csv.specs.Records.{records_left}
use Rattle.case_csv.specs.Table.{bare, header_of, sheet_of}
use Rattle.case_csv.specs.View.{cells_in, one_component, kept_draft}
use Rattle.case_csv.proofs.Results.{answered, passed, handed_on}
use Rattle.case_csv.proofs.Drafts.{sheet_read}
use Rattle.case_csv.proofs.read.draft.Goals as goal

pub returns-in_err-names : goal.returns-in_err-names
returns-in_err-names c =
    let fault = c.in_err-names.field-0.0 in
    let some : c.in_ok-found.found ≡ true = search rules in
    let left : records_left c.open-records.result ≡ fields_of c.next.new.row ∷ records_left c.next.new.records =
    rw some at c.in_ok-found.ensures.next in
    handed_on c.from_residual-in_err-names.result fault _ _ c.from_residual-in_err-names.ensures.1
    (ap (λ rs. mapped (kept_draft c.args.alpha) (sheet_of (cells_in rs))) (sym c.open-records.ensures.records ∙ left))
    (passed fault _ _ (passed fault (header_of (map bare (fields_of c.next.new.row))) _ c.in_err-names.ensures))

pub returns-in_err-table : goal.returns-in_err-table
returns-in_err-table c =
    let some : c.in_ok-found.found ≡ true = search rules in
    let left : records_left c.open-records.result ≡ fields_of c.next.new.row ∷ records_left c.next.new.records =
    rw some at c.in_ok-found.ensures.next in
    let all = sheet_read c.args.alpha c.args.bytes.now (fields_of c.next.new.row) (records_left c.next.new.records) c.in_ok-names.names
    c.as_slice.result.now c.width-columns.result (sym c.open-records.ensures.records ∙ left)
    (answered _ c.in_ok-names.names c.in_ok-names.ensures) c.width-columns.ensures c.as_slice.ensures in
    handed_on c.from_residual-in_err-table.result c.in_err-table.field-0.0 _ _ c.from_residual-in_err-table.ensures.1 all
    (passed c.in_err-table.field-0.0 _ (λ t. Ok (one_component c.args.alpha c.in_ok-names.names t)) c.in_err-table.ensures)

pub returns : goal.returns
returns c =
    let some : c.in_ok-found.found ≡ true = search rules in
    let left : records_left c.open-records.result ≡ fields_of c.next.new.row ∷ records_left c.next.new.records =
    rw some at c.in_ok-found.ensures.next in
    let all = sheet_read c.args.alpha c.args.bytes.now (fields_of c.next.new.row) (records_left c.next.new.records) c.in_ok-names.names
    c.as_slice.result.now c.width-columns.result (sym c.open-records.ensures.records ∙ left)
    (answered _ c.in_ok-names.names c.in_ok-names.ensures) c.width-columns.ensures c.as_slice.ensures in
    ap told (all ∙ ap (mapped (one_component c.args.alpha c.in_ok-names.names)) (answered _ c.in_ok-table.table c.in_ok-table.ensures))
    ∙ rw c.in_ok-one_component.ensures refl
