use Rattle.text_lines.proofs.HandedOn.{handed_on}
use Rattle.edge_text.proofs.Texts.{document_ends, document_arrivals, line_fault, draft_fault}
use Rattle.edge_text.proofs.text_reader.read_text.Goals as goal

pub returns-in_err-draft-clause-fault : goal.returns-in_err-draft-clause-fault
returns-in_err-draft-clause-fault c =
    handed_on c.from_residual.result c.in_err-draft.field-0.0 _ c.from_residual.ensures.1
    (line_fault c.args.bytes.now c.in_err-draft.field-0.0 c.in_err-draft.ensures.fault)

pub finish-requires-clause-ends : goal.finish-requires-clause-ends
finish-requires-clause-ends c = document_ends c.args.bytes.now c.in_ok-draft.field-0 c.in_ok-draft.ensures.found

pub finish-requires-clause-arrivals : goal.finish-requires-clause-arrivals
finish-requires-clause-arrivals c = document_arrivals c.args.bytes.now c.in_ok-draft.field-0 c.in_ok-draft.ensures.found

pub returns-in-Err-clause-fault : goal.returns-in-Err-clause-fault
returns-in-Err-clause-fault c = draft_fault c.args.bytes.now c.in_ok-draft.field-0 c.in-Err.refused c.text_fault.result c.in_ok-draft.ensures.found
    c.in-Err.ensures.fault c.in-Err.ensures.names c.text_fault.ensures
