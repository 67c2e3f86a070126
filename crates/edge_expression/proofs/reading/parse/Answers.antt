use Rattle.std.proofs.lemmas.Result.{err_from_is_err_and}
use Rattle.edge_expression.proofs.ReadEntries.{scan_fault, found, fault}
use Rattle.edge_expression.proofs.reading.parse.Goals as goal

pub returns-in_err-scan-clause-fault : goal.returns-in_err-scan-clause-fault
returns-in_err-scan-clause-fault c =
    let p = err_from_is_err_and c.from_residual.result c.from_residual.ensures.1 in
    rw (p.1, p.2) (scan_fault c.args.text.now c.in_err-scan.field-0.0 c.in_err-scan.ensures)

pub returns-in_err-entry-clause-fault : goal.returns-in_err-entry-clause-fault
returns-in_err-entry-clause-fault c =
    let p = err_from_is_err_and c.from_residual-in_err-entry.result c.from_residual-in_err-entry.ensures.1 in
    rw (p.1, p.2) (fault c.args.text.now c.in_err-entry.field-0.0 c.in_ok-scan.ensures c.in_err-entry.ensures)

pub returns-clause-found : goal.returns-clause-found
returns-clause-found c = found c.args.text.now c.in_ok-entry.entry c.in_ok-scan.ensures c.in_ok-entry.ensures
