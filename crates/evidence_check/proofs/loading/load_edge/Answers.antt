use Rattle.std.proofs.Common.{rules, ◌≡◌, sym, ap, ◌∙◌, Err}
use Rattle.case_numbers.specs.Numbers.{loaded_edge}
use Rattle.evidence_check.proofs.LoadSteps.{edge_refused, edge_done}
use Rattle.evidence_check.proofs.loading.load_edge.Goals as goal

pub returns-in_err-placed : goal.returns-in_err-placed
returns-in_err-placed g c =
    let e : c.from_residual.result ≡ Err c.in_err-placed.field-0.0 = search rules in
    e ∙ sym (edge_refused g.F.Number.parts _ _ _ _ _ c.edge-2.result (c.edge-2.ensures ∙ ap (loaded_edge g.F.CaseNumber.numbers) c.edge.ensures) _
    (sym c.placed.ensures ∙ c.in_err-placed.was))

pub returns : goal.returns
returns g c = sym (edge_done g.F.Number.parts _ _ _ _ _ c.edge-2.result (c.edge-2.ensures ∙ ap (loaded_edge g.F.CaseNumber.numbers) c.edge.ensures) _
    (sym c.placed.ensures ∙ c.in_ok-placed.was))
