use Rattle.std.proofs.Common.{◌∙◌, sym, ap, map, Ok}
use Rattle.std.specs.Option.{option_map}
use Rattle.field_core.specs.Kind.{ok_map}
use Rattle.evidence.proofs.RowAnswers.{row_is, zeros_for}
use Rattle.evidence.proofs.TableAnswers.{visits_none}
use Rattle.evidence.proofs.tables.new_visits.Goals as goal

pub returns-in_ok-zeros-in-None : goal.returns-in_ok-zeros-in-None
returns-in_ok-zeros-in-None g c =
    let parts = g.R.Value.Number.parts in
    let K = g.R.Value.Number.kind in
    let G = g.R.Remover.graph (g.R.Remover.present c.args.net.now) in
    visits_none K G c.args.j c.args.earlier.now _ _ (sym c.is_gone.ensures ∙ c.if-is_gone.false)
    (sym c.divisor.ensures.value ∙ ap (ok_map (option_map parts)) (c.in_ok-divisor.was ∙ ap Ok c.in-None.is))
    ∙ ap Ok (sym (c.in_ok-zeros-in-None.ensures ∙ zeros_for parts _ _
    ∙ ap (map (λ x. K.zero)) (row_is parts c.args.visits.now c.args.l _ c.row-own.ensures)))
