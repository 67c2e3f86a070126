use Rattle.std.proofs.Common.{◌∙◌, ◌++◌, [], ◌∷◌, sym, ap, ap₂, map, set, replicate}
use Rattle.std.proofs.lemmas.List.{map_push}
use Rattle.evidence.proofs.RowAnswers.{range_more, put_seen}
use Rattle.evidence.proofs.tables.unit_rows.Goals as goal

pub loop-l-preserved : goal.loop-l-preserved
loop-l-preserved g c =
    let parts = g.F.Number.parts in
    ap (map (map parts)) c.in_ok-push.ensures.pushed ∙ map_push (map parts) _ _
    ∙ ap₂ (λ xs x. xs ++ x ∷ []) c.loop-l.invariant
    (ap (map parts) c.put.ensures ∙ put_seen parts _ _ _ ∙ ap₂ (λ xs x. set xs c.loop-l.l x) c.in_ok-row.ensures c.one.ensures)
    ∙ sym (range_more (λ i. set (replicate c.args.size g.F.Number.kind.zero) i g.F.Number.kind.one) c.loop-l.l)
