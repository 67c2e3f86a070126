use Rattle.std.proofs.Common.{◌∙◌, sym}
use Rattle.row_removal.specs.Laws.ClearingLaws.{nothing_common}
use Rattle.row_removal.proofs.row.Row.lower.Goals as goal

pub returns-then-content-eq1 : goal.returns-then-content-eq1
returns-then-content-eq1 c = sym (nothing_common _ c.args.self.now c.requires (sym c.order-power.ensures.value ∙ c.if-power-eq0.true)
    (sym c.content-content.ensures.value ∙ c.if-content-eq1.true))
