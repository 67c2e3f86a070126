use Rattle.row_removal.specs.Laws.ClearingLaws.{divided_values, lowered_values}
use Rattle.row_removal.proofs.WrittenRows.{own_count}
use Rattle.row_removal.proofs.row.Row.clear.Goals as goal

pub lower-requires : goal.lower-requires
lower-requires c = rw c.divide.ensures.divided
    (own_count _ _ (divided_values _ _ c.args.self.now c.requires.some c.requires.proper).proper)

pub returns-clause-count : goal.returns-clause-count
returns-clause-count c = let d = divided_values _ _ c.args.self.now c.requires.some c.requires.proper in
    rw (c.lower.ensures, c.divide.ensures.divided) (lowered_values _ _ d.proper).proper.count
