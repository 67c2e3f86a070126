use Rattle.case_model.proofs.IntersectionLaws.{intersection_unit}
use Rattle.case_model.proofs.IntersectionTotals.{intersection_total}
use Rattle.case_model.proofs.laws.intersection_weights_are_weights.Goals as goal

pub returns-clause-range : goal.returns-clause-range
returns-clause-range c = λ E I k u V. intersection_unit E V I k u

pub returns-clause-total : goal.returns-clause-total
returns-clause-total c = λ E I w V. intersection_total E V I w
