use Rattle.case_model.proofs.IntersectionLaws.{intersection_monotone}
use Rattle.case_model.proofs.laws.intersection_weights_are_monotone.Goals as goal

pub returns : goal.returns
returns c = λ E I J k u v V. intersection_monotone E V I J k u v
