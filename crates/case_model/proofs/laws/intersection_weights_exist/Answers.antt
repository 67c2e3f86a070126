use Rattle.case_model.proofs.IntersectionLaws.{intersection_exists, intersection_unique}
use Rattle.case_model.proofs.laws.intersection_weights_exist.Goals as goal

pub returns-clause-exist : goal.returns-clause-exist
returns-clause-exist c = λ E I k V. intersection_exists E V I k

pub returns-clause-unique : goal.returns-clause-unique
returns-clause-unique c = intersection_unique
