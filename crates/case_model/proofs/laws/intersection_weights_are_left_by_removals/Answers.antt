use Rattle.case_model.proofs.IntersectionLaws.{intersection_left}
use Rattle.case_model.proofs.laws.intersection_weights_are_left_by_removals.Goals as goal

pub returns : goal.returns
returns c = λ E I js k V o same p. intersection_left E V I (λ _. js) k (λ _ _. (o, same)) p
