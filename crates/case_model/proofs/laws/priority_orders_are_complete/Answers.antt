use Rattle.case_model.proofs.PriorityOrders.{first_order, last_order, ratio_order}
use Rattle.case_model.proofs.laws.priority_orders_are_complete.Goals as goal

pub returns-clause-first : goal.returns-clause-first
returns-clause-first c = first_order

pub returns-clause-last : goal.returns-clause-last
returns-clause-last c = last_order

pub returns-clause-ratio : goal.returns-clause-ratio
returns-clause-ratio c = λ E p level I js V. ratio_order E p level V I js
