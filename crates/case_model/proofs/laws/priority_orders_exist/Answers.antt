use Rattle.case_model.proofs.PriorityOrders.{first_order_unique, last_order_unique, ratio_order_unique}
use Rattle.case_model.proofs.OrderExistence.{first_order_exists, last_order_exists, ratio_order_exists}
use Rattle.case_model.proofs.laws.priority_orders_exist.Goals as goal

pub returns-clause-first : goal.returns-clause-first
returns-clause-first c = λ E p level I V. first_order_exists E V p level I

pub returns-clause-last : goal.returns-clause-last
returns-clause-last c = λ E p level I V. last_order_exists E V p level I

pub returns-clause-ratio : goal.returns-clause-ratio
returns-clause-ratio c = λ E p level I V. ratio_order_exists E V p level I

pub returns-clause-one_first : goal.returns-clause-one_first
returns-clause-one_first c = first_order_unique

pub returns-clause-one_last : goal.returns-clause-one_last
returns-clause-one_last c = last_order_unique

pub returns-clause-one_ratio : goal.returns-clause-one_ratio
returns-clause-one_ratio c = ratio_order_unique
