use Rattle.field_core.proofs.SetOrders.{out_ascending, out_order, out_leaves, list_of_set}
use Rattle.field_core.proofs.ListOrder.{ordered, one_way, not_itself, both_then_second, second_then_none, none_then_first, first_is_last}
use Rattle.field_core.proofs.laws.sets.sets_are_lists_in_order.Goals as goal

pub returns-clause-left : goal.returns-clause-left
returns-clause-left c = λ m I. (out_ascending m I, out_order m I, out_leaves m I)

pub returns-clause-lists : goal.returns-clause-lists
returns-clause-lists c = list_of_set

pub returns-clause-order : goal.returns-clause-order
returns-clause-order c = λ js ks. (ordered js ks, λ b. one_way js ks b.0 b.1, not_itself js)

pub returns-clause-two : goal.returns-clause-two
returns-clause-two c = (both_then_second, second_then_none, none_then_first, first_is_last)
