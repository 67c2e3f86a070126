use Rattle.study_register.proofs.OneEnd.{reopenings_agree}
use Rattle.study_register.proofs.TakenLooks.{one_more_is_taken, replies_are_taken, taken_looks_decide, orders_of_looks_agree}
use Rattle.study_register.proofs.laws.registers_decide.Goals as goal

pub returns-clause-one_more : goal.returns-clause-one_more
returns-clause-one_more c = one_more_is_taken

pub returns-clause-replies : goal.returns-clause-replies
returns-clause-replies c = replies_are_taken

pub returns-clause-decide : goal.returns-clause-decide
returns-clause-decide c = taken_looks_decide

pub returns-clause-orders : goal.returns-clause-orders
returns-clause-orders c = orders_of_looks_agree

pub returns-clause-again : goal.returns-clause-again
returns-clause-again c = reopenings_agree
