use Rattle.printed.proofs.StagesAgree.{stages_agree}
use Rattle.printed.proofs.laws.stages_agree_in_every_order.Goals as goal

pub returns : goal.returns
returns c = stages_agree
