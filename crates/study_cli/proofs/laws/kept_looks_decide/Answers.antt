use Rattle.study_cli.proofs.KeptLooks.{replies_decide, kept_looks_decide}
use Rattle.study_cli.proofs.laws.kept_looks_decide.Goals as goal

pub returns-clause-replies : goal.returns-clause-replies
returns-clause-replies c = replies_decide

pub returns-clause-end : goal.returns-clause-end
returns-clause-end c = kept_looks_decide
