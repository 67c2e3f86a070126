use Rattle.std.proofs.Common.{refl}
use Rattle.textbook.proofs.ValidAlone.{fallback_valid, sequence_valid, holm_valid}
use Rattle.textbook.proofs.GateValid.{gatekeeping_valid}
use Rattle.textbook.proofs.rules.textbook_graphs_are_valid.Goals as goal

pub returns-clause-fallback : goal.returns-clause-fallback
returns-clause-fallback c = fallback_valid

pub returns-clause-sequence : goal.returns-clause-sequence
returns-clause-sequence c = sequence_valid

pub returns-clause-holm : goal.returns-clause-holm
returns-clause-holm c = λ E some A. holm_valid E A E.hypotheses refl some

pub returns-clause-gatekeeping : goal.returns-clause-gatekeeping
returns-clause-gatekeeping c = gatekeeping_valid
