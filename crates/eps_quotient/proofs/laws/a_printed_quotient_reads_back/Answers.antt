use Rattle.eps_quotient.proofs.ReadBack.{reads_back}
use Rattle.eps_quotient.proofs.laws.a_printed_quotient_reads_back.Goals as goal

pub returns : goal.returns
returns c = reads_back
