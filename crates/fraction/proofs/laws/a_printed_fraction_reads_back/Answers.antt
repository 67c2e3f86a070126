use Rattle.fraction.proofs.ReadBack.{read_back, spelling_some, spelling_bytes}
use Rattle.fraction.proofs.laws.a_printed_fraction_reads_back.Goals as goal

pub returns-clause-some : goal.returns-clause-some
returns-clause-some c = spelling_some

pub returns-clause-bytes : goal.returns-clause-bytes
returns-clause-bytes c = spelling_bytes

pub returns-clause-back : goal.returns-clause-back
returns-clause-back c = read_back
