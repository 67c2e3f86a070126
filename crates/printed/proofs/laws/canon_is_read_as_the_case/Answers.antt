use Rattle.printed.proofs.CanonReadBack.{canon_reads_back, canon_apart}
use Rattle.printed.proofs.laws.canon_is_read_as_the_case.Goals as goal

pub returns-clause-back : goal.returns-clause-back
returns-clause-back c = canon_reads_back

pub returns-clause-apart : goal.returns-clause-apart
returns-clause-apart c = canon_apart
