use Rattle.edge_text.proofs.CanonicalCases.{canonical_reads_back, canonical_apart, canonical_again}
use Rattle.edge_text.proofs.laws.canonical_texts_read_back.Goals as goal

pub returns-clause-back : goal.returns-clause-back
returns-clause-back c = canonical_reads_back

pub returns-clause-apart : goal.returns-clause-apart
returns-clause-apart c = canonical_apart

pub returns-clause-again : goal.returns-clause-again
returns-clause-again c = canonical_again
