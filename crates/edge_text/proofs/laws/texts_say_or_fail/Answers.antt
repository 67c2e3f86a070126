use Rattle.edge_text.proofs.TextLaws.{says_or_fails, not_both}
use Rattle.edge_text.proofs.laws.texts_say_or_fail.Goals as goal

pub returns-clause-each : goal.returns-clause-each
returns-clause-each c = says_or_fails

pub returns-clause-apart : goal.returns-clause-apart
returns-clause-apart c = not_both
