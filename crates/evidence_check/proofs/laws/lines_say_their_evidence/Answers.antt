use Rattle.evidence_check.proofs.WrittenLines.{lines_say}
use Rattle.evidence_check.proofs.WrittenTexts.{text_says}
use Rattle.evidence_check.proofs.PrintedNumbers.{stored_printed}
use Rattle.evidence_check.proofs.laws.lines_say_their_evidence.Goals as goal

pub returns-clause-lines : goal.returns-clause-lines
returns-clause-lines c = lines_say

pub returns-clause-numbers : goal.returns-clause-numbers
returns-clause-numbers c = stored_printed

pub returns-clause-text : goal.returns-clause-text
returns-clause-text c = text_says
