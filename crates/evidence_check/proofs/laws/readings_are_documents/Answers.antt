use Rattle.text_lines.specs.Lines.{rows_of, end_of}
use Rattle.text_lines.specs.Forms.{words_seen}
use Rattle.text_lines.proofs.FormReads.{reading_as}
use Rattle.evidence_check.specs.DocumentLines.{kinds}
use Rattle.evidence_check.specs.Document.{document}
use Rattle.evidence_check.proofs.DocumentEnds.{faults_first}
use Rattle.evidence_check.proofs.DocumentLaws.{readings_are_evidence}
use Rattle.evidence_check.proofs.laws.readings_are_documents.Goals as goal

pub returns-clause-says : goal.returns-clause-says
returns-clause-says c = λ T bytes said. reading_as kinds (document T) (words_seen (rows_of bytes)) (end_of bytes) said

pub returns-clause-fault : goal.returns-clause-fault
returns-clause-fault c = faults_first

pub returns-clause-evidence : goal.returns-clause-evidence
returns-clause-evidence c = readings_are_evidence
