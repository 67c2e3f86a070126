use Rattle.text_lines.proofs.FormReads.{one_said}
use Rattle.evidence_check.specs.DocumentLines.{kinds}
use Rattle.evidence_check.specs.Document.{document}
use Rattle.evidence_check.proofs.laws.lines_say_one_evidence.Goals as goal

pub returns : goal.returns
returns c = λ T rows a b h k. one_said kinds (document T) rows a b h k
