use Rattle.evidence_check.proofs.WrittenTexts.{frame_is}
use Rattle.evidence_check.proofs.laws.cases_have_frames.Goals as goal

pub returns : goal.returns
returns c = frame_is
