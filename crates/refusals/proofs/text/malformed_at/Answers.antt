use Rattle.std.proofs.Common.{◌∙◌, append_assoc}
use Rattle.refusals.specs.LinePieces.{malformed_at}
use Rattle.refusals.proofs.text.malformed_at.Goals as goal

pub returns : goal.returns
unfolding malformed_at
returns c = c.refusal.ensures ∙ rw c.in_ok-format.ensures.ok (simp append_assoc)
