use Rattle.std.proofs.Common.{◌∙◌, append_assoc}
use Rattle.refusals.specs.WideRefusal.{wide_refusal}
use Rattle.refusals.proofs.wide.wide_refusal.Goals as goal

pub returns : goal.returns
unfolding wide_refusal
returns c = c.refusal.ensures ∙ rw (c.in_ok-line.ensures.ok, c.of-when.ensures, c.of-place.ensures, c.op_words-op.ensures) (simp append_assoc)
