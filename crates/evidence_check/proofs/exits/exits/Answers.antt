use Rattle.std.proofs.Common.{rules}
use Rattle.evidence_check.proofs.Hypotheses.{as_many}
use Rattle.evidence_check.proofs.ExitAnswers.{exits_are}
use Rattle.evidence_check.proofs.exits.exits.Goals as goal

pub returns : goal.returns
returns g c = exits_are _ _ _ _ _ _ _ _ _ (as_many c.args.steps.now) c.in_component-exits.ensures (c.all_below.ensures _ (λ r v b p. search rules))
