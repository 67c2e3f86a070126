use Rattle.std.proofs.Common.{rules}
use Rattle.evidence_check.proofs.Hypotheses.{as_many}
use Rattle.evidence_check.proofs.FlowAnswers.{flows_are}
use Rattle.evidence_check.proofs.flows.flows.Goals as goal

pub returns : goal.returns
returns g c = flows_are _ _ _ _ _ _ _ _ (as_many c.args.earlier.now) c.in_component-flows.ensures (c.all_below.ensures _ (λ r v b p. search rules))
