use Rattle.evidence_check.proofs.Hypotheses.{step_below}
use Rattle.evidence_check.proofs.case_sums.hypothesis.Goals as goal

pub returns-clause-below : goal.returns-clause-below
returns-clause-below g c = λ m o. step_below c.args.steps.now c.args.e _ c.requires m o
