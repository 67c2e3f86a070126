use Rattle.evidence_check.proofs.PValues.{p_at}
use Rattle.evidence_check.proofs.loading.p_value.Goals as goal

pub returns-clause-value : goal.returns-clause-value
returns-clause-value c = p_at _ _ _ _ _ c.args.k _ c.inputs.ensures.inputs c.in-Single.is c.inputs.ensures.p_values c.as_slice.ensures c.requires.k
    c.index-as_slice-k.is
