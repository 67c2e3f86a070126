use Rattle.evidence.proofs.NetEvidence.{net_steps, net_evidence}
use Rattle.evidence.proofs.laws.flow_runs_make_evidence.Goals as goal

pub returns-clause-steps : goal.returns-clause-steps
returns-clause-steps g c = λ b p level js v O o h. net_steps g.R.Value.Number.kind g.R.Value.Number.IsStored g.met.R.Value.Number.exact g.R.Remover.graph
    g.R.Remover.IsProper g.R.Remover.removal g.met.R.Remover.exact b O p level js o v h

pub returns-clause-evidence : goal.returns-clause-evidence
returns-clause-evidence g c = λ b p level js v O o complete h. net_evidence g.R.Value.Number.kind g.R.Value.Number.IsStored g.met.R.Value.Number.exact
    g.R.Remover.graph g.R.Remover.IsProper g.R.Remover.removal g.met.R.Remover.exact b O p level js o complete v h
