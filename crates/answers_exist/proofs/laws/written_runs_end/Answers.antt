use Rattle.std.proofs.Common.{inl, inr}
use Rattle.answers.proofs.Decided.{stage_ends}
use Rattle.evidence.specs.CaseFlows.{case_flows}
use Rattle.graph_cli.proofs.FlowEvidence.{flow_evidence}
use Rattle.answers_exist.proofs.AdjustedRuns.{adjusted_or_wide}
use Rattle.answers_exist.proofs.Decisions.{decision_or_wide}
use Rattle.answers_exist.proofs.SetRuns.{runs_or_wide, weights_exist}
use Rattle.answers_exist.proofs.StageLooks.{looks_or_wide}
use Rattle.answers_exist.proofs.laws.written_runs_end.Goals as goal

pub returns-clause-decisions : goal.returns-clause-decisions
returns-clause-decisions c = λ k priority ps V e. decision_or_wide k priority ps V e

pub returns-clause-adjusted : goal.returns-clause-adjusted
returns-clause-adjusted c = λ k ps V e. adjusted_or_wide k ps V e

pub returns-clause-looks : goal.returns-clause-looks
returns-clause-looks c = λ k V. looks_or_wide k V

pub returns-clause-sets : goal.returns-clause-sets
returns-clause-sets c = λ k V. elim (runs_or_wide k) [ inl D ↦ inl (D, weights_exist k V D) | inr f ↦ inr f ]

pub returns-clause-flows : goal.returns-clause-flows
returns-clause-flows c = λ k js V o. elim (stage_ends (case_flows k js)) [
  | inl v ↦ (let e = flow_evidence k V js o v.0 v.1 in inl (e.0, e.1, e.2, e.3))
  | inr w ↦ inr w
]
