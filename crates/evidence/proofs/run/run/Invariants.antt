use Rattle.std.proofs.Common.{◌≡◌, ◌<◌, [], Ok, map, take, length}
use Rattle.entangled.specs.BundleRun.{opened_after}
use Rattle.entangled.specs.BundleView.{bundled}
use Rattle.evidence_check.specs.EvidenceView.{step_parts}
use Rattle.evidence.specs.FlowRun.{flow_run, opening_state}
use Rattle.evidence.specs.TablesView.{tables_of}
use Rattle.evidence.proofs.RunSteps.{rest_from}
use Rattle.evidence.proofs.run.run.Given as goal

abbrev pub invariant-loop-s : goal.invariant-loop-s
invariant-loop-s g l = record {
  told :
      rest_from g.R.Value.Number.kind g.R.Remover.graph g.R.Remover.removal l.is_kept l.hypotheses l.s (map (step_parts g.R.Value.Number.parts) l.steps)
      (record { bundle = bundled l.bundle; tables = map (tables_of g.R.Value.Number.parts) l.tables })
      ≡ flow_run g.R.Value.Number.kind g.R.Remover.graph g.R.Remover.removal l.is_kept [] l.hypotheses
      (opening_state g.R.Value.Number.kind g.R.Remover.graph (bundled l.fn.bundle));
  count : length l.tables ≡ length (bundled l.fn.bundle).states;
  reached : l.s < length l.hypotheses → opened_after g.R.Value.Number.kind g.R.Remover.graph g.R.Remover.removal (bundled l.fn.bundle).states
      (bundled l.fn.bundle).shares (take l.s l.hypotheses) ≡ Ok (bundled l.bundle);
}
