-- What flow runs of nets give, as contracts name it.
use Rattle.std.specs.Prelude.{◌≡◌, ℕ, List, [], map, Result, Ok}
use Rattle.field_core.specs.declared.place.Wide.{Wide}
use Rattle.field_core.specs.Number.{Number}
use Rattle.field_core.specs.Sets.{whole}
use Rattle.field_core.specs.Kind.{Kind}
use Rattle.case_model.specs.EntangledGraph.{EntangledGraph}
use Rattle.case_model.specs.LegalOrder.{IsLegalOrder, IsComplete}
use Rattle.removal.specs.StoredGraph.{StoredGraph}
use Rattle.entangled.specs.Bundled.{Bundled, size, opened}
use Rattle.entangled.specs.BundleRun.{AreReady, by_value}
use Rattle.evidence_check.specs.Evidence.{listed, AreGoodSteps, MeetsConditions, KeepsOthers}
use Rattle.evidence_check.specs.EvidenceParts.{step_values}
use Rattle.evidence_check.specs.CheckStatements.{evidence_values}
use Rattle.evidence.specs.FlowRun.{WrittenEvidence, evidence_run}

module _ {S : Type 0} (K : Kind) (graph : S → StoredGraph) (IsProper : S → Type 0) where
  -- nets as just opened: all hypotheses remain, and the levels are those of the opening
  pub record IsOpened (b : Bundled S) : Type 0 where
    pub ready : AreReady K graph IsProper b.states b.shares
    pub levels : opened K graph b.states b.shares ≡ Ok b

  -- the entangled graph of nets, by value
  abbrev pub graph_by_value : Bundled S → EntangledGraph
  graph_by_value b = by_value K graph b.states b.shares

  module _ (removal : S → ℕ → Result S Wide) where
    -- A run along a legal order gives the steps of the order, and they are good.
    abbrev pub FlowRunsGiveSteps : Type 0
    FlowRunsGiveSteps =
        (b : Bundled S) (p : ℕ → Number) (level : Number) (js : List ℕ) (v : WrittenEvidence) → IsOpened b
        → IsLegalOrder (graph_by_value b) p level whole js
        → evidence_run K graph removal b js ≡ Ok v
        → (listed (map (step_values K) v.steps) ≡ js) × AreGoodSteps (graph_by_value b) p level [] (map (step_values K) v.steps)

    -- A run along a complete legal order gives evidence that meets the conditions, with keeps for all others.
    abbrev pub FlowRunsGiveEvidence : Type 0
    FlowRunsGiveEvidence =
        (b : Bundled S) (p : ℕ → Number) (level : Number) (js : List ℕ) (v : WrittenEvidence) → IsOpened b
        → IsLegalOrder (graph_by_value b) p level whole js → IsComplete (graph_by_value b) p level whole js
        → evidence_run K graph removal b js ≡ Ok v
        → MeetsConditions (graph_by_value b) p level (evidence_values K v.steps v.keeps) × KeepsOthers (size graph b) (evidence_values K v.steps v.keeps)
