-- Drafts that grow.
use Rattle.std.specs.Prelude.{ℕ, List, [], ◌∷◌, ◌++◌, Option, Some, None}
use Rattle.field_core.specs.declared.ratio.Ratio.{Ratio}
use Rattle.case_model.specs.declared.draft.Draft.{Draft}
use Rattle.case_model.specs.declared.draft_component.DraftComponent.{DraftComponent}
use Rattle.case_model.specs.declared.draft_edge.DraftEdge.{DraftEdge}
use Rattle.case_model.specs.declared.draft_stages.DraftStages.{DraftStages}
use Rattle.case_model.specs.declared.draft_stages.Arrival.{Arrival}
use Rattle.case_model.specs.declared.spend.Spend.{Spend}

-- the draft of a level and names
abbrev pub named : Ratio → List (List ℕ) → Draft
named alpha names = record { names = names; alpha = alpha; p = []; components = []; stages = None }

-- the draft with these p-values
abbrev pub with_p : Draft → List (Option Ratio) → Draft
with_p d p = record { names = d.names; alpha = d.alpha; p = p; components = d.components; stages = d.stages }

-- the draft with one component more
abbrev pub with_component : Draft → DraftComponent → Draft
with_component d component = record { names = d.names; alpha = d.alpha; p = d.p; components = d.components ++ component ∷ []; stages = d.stages }

-- a component without edges
abbrev pub edgeless : Ratio → List Ratio → DraftComponent
edgeless share weights = record { share = share; weights = weights; edges = [] }

-- the component with one edge more
abbrev pub with_edge : DraftComponent → DraftEdge → DraftComponent
with_edge k edge = record { share = k.share; weights = k.weights; edges = k.edges ++ edge ∷ [] }

-- the draft with these stages
abbrev pub with_stages : Draft → DraftStages → Draft
with_stages d stages = record { names = d.names; alpha = d.alpha; p = d.p; components = d.components; stages = Some stages }

-- stages without spends and p-values
abbrev pub counted : ℕ → DraftStages
counted count = record { count = count; spend = []; arrivals = [] }

-- the stages with one spend more
abbrev pub with_spend : DraftStages → Spend → DraftStages
with_spend s spend = record { count = s.count; spend = s.spend ++ spend ∷ []; arrivals = s.arrivals }

-- the stages with one p-value more
abbrev pub with_arrival : DraftStages → Arrival → DraftStages
with_arrival s arrival = record { count = s.count; spend = s.spend; arrivals = s.arrivals ++ arrival ∷ [] }
