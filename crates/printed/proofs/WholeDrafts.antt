-- What each edge of a draft has, each entry of the tables of its case has. So the tables have a coefficient for each power from 0 to 4 if the edges have, and
-- they are without epsilon if the edges are.
use Rattle.std.proofs.Common.{◌≡◌, refl, Bool, true, length}
use Rattle.std.specs.List.{list_all}
use Rattle.case_model.specs.declared.draft.Draft.{Draft}
use Rattle.case_model.specs.declared.draft_component.DraftComponent.{DraftComponent}
use Rattle.case_model.specs.declared.draft_edge.DraftEdge.{DraftEdge}
use Rattle.case_model.specs.Content.{content_of, has_coefficients, is_plain}
use Rattle.case_model.specs.Entries.{is_whole_entry, is_plain_entry}
use Rattle.catalogue.proofs.PlainCases.{tables_pass, plain_edge, no_edge_plain}

-- an edge with a coefficient for each power
abbrev pub whole_edge : DraftEdge → Bool
whole_edge e = is_whole_entry e.entry

-- a component with such edges
abbrev pub whole_component : DraftComponent → Bool
whole_component k = list_all whole_edge k.edges

-- a draft with such components
abbrev pub IsWhole : Draft → Type 0
IsWhole d = list_all whole_component d.components ≡ true

-- the tables of a draft with such edges have such entries
pub whole_content : (d : Draft) → IsWhole d → has_coefficients (content_of d).components ≡ true
unfolding has_coefficients content_of
whole_content d h = tables_pass is_whole_entry refl (length d.names) d.components h

-- ---- without epsilon

-- a draft with such edges has a case without epsilon
pub plain_content : (d : Draft) → list_all (λ (k : DraftComponent). list_all plain_edge k.edges) d.components ≡ true → is_plain (content_of d) ≡ true
unfolding is_plain content_of
plain_content d h = tables_pass is_plain_entry no_edge_plain (length d.names) d.components h
