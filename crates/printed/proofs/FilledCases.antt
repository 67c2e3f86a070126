-- The case of a named graph with a p-value for each hypothesis is a case.
use Rattle.std.proofs.Common.{◌≡◌, List, [], length, None}
use Rattle.field_core.specs.declared.ratio.Ratio.{Ratio}
use Rattle.case_model.specs.CaseFaults.{case_fault}
use Rattle.case_model.specs.Content.{content_of}
use Rattle.case_model.specs.Draft.{ArePValues}
use Rattle.case_model.specs.Validity.{IsValidContent}
use Rattle.case_model.specs.declared.inputs.Inputs.TheVariants.{Single}
use Rattle.case_model.proofs.DraftValidity.{valid_of}
use Rattle.case_model.proofs.ValidContents.{with_inputs}
use Rattle.catalogue.proofs.KnownEnds.{known_ends, known_arrivals}
use Rattle.catalogue.specs.WeightedGraphs.{WeightedGraph, names_of, draft_of}
use Rattle.sequential.specs.OtherPValues.{with_p}

pub filled_case : (G : WeightedGraph) (alpha : Ratio) (ps : List Ratio) → case_fault (draft_of G alpha []) ≡ None → ArePValues (length (names_of G.size)) ps
    → IsValidContent (with_p (content_of (draft_of G alpha [])) ps)
unfolding draft_of content_of
filled_case G alpha ps none h =
    let d = draft_of G alpha [] in
    with_inputs (content_of d) (Single ps) (valid_of d (known_ends G alpha []) (known_arrivals G alpha []) none) h
