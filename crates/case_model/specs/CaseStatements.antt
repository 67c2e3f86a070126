-- Laws of cases.
use Rattle.case_model.specs.EntangledGraph.{IsValidEntangled}
use Rattle.case_model.specs.Content.{Content, entangled}
use Rattle.case_model.specs.Validity.{IsValidContent}

-- The entangled graph of the content of a case is valid.
abbrev pub EntangledGraphsAreValid : Type 0
EntangledGraphsAreValid = (c : Content) → IsValidContent c → IsValidEntangled (entangled c)
