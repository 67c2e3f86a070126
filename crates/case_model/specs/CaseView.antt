-- Cases as contracts see them.
use Rattle.case_model.specs.Content.{Content}
use Rattle.case_model.specs.declared.case.Case.{Case}

-- what a case holds
abbrev pub content : Case → Content
content c = record { names = c.names; alpha = c.alpha; components = c.components; inputs = c.inputs }
