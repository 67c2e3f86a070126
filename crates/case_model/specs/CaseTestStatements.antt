-- The laws of cases at other levels, as contracts name them.
use Rattle.std.specs.Prelude.{◌≡◌, true}
use Rattle.field_core.specs.declared.ratio.Ratio.{Ratio}
use Rattle.case_model.specs.Draft.{is_level}
use Rattle.case_model.specs.Content.{Content}
use Rattle.case_model.specs.Validity.{IsValidContent}
use Rattle.case_model.specs.CaseTests.{at_level, IsUnstaged}

-- A case without stages is a case at each other level. (With stages it need not be, since the levels of a table sum to at most a share of the level.)
abbrev pub CasesAreValidAtEachLevel : Type 0
CasesAreValidAtEachLevel = (c : Content) (a : Ratio) → IsUnstaged c.inputs → IsValidContent c → is_level a ≡ true → IsValidContent (at_level c a)
