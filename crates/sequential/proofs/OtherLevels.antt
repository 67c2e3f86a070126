-- The opening of a case at another level.
use Rattle.std.proofs.Common.{◌≡◌, sym, ◌∙◌, inl, inr}
use Rattle.field_core.specs.declared.ratio.Ratio.{Ratio}
use Rattle.field_core.proofs.Live.{true_or_false}
use Rattle.case_model.specs.Content.{Content, is_plain}
use Rattle.case_model.specs.CaseTests.{at_level}
use Rattle.entangled.specs.CaseRun.{case_opening, opening_in}
use Rattle.entangled.proofs.CaseNumbers.{plain_opening, other_opening}

-- the level writes nothing in the opening
pub opening_at : (c : Content) (a : Ratio) → case_opening (at_level c a) ≡ case_opening c
unfolding opening_in is_plain
opening_at c a = elim (true_or_false (is_plain c)) [
  | inl t ↦ plain_opening (at_level c a) t ∙ sym (plain_opening c t)
  | inr f ↦ other_opening (at_level c a) f ∙ sym (other_opening c f)
]
