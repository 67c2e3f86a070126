-- A case at another level is the content of a case still.
use Rattle.std.proofs.Common.{◌≡◌, ℕ, length, true}
use Rattle.field_core.specs.declared.ratio.Ratio.{Ratio}
use Rattle.case_model.specs.declared.inputs.Inputs.{Inputs}
use Rattle.case_model.specs.declared.inputs.Inputs.TheVariants.{Bare, Single, Staged}
use Rattle.case_model.specs.Draft.{is_level, is_short_level, is_level_range}
use Rattle.case_model.specs.Content.{Content}
use Rattle.case_model.specs.CaseTests.{at_level, IsUnstaged}
use Rattle.case_model.specs.Validity.{IsValidContent, AreValidInputs}
use Rattle.case_model.proofs.DraftTests.{above_zero}
use Rattle.case_model.proofs.Holding.{both}

unstaged_at : (m : ℕ) (alpha a : Ratio) (i : Inputs) → IsUnstaged i → AreValidInputs m alpha i → AreValidInputs m a i
unstaged_at m alpha a Bare u v = tt
unstaged_at m alpha a (Single ps) u v = v
unstaged_at m alpha a (Staged s) u v = absurd u

pub valid_at : (c : Content) (a : Ratio) → IsUnstaged c.inputs → IsValidContent c → is_level a ≡ true → IsValidContent (at_level c a)
unfolding is_level
valid_at c a u v l = record {
  names = v.names;
  some = v.some;
  few = v.few;
  short_level = (both (is_short_level a) (is_level_range a) l).left;
  level = above_zero a (both (is_short_level a) (is_level_range a) l).right;
  components = v.components;
  shares = v.shares;
  written = v.written;
  inputs = unstaged_at (length c.names) c.alpha a c.inputs u v.inputs;
}
