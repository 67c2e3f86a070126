-- Looks that are requested one after another: each is taken, or refused and changes nothing (this project's own).
use Rattle.std.specs.Prelude.{◌≡◌, ◌++◌, Bool, true, false, List, [], ◌∷◌}
use Rattle.graph_io.specs.declared.keeper.Look.{Look}
use Rattle.case_model.specs.Content.{Content}
use Rattle.staged_levels.specs.Studies.{StudyState}
use Rattle.study_register.specs.Looking.{Takes}

-- a look that was requested, and whether it was taken
pub record Replied : Type 0 where
  pub look : Look
  pub taken : Bool

-- the look, if it was taken
abbrev pub look_in : Look → Bool → List Look
look_in l true = l ∷ []
look_in l false = []

-- the looks that were taken, in their order
abbrev pub looks_taken : List Replied → List Look
looks_taken [] = []
looks_taken (r ∷ rs) = look_in r.look r.taken ++ looks_taken rs

module _ (c : Content) where
  -- the reply to one look: the look is taken, or the study stays as it was
  abbrev pub IsReply : StudyState → Look → Bool → StudyState → Type 0
  IsReply old l true new = Takes c old l new
  IsReply old l false new = new ≡ old

  -- replies one after another
  abbrev pub AreReplies : StudyState → List Replied → StudyState → Type 0
  AreReplies old [] new = new ≡ old
  AreReplies old (r ∷ rs) new = (mid : StudyState) × IsReply old r.look r.taken mid × AreReplies mid rs new
