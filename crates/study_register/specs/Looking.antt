-- Looks that a study takes, one after another (this project's own).
use Rattle.std.specs.Prelude.{◌≡◌, List, [], ◌∷◌, map}
use Rattle.graph_io.specs.declared.keeper.Look.{Look}
use Rattle.case_model.specs.declared.draft_stages.Arrival.{Arrival}
use Rattle.case_model.specs.Content.{Content}
use Rattle.staged_levels.specs.declared.event.Settled.{Settled}
use Rattle.staged_levels.specs.Studies.{StudyState, start}
use Rattle.staged_levels.specs.Looks.{IsDefined, IsLook}

-- the p-value of a look, as it arrives
abbrev pub arrival_of : Look → Arrival
arrival_of l = record { hypothesis = l.hypothesis; stage = l.stage; p = l.p }

-- the p-values of looks, in their order
abbrev pub arrivals_of : List Look → List Arrival
arrivals_of ls = map arrival_of ls

module _ (c : Content) where
  -- a look is taken: its p-value arrives, and the study is settled; all operations that are written for that are defined
  abbrev pub Takes : StudyState → Look → StudyState → Type 0
  Takes old l new = (added : List Settled) × IsLook c old (arrival_of l) added new

  -- looks are taken one after another
  abbrev pub Follows : StudyState → List Look → StudyState → Type 0
  Follows old [] new = new ≡ old
  Follows old (l ∷ ls) new = (mid : StudyState) × Takes old l mid × Follows mid ls new

  -- the case is opened, and then these looks are taken
  pub record AreTaken (looks : List Look) (s : StudyState) : Type 0 where
    pub opened : IsDefined c start
    pub follows : Follows start looks s
