-- Calls on a study, and lists of them, with what they answer (this project's own).
use Rattle.std.specs.Prelude.{◌≡◌, ◌++◌, ℕ, Bool, true, false, List, [], ◌∷◌}
use Rattle.case_model.specs.declared.draft_stages.Arrival.{Arrival}
use Rattle.case_model.specs.Content.{Content}
use Rattle.case_model.specs.LegalOrder.{IsFirst}
use Rattle.case_model.specs.StagedCase.{IsStagedLegalIn}
use Rattle.staged_levels.specs.declared.event.Settled.{Settled}
use Rattle.staged_levels.specs.Studies.{StudyState, start, remaining, MayArrive, IsRejectionFrom, IsStudyOf, IsLegalNow, IsSettled}

-- ---- one call

-- a p-value arrives: it is appended to the values, and the rejections stay
pub record IsArrival (c : Content) (old : StudyState) (a : Arrival) (new : StudyState) : Type 0 where
  pub may : MayArrive c old.values a
  pub values : new.values ≡ old.values ++ a ∷ []
  pub rejected : new.rejected ≡ old.rejected

-- `k` is rejected: it is legal, it is appended to the rejections with its stage and its weight, and the values stay
pub record IsRejection (c : Content) (old : StudyState) (k : ℕ) (new : StudyState) : Type 0 where
  pub legal : IsLegalNow c old k
  pub line : Settled
  pub hypothesis : line.hypothesis ≡ k
  pub line_is : IsRejectionFrom c old.values (remaining old) line
  pub values : new.values ≡ old.values
  pub rejected : new.rejected ≡ old.rejected ++ line ∷ []

-- rejections one after another, each of the first hypothesis that is legal then
abbrev pub AreFirstRejections : Content → StudyState → List ℕ → StudyState → Type 0
AreFirstRejections c old [] new = new ≡ old
AreFirstRejections c old (k ∷ ks) new =
    IsFirst (IsStagedLegalIn c old.values) (remaining old) k × ((mid : StudyState) × IsRejection c old k mid × AreFirstRejections c mid ks new)

-- a settling of a study: the first legal hypothesis is rejected, until none is legal
pub record Settles (c : Content) (old new : StudyState) : Type 0 where
  pub hypotheses : List ℕ
  pub rejections : AreFirstRejections c old hypotheses new
  pub settled : IsSettled c new

-- a call on a study
pub data StudyCall : Type 0 where
  arrive : Arrival → StudyCall
  reject : ℕ → StudyCall
  settle : StudyCall

-- a call, and whether it was accepted
pub record Answered : Type 0 where
  pub call : StudyCall
  pub accepted : Bool

-- one call: an arrival or a rejection that is refused changes nothing, and a settling that stops part way keeps what it
-- rejected
abbrev pub IsCall : Content → StudyState → StudyCall → Bool → StudyState → Type 0
IsCall c old (arrive a) true new = IsArrival c old a new
IsCall c old (arrive a) false new = new ≡ old
IsCall c old (reject k) true new = IsRejection c old k new
IsCall c old (reject k) false new = new ≡ old
IsCall c old settle true new = Settles c old new
IsCall c old settle false new = (ks : List ℕ) × AreFirstRejections c old ks new

-- ---- lists of calls

-- calls one after another
abbrev pub AreCalls : Content → StudyState → List Answered → StudyState → Type 0
AreCalls c old [] new = new ≡ old
AreCalls c old (e ∷ es) new = (mid : StudyState) × IsCall c old e.call e.accepted mid × AreCalls c mid es new

-- the p-value of a call that is an arrival and was accepted
abbrev pub arrival_in : StudyCall → Bool → List Arrival
arrival_in (arrive a) true = a ∷ []
arrival_in (arrive a) false = []
arrival_in (reject k) b = []
arrival_in settle b = []

-- the arrivals that were accepted, in their order
abbrev pub arrivals_in : List Answered → List Arrival
arrivals_in [] = []
arrivals_in (e ∷ es) = arrival_in e.call e.accepted ++ arrivals_in es

-- calls on a study of the case `c` that was just opened
pub record AreCallsFromOpening (c : Content) (es : List Answered) (new : StudyState) : Type 0 where
  pub opened : IsStudyOf c start
  pub calls : AreCalls c start es new
