-- The laws of studies, over every list of calls, as contracts name them.
use Rattle.std.specs.Prelude.{◌≡◌, ◌++◌, ◌↔◌, ℕ, List}
use Rattle.std.specs.List.{Contains}
use Rattle.field_core.specs.Sets.{whole}
use Rattle.case_model.specs.declared.draft_stages.Arrival.{Arrival}
use Rattle.case_model.specs.Content.{Content}
use Rattle.case_model.specs.LegalOrder.{IsListed, IsOrderBy}
use Rattle.case_model.specs.Validity.{IsValidContent}
use Rattle.case_model.specs.StagedCase.{IsStagedLegalIn, IsStagedRejectedIn}
use Rattle.staged_levels.specs.declared.event.Settled.{Settled}
use Rattle.staged_levels.specs.Studies.{StudyState, positions_of, IsStudyOf, IsSettled}
use Rattle.staged_levels.specs.Looks.{arrivals_of, rejected_in, AreLooks}
use Rattle.staged_levels.specs.StudyCalls.{Answered, Settles, AreCalls, AreCallsFromOpening, arrivals_in}

-- Whatever calls are made on a study of a case, and whatever they return, they leave a study of the case.
abbrev pub CallsLeaveStudies : Type 0
CallsLeaveStudies = (c : Content) (old new : StudyState) (es : List Answered) → IsStudyOf c old → AreCalls c old es new → IsStudyOf c new

-- The values are those of the accepted arrivals.
abbrev pub ValuesAreAccepted : Type 0
ValuesAreAccepted = (c : Content) (es : List Answered) (s : StudyState) → AreCallsFromOpening c es s → s.values ≡ arrivals_in es

-- Calls only append to the rejections: nothing is taken back.
abbrev pub RejectionsStay : Type 0
RejectionsStay = (c : Content) (old new : StudyState) (es : List Answered) → AreCalls c old es new
    → (more : List Settled) × (new.rejected ≡ old.rejected ++ more)

-- The rejections are a legal order on the values that have arrived.
abbrev pub StudiesHaveLegalOrders : Type 0
StudiesHaveLegalOrders = (c : Content) (s : StudyState) → IsStudyOf c s → IsOrderBy (IsStagedLegalIn c s.values) whole (positions_of s.rejected)

-- The staged closed test on these values rejects each of them.
abbrev pub StudiesRejectByTheStagedTest : Type 0
StudiesRejectByTheStagedTest = (c : Content) (s : StudyState) (j : ℕ) → IsStudyOf c s
    → IsListed (positions_of s.rejected) j → IsStagedRejectedIn c s.values j

-- Once a study is settled, its rejections are exactly those of the staged closed test on these values.
abbrev pub SettledStudiesDecide : Type 0
SettledStudiesDecide = (c : Content) (s : StudyState) (j : ℕ) → IsStudyOf c s → IsSettled c s
    → IsListed (positions_of s.rejected) j ↔ IsStagedRejectedIn c s.values j

-- the same values have arrived, in whatever order
abbrev pub HaveSameValues : StudyState → StudyState → Type 0
HaveSameValues s t = (a : Arrival) → Contains s.values a ↔ Contains t.values a

-- Two settled studies of one case with the same values have rejected the same hypotheses.
abbrev pub SettledStudiesAgree : Type 0
SettledStudiesAgree =
    (c : Content) (s t : StudyState) (j : ℕ) → IsStudyOf c s → IsStudyOf c t → IsSettled c s → IsSettled c t → HaveSameValues s t
    → IsListed (positions_of s.rejected) j ↔ IsListed (positions_of t.rejected) j

-- So, whatever calls were made since the opening: once a study is settled, the rejections are those of the staged closed test on the accepted arrivals.
abbrev pub SettlingDecides : Type 0
SettlingDecides =
    (c : Content) (es : List Answered) (s : StudyState) (j : ℕ) → AreCallsFromOpening c es s → IsSettled c s
    → IsListed (positions_of s.rejected) j ↔ IsStagedRejectedIn c (arrivals_in es) j

-- The looks at a case reject exactly the hypotheses that the staged closed test rejects on the p-values that arrived.
abbrev pub LooksDecide : Type 0
LooksDecide =
    (c : Content) (looks : List (List Settled)) (j : ℕ) → IsValidContent c → AreLooks c looks
    → IsListed (positions_of (rejected_in looks)) j ↔ IsStagedRejectedIn c (arrivals_of c.inputs) j

-- A study has one settling at most: the same rejections in the same order, with the same stages and weights.
abbrev pub SettlingsOfStudiesAreUnique : Type 0
SettlingsOfStudiesAreUnique = (c : Content) (old s t : StudyState) → Settles c old s → Settles c old t → s ≡ t
