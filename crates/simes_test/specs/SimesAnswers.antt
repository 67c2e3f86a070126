-- Simes' test of all sets of a case that has a p-value for each hypothesis, at its level.
use Rattle.std.specs.Prelude.{◌<◌, ◌^◌, ℕ, Bool, length}
use Rattle.field_core.specs.declared.ratio.Ratio.{Ratio}
use Rattle.fraction.specs.View.{number_of}
use Rattle.case_model.specs.Sums.{number_at}
use Rattle.case_model.specs.Content.{Content, ForSingle, entangled}
use Rattle.case_model.specs.SetAnswers.{AnswersFor}
use Rattle.simes_test.specs.SimesTest.{IsSimesRejected, IsSimesClosed}
use Rattle.simes_test.specs.SimesSums.{AreSumsDefined}

-- a table answers for each set whether Simes' test rejects it
abbrev pub AreSimesAnswers : Content → (ℕ → Bool) → Type 0
AreSimesAnswers c table = ForSingle c.inputs (λ ps. AnswersFor (length c.names) (IsSimesRejected (entangled c) (number_at ps) (number_of c.alpha)) table)

-- a table answers for each set whether the closed test of Simes' test rejects it
abbrev pub AreSimesClosedAnswers : Content → (ℕ → Bool) → Type 0
AreSimesClosedAnswers c table = ForSingle c.inputs (λ ps. AnswersFor (length c.names) (IsSimesClosed (entangled c) (number_at ps) (number_of c.alpha)) table)

-- by these weights the sums of all members of all sets are defined
abbrev pub AreAllSumsDefined : Content → (ℕ → ℕ → Ratio) → Type 0
AreAllSumsDefined c weight = ForSingle c.inputs (λ ps. (n : ℕ) → n < 2 ^ length c.names → AreSumsDefined (length c.names) ps weight n)
