-- The tests of all sets of a case that has a p-value for each hypothesis, at its level.
use Rattle.std.specs.Prelude.{ℕ, Bool, length}
use Rattle.fraction.specs.View.{number_of}
use Rattle.case_model.specs.Sums.{number_at}
use Rattle.case_model.specs.Content.{Content, ForSingle, entangled}
use Rattle.case_model.specs.ClosedTest.{IsLocallyRejected, IsClosedRejected}
use Rattle.case_model.specs.SetAnswers.{AnswersFor}

-- a table answers for each set whether the local test rejects it
abbrev pub AreLocalAnswers : Content → (ℕ → Bool) → Type 0
AreLocalAnswers c table = ForSingle c.inputs (λ ps. AnswersFor (length c.names) (IsLocallyRejected (entangled c) (number_at ps) (number_of c.alpha)) table)

-- a table answers for each set whether the closed test rejects it
abbrev pub AreClosedAnswers : Content → (ℕ → Bool) → Type 0
AreClosedAnswers c table = ForSingle c.inputs (λ ps. AnswersFor (length c.names) (IsClosedRejected (entangled c) (number_at ps) (number_of c.alpha)) table)
