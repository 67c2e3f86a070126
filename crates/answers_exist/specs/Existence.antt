-- By the definitions of the outcome, an outcome always exists.
use Rattle.std.specs.Prelude.{ℕ, List, Option}
use Rattle.graph_io.specs.declared.keeper.Look.{Look}
use Rattle.answers.specs.declared.answer.Answer.{Answer}
use Rattle.answers.specs.Stages.{Ends, IsAnswerOf}
use Rattle.graph_cli.specs.Outcome.{outcome}
use Rattle.study_cli.specs.StudyOutcome.{study_outcome}

-- Whatever the words, the case and the proof, there is an answer that they require. (A source may expose its bytes or not.)
abbrev pub CallsHaveAnAnswer : Type 0
CallsHaveAnAnswer = (words : List (List ℕ)) (case proof : Option (List ℕ)) → (a : Answer) × IsAnswerOf (outcome words case proof) a

-- Whatever the words, the case, the commands and the kept looks, there is an outcome: an answer with the looks that are kept in addition, or a refusal.
-- (Sources and keepers may expose what they hold or not.)
abbrev pub StudiesHaveAnOutcome : Type 0
StudiesHaveAnOutcome = (words : List (List ℕ)) (case commands : Option (List ℕ)) (kept : Option (List Look)) → Ends (study_outcome words case commands kept)
